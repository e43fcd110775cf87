-- What the body of a message says, by what its fields mean in a kind of log.
use Rattle.std.specs.Prelude.{◌≡◌, ◌⊎◌, ⊤, ℕ, Option, Result, Ok, Err, List, [], ◌∷◌, length, if◌then◌else◌}
use Rattle.audit_base.specs.declared.faults.Reason.{Reason}
use Rattle.audit_base.specs.declared.faults.Reason.TheVariants as reason
use Rattle.fix_fields.specs.Grammar.{TagValue, Fields, IsUnreadable, LacksType, begins_with_type, bytes_of}
use Rattle.fix_messages.specs.declared.meanings.MessageFault.{MessageFault}
use Rattle.fix_messages.specs.declared.meanings.MessageFault.TheVariants.{Missing, Repeated, Value, Unsupported}
use Rattle.fix_messages.specs.BodyFields.{split_of}

-- what the fields of a message mean in a kind of log: a record, or
-- nothing, or the first test that they fail
abbrev pub MessageMeaning : Type 0 → Type 0
MessageMeaning R = List TagValue → Result (Option R) MessageFault

-- a message's fault as the reason of a bad place
abbrev pub fault_reason : MessageFault → Reason
fault_reason (Missing tag) = reason.Missing tag
fault_reason (Repeated tag) = reason.Repeated tag
fault_reason (Value tag) = reason.Value tag
fault_reason (Unsupported tag) = reason.Unsupported tag

-- what a message means, where its fault is given as the reason of a bad place
abbrev pub with_reason : {R : Type 0} → Result (Option R) MessageFault → Result (Option R) Reason
with_reason (Ok entry) = Ok entry
with_reason (Err fault) = Err (fault_reason fault)

-- the body has fields, and this is what they mean
pub record SaysFields {R : Type 0} (meaning : MessageMeaning R) (body : List ℕ)
    (said : Result (Option R) Reason) : Type 0 where
  pub fields : List TagValue
  pub read : Fields body fields
  pub means : said ≡ with_reason (meaning fields)

-- a field of the body cannot be read, and the first such begins at this byte
pub record SaysUnreadable {R : Type 0} (body : List ℕ) (said : Result (Option R) Reason)
    : Type 0 where
  pub at : ℕ
  pub unreadable : IsUnreadable body at
  pub means : said ≡ Err (reason.Field at)

-- the body has no message type
pub record SaysUntyped {R : Type 0} (body : List ℕ) (said : Result (Option R) Reason)
    : Type 0 where
  pub untyped : LacksType body
  pub means : said ≡ Err reason.MsgType

-- what a body says: what its fields mean, or that one is unreadable, or that it has no type
abbrev pub BodySays : {R : Type 0} → MessageMeaning R → List ℕ → Result (Option R) Reason → Type 0
BodySays meaning body said =
    SaysFields meaning body said ⊎ (SaysUnreadable body said ⊎ SaysUntyped body said)

-- the bodies say these records in turn, each its own one or nothing, and there are no more
abbrev pub BodiesSay : {R : Type 0} → MessageMeaning R → List (List ℕ) → List (Option R) → Type 0
BodiesSay meaning [] [] = ⊤
BodiesSay meaning [] (said ∷ others) = ⊥
BodiesSay meaning (body ∷ bodies) [] = ⊥
BodiesSay meaning (body ∷ bodies) (said ∷ others) =
    BodySays meaning body (Ok said) × BodiesSay meaning bodies others

-- what fields say after which these bytes are left
abbrev pub says_of : {R : Type 0} → MessageMeaning R → List TagValue → List ℕ
    → Result (Option R) Reason
says_of meaning fields [] =
    if begins_with_type fields then with_reason (meaning fields) else Err reason.MsgType
says_of meaning fields (byte ∷ left) = Err (reason.Field (length (bytes_of fields)))

-- what a body says, found from its front: `BodySays` holds of it
-- and of nothing else (`BodySaysOnce`)
unfoldable pub body_says : {R : Type 0} → MessageMeaning R → List ℕ → Result (Option R) Reason
body_says meaning body = says_of meaning (split_of body).fields (split_of body).left
