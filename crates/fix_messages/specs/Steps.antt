-- What the private functions of a feed say of one message.
use denote.Ref.{Bor}
use Rattle.std.specs.Prelude.{◌≡◌, ℕ, Bool, ◌&&◌, nat_lt, ◌+◌, ◌<◌, ◌≤◌, Option, Some, None, Result, Ok, Err, List, [], length}
use Rattle.std.specs.List.{list_all}
use Rattle.std.specs.Option.{option_to_list}
use Rattle.audit_base.specs.Names.{is_name}
use Rattle.audit_base.specs.declared.faults.Reason.{Reason}
use Rattle.audit_base.specs.declared.faults.BadPlace.{BadPlace}
use Rattle.audit_base.specs.declared.records.OrderRecord.{OrderRecord}
use Rattle.audit_base.specs.declared.records.OrderRecord.TheVariants as record_of
use Rattle.audit_base.specs.declared.terms.Life.{Life}
use Rattle.log_source.specs.Handing.{HandsOnMore}
use Rattle.log_source.specs.Sources.{longest_read}
use Rattle.fix_fields.specs.Grammar.{TagValue}
use Rattle.fix_framing.specs.Frames.{frame_fault}
use Rattle.fix_framing.specs.Framing.{next_text, bytes_unframed}
use Rattle.fix_framing.specs.declared.frames.FrameFault.TheVariants.{Truncated}
use Rattle.fix_messages.specs.declared.meanings.MessageFault.{MessageFault}
use Rattle.fix_messages.specs.declared.feeds.FixFeed.{FixFeed}
use Rattle.fix_messages.specs.declared.heads.MessageHead.{MessageHead}
use Rattle.fix_messages.specs.declared.writers.MessageTerms.{MessageTerms}
use Rattle.fix_messages.specs.Bodies.{MessageMeaning}
use Rattle.fix_messages.specs.Feeds.{HasReadMessages, AreFixFeedFields}

-- A body that says this was taken: a record that it means was handed on, and the first test that
-- it fails is the answer.
abbrev pub TakesSaid : {R : Type 0} → Result (Option R) Reason → (List R → Type 0)
    → (List R → Type 0) → Result (Unit {0}) Reason → Type 0
TakesSaid (Ok new) before after answer =
    HandsOnMore before after (option_to_list new) × (answer ≡ Ok tt)
TakesSaid (Err why) before after answer = HandsOnMore before after [] × (answer ≡ Err why)

-- The framer of a feed stands for some log that is no longer than a log that is read may be.
pub record HasLog {K R : Type 0} (has_taken : K → List R → Type 0) (meaning : MessageMeaning R)
    (feed : FixFeed K) : Type 0 where
  pub log : List ℕ
  pub reads : HasReadMessages (has_taken feed.entries) meaning feed.framer log
  pub within : length log ≤ longest_read

-- A good message was taken: what was read of a log stays read, with the
-- message, and fewer bytes are left.
pub record TakesMessage {K R : Type 0} (has_taken : K → List R → Type 0)
    (meaning : MessageMeaning R) (old new : FixFeed K) : Type 0 where
  pub good : new.bad ≡ None
  pub reads : (log : List ℕ) → HasReadMessages (has_taken old.entries) meaning old.framer log
      → HasReadMessages (has_taken new.entries) meaning new.framer log
  pub shorter : length (bytes_unframed new.framer) < length (bytes_unframed old.framer)

-- No message was left to take, or a bad one came: the feed stands for each log that was read so
-- far. Where none is bad, what is left is no whole message.
pub record TakesNoMessage {K R : Type 0} (has_taken : K → List R → Type 0)
    (meaning : MessageMeaning R) (old new : FixFeed K) : Type 0 where
  pub stands : (log : List ℕ) → HasReadMessages (has_taken old.entries) meaning old.framer log
      → AreFixFeedFields (has_taken new.entries) meaning new.framer new.bad log
  pub cut : new.bad ≡ None → frame_fault (next_text new.framer) ≡ Some Truncated

-- the place of a bad message after the records that were handed on
abbrev pub IsBadMessagePlace : {R : Type 0} → (List R → Type 0) → ℕ → Reason → BadPlace → Type 0
IsBadMessagePlace has_taken start why bad =
    (entries : List _) → has_taken entries
    → bad ≡ record { place = length entries + 1; offset = start; reason = why }

-- the records of an order's parts
abbrev pub fix_new_order : MessageHead → MessageTerms → Life → OrderRecord
fix_new_order head terms life =
    record_of.New head.key head.time head.symbol terms.side terms.quantity terms.price life

abbrev pub fix_cancel_order : MessageHead → List ℕ → OrderRecord
fix_cancel_order head target = record_of.Cancel head.key head.time head.symbol target

abbrev pub fix_replace_order : MessageHead → MessageTerms → List ℕ → OrderRecord
fix_replace_order head terms target =
    record_of.Replace head.key head.time head.symbol target terms.side terms.quantity terms.price

-- a field that is written, as the writers hold it
abbrev pub field_written : ℕ × Bor (List ℕ) → TagValue
field_written row = record { tag = row.0; value = row.1.now }

-- the tag has 1 to 3 digits, and the value is in the form of a name
abbrev pub is_short_field : TagValue → Bool
is_short_field field = nat_lt 0 field.tag && nat_lt field.tag 1000 && is_name field.value

-- each of these fields is short
abbrev pub are_short_fields : List TagValue → Bool
are_short_fields fields = list_all is_short_field fields

-- a text that was found, as its bytes
abbrev pub as_bytes : Result (Bor (List ℕ)) MessageFault → Result (List ℕ) MessageFault
as_bytes (Ok text) = Ok text.now
as_bytes (Err why) = Err why

-- the same, where there may be none
abbrev pub as_some_bytes : Result (Option (Bor (List ℕ))) MessageFault
    → Result (Option (List ℕ)) MessageFault
as_some_bytes (Ok None) = Ok None
as_some_bytes (Ok (Some text)) = Ok (Some text.now)
as_some_bytes (Err why) = Err why
