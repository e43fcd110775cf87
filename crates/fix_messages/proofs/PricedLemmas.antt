-- A market order that is read has the market price of its side.
use Rattle.std.proofs.Common.{◌≡◌, ℕ, [], ◌∷◌, List, refl, inl, inr, Ok, Err, Result, Option, Some, None}
use Rattle.std.specs.Prelude.{⊤, IfOk, IfSome, codes, ◌||◌}
use Rattle.std.specs.List.{All}
use Rattle.std.proofs.lemmas.Bool.{cases_Bool}
use Rattle.std.proofs.lemmas.List.Elements.{All-cons, All-nil}
use Rattle.audit_base.specs.Numbers.{market_price}
use Rattle.audit_base.specs.declared.records.OrderRecord.{OrderRecord}
use Rattle.audit_base.specs.declared.records.OrderRecord.TheVariants as record_of
use Rattle.audit_base.specs.declared.terms.Life.{Life}
use Rattle.audit_base.specs.declared.terms.Life.TheVariants as life
use Rattle.audit_base.specs.declared.terms.Side.{Side}
use Rattle.audit_base.specs.declared.faults.BadPlace.{BadPlace}
use Rattle.audit_base.specs.declared.faults.Reason.{Reason}
use Rattle.fix_fields.specs.Grammar.{TagValue, begins_with_type}
use Rattle.fix_framing.specs.declared.frames.FrameFault.{FrameFault}
use Rattle.fix_messages.specs.declared.heads.MessageHead.{MessageHead}
use Rattle.fix_messages.specs.declared.meanings.MessageFault.{MessageFault}
use Rattle.fix_messages.specs.declared.orders.OrderType.{OrderType}
use Rattle.fix_messages.specs.declared.orders.OrderType.TheVariants as limits
use Rattle.fix_messages.specs.Rows.{◌>>=◌, message_head, is_copy, is_value_word, message_name, only_value, message_price, message_quantity, message_side, supported_value, message_type_row, type_of}
use Rattle.fix_messages.specs.OrderTables.{message_cancel, some_order, message_life, life_of_order_type, life_form, life_or_default, message_limit_type, message_order_type, message_new_order, order_by_type, order_of_message, price_of_order_type, message_replacement, message_resting_life, no_quantity_condition}
use Rattle.fix_messages.specs.Bodies.{body_says, with_reason, says_of}
use Rattle.fix_messages.specs.BodyFields.{split_of}
use Rattle.fix_messages.specs.Logs.{MessageItem, after_item, item_says, items_from, read_items, read_fix_log, with_record_of_message}
use Rattle.audit_base.specs.Histories.{HasMarketPrice}

-- what holds of every value that a row may give holds after the row
pub behind : {A B : Type 0} (P : B → Type 0) (a : Result A MessageFault) (next : A → Result B MessageFault) → ((x : A) → IfOk (next x) P) → IfOk (a >>= next) P
behind P (Ok x) next each = each x
behind P (Err why) next each = tt

pub behind-known : {A B : Type 0} (Q : A → Type 0) (P : B → Type 0) (a : Result A MessageFault) (next : A → Result B MessageFault) → IfOk a Q → ((x : A) → Q x → IfOk (next x) P) → IfOk (a >>= next) P
behind-known Q P (Ok x) next known each = each x known
behind-known Q P (Err why) next known each = tt

abbrev IsNoMarket : Life → Type 0
IsNoMarket l = l ≡ life.Market → ⊥

form-no_market : (tag : ℕ) (text : List ℕ) → IfOk (supported_value tag (life_form text)) IsNoMarket
form-no_market tag text = elim (cases_Bool (is_value_word (codes "0") text || is_value_word (codes "1") text)) [
  | inl rests ↦ rw rests (λ e. cc)
  | inr other ↦ elim (cases_Bool (is_value_word (codes "3") text)) [
    | inl immediate ↦ rw (other, immediate) (λ e. cc)
    | inr none ↦ rw (other, none) tt
  ]
]

if-no_market : (tag : ℕ) (value : Option (List ℕ)) → IfOk (life_or_default tag value) IsNoMarket
if-no_market tag None = λ e. cc
if-no_market tag (Some text) = form-no_market tag text

life-no_market : (tag : ℕ) (fields : List TagValue) → IfOk (message_life tag fields) IsNoMarket
life-no_market tag fields = behind IsNoMarket (only_value tag fields) (life_or_default tag) (if-no_market tag)

new-priced : (fields : List TagValue) → IfOk (message_new_order fields) HasMarketPrice
unfolding message_new_order
new-priced fields =
    behind HasMarketPrice (message_type_row (codes "D") fields) _ (λ _. behind HasMarketPrice (message_head 49 fields) _ (λ head.
    behind HasMarketPrice (message_side 54 fields) _ (λ side.
    behind HasMarketPrice (message_quantity 38 fields) _ (λ quantity.
    behind HasMarketPrice (message_order_type 40 fields) _ (λ chosen.
    by-limits chosen head side quantity fields)))))
  where
    by-limits : (chosen : OrderType) (head : MessageHead) (side : Side) (quantity : ℕ) (fields : List TagValue)
        → IfOk (price_of_order_type chosen side 44 fields >>= (λ price. message_life 59 fields >>= (λ l. no_quantity_condition fields >>= (λ _. Ok (record_of.New head.key head.time head.symbol side quantity price (life_of_order_type chosen l)))))) HasMarketPrice
    by-limits limits.Limit head side quantity fields =
        behind HasMarketPrice (message_price 44 fields) _ (λ price.
        behind-known IsNoMarket HasMarketPrice (message_life 59 fields) _ (life-no_market 59 fields) (λ l other.
        behind HasMarketPrice (no_quantity_condition fields) _ (λ _. (λ e. absurd (other e)))))
    by-limits limits.Market head side quantity fields =
        let IsMarket : ℕ → Type 0 = λ price. price ≡ market_price side in
        behind-known IsMarket HasMarketPrice (price_of_order_type limits.Market side 44 fields) _ (behind IsMarket (only_value 44 fields) (λ _. Ok (market_price side)) (λ _. refl)) (λ price is.
        behind HasMarketPrice (message_life 59 fields) _ (λ l.
        behind HasMarketPrice (no_quantity_condition fields) _ (λ _. (λ e. is))))

cancel-priced : (fields : List TagValue) → IfOk (message_cancel fields) HasMarketPrice
unfolding message_cancel
cancel-priced fields = behind HasMarketPrice (message_type_row (codes "F") fields) _ (λ _. behind HasMarketPrice (message_head 49 fields) _ (λ _. behind HasMarketPrice (message_name 41 fields) _ (λ _. tt)))

replace-priced : (fields : List TagValue) → IfOk (message_replacement fields) HasMarketPrice
unfolding message_replacement
replace-priced fields =
    behind HasMarketPrice (message_type_row (codes "G") fields) _ (λ _. behind HasMarketPrice (message_head 49 fields) _ (λ _.
    behind HasMarketPrice (message_name 41 fields) _ (λ _.
    behind HasMarketPrice (message_side 54 fields) _ (λ _.
    behind HasMarketPrice (message_quantity 38 fields) _ (λ _.
    behind HasMarketPrice (message_limit_type 40 fields) _ (λ _.
    behind HasMarketPrice (message_price 44 fields) _ (λ _.
    behind HasMarketPrice (message_resting_life 59 fields) _ (λ _.
    behind HasMarketPrice (no_quantity_condition fields) _ (λ _. tt)))))))))

-- a record that the fields of a message mean has the price of its life
abbrev IsPricedEntry : Option OrderRecord → Type 0
IsPricedEntry some_order = IfSome some_order HasMarketPrice

entry-priced : (order : Result OrderRecord MessageFault) → IfOk order HasMarketPrice → IfOk (some_order order) IsPricedEntry
entry-priced (Ok order) priced = priced
entry-priced (Err why) priced = tt

kind-priced : (type : List ℕ) (fields : List TagValue) → IfOk (order_by_type type fields) IsPricedEntry
kind-priced type fields = elim (cases_Bool (is_value_word (codes "D") type)) [
  | inl new ↦ rw new (entry-priced (message_new_order fields) (new-priced fields))
  | inr no_new ↦ elim (cases_Bool (is_value_word (codes "F") type)) [
    | inl cancels ↦ rw (no_new, cancels) (entry-priced (message_cancel fields) (cancel-priced fields))
    | inr no_cancel ↦ elim (cases_Bool (is_value_word (codes "G") type)) [
      | inl replaces ↦ rw (no_new, no_cancel, replaces) (entry-priced (message_replacement fields) (replace-priced fields))
      | inr other ↦ rw (no_new, no_cancel, other) tt
    ]
  ]
]

pub meaning-priced : (fields : List TagValue) → IfOk (order_of_message fields) (λ found. IfSome found HasMarketPrice)
unfolding order_of_message
meaning-priced fields = elim (cases_Bool (is_copy fields)) [
  | inl copy ↦ rw copy tt
  | inr other ↦ rw other (kind-priced (type_of fields) fields)
]

-- Where every record that fields mean is sound, every record of a good log is.
module _ {R : Type 0} (meaning : List TagValue → Result (Option R) MessageFault) (sound : R → Type 0) (each : (fields : List TagValue) → IfOk (meaning fields) (λ found. IfSome found sound)) where
  abbrev IsSaid : Result (Option R) Reason → Type 0
  IsSaid said = IfOk said (λ found. IfSome found sound)

  reasoned-sound : (meant : Result (Option R) MessageFault) → IfOk meant (λ found. IfSome found sound) → IsSaid (with_reason meant)
  reasoned-sound (Ok found) is = is
  reasoned-sound (Err fault) is = tt

  says-sound : (fields : List TagValue) (left : List ℕ) → IsSaid (says_of meaning fields left)
  says-sound fields [] = elim (cases_Bool (begins_with_type fields)) [
    | inl typed ↦ rw typed (reasoned-sound (meaning fields) (each fields))
    | inr untyped ↦ rw untyped tt
  ]
  says-sound fields (byte ∷ left) = tt

  body-sound : (body : List ℕ) → IsSaid (body_says meaning body)
  unfolding body_says
  body-sound body = says-sound (split_of body).fields (split_of body).left

  item-sound : (body : Result (List ℕ) FrameFault) → IsSaid (item_says (body_says meaning) body)
  item-sound (Ok body) = body-sound body
  item-sound (Err fault) = tt

  first-sound : (some_order : R) (later : Result (List R) BadPlace) → sound some_order → IfOk later (All sound) → IfOk (with_record_of_message some_order later) (All sound)
  first-sound some_order (Ok entries) is are = All-cons sound some_order entries is are
  first-sound some_order (Err bad) is are = tt

  after-sound : (start : ℕ) (said : Result (Option R) Reason) (later : Result (List R) BadPlace) → IsSaid said → IfOk later (All sound) → IfOk (after_item start said later) (All sound)
  after-sound start (Ok None) later is are = are
  after-sound start (Ok (Some some_order)) later is are = first-sound some_order later is are
  after-sound start (Err why) later is are = tt

  items-sound : (items : List MessageItem) → IfOk (read_items (body_says meaning) items) (All sound)
  items-sound [] = All-nil sound
  items-sound (item ∷ items) =
      after-sound item.start (item_says (body_says meaning) item.body) (read_items (body_says meaning) items) (item-sound item.body) (items-sound items)

  pub log_sound : (log : List ℕ) → IfOk (read_fix_log meaning log) (All sound)
  unfolding read_fix_log
  log_sound log = items-sound (items_from 0 0 log)

-- nothing is asked of a report
pub any-sound : {R : Type 0} (meant : Result (Option R) MessageFault) → IfOk meant (λ found. IfSome found (λ _. ⊤))
any-sound (Ok None) = tt
any-sound (Ok (Some some_order)) = tt
any-sound (Err fault) = tt
