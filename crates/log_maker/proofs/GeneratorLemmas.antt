-- Names of a letter and a number, and the records one after another.
use Rattle.std.proofs.Common.{◌≡◌, ℕ, ◌+◌, ◌-◌, ◌*◌, ◌%◌, ◌^◌, ◌<◌, ◌≤◌, List, [], ◌∷◌, ◌++◌, length, true, refl, sym, ap, ◌∙◌, arith, Some, None}
use Rattle.std.specs.Prelude.{decimal}
use Rattle.std.specs.List.{list_all}
use Rattle.std.proofs.lemmas.Bool.{and_from, cond-true, le-leb}
use Rattle.std.proofs.lemmas.Fmt.{length-decimal-le}
use Rattle.std.proofs.lemmas.List.FromFn.{map-range_with_len_more}
use Rattle.std.proofs.Math.Numerals.{add-one}
use Rattle.audit_base.specs.Names.{is_name, is_name_byte, name_form}
use Rattle.audit_base.specs.declared.records.OrderRecord.{OrderRecord}
use Rattle.log_maker.specs.Generator.{state_at, record_of_state, generated_record, generated_records_after}

-- a letter and a number of 32 bits are a name
pub lettered-is : (letter number : ℕ) → is_name_byte letter ≡ true → list_all is_name_byte (decimal number) ≡ true → number < 2 ^ 32
    → name_form (letter ∷ decimal number) ≡ Some (letter ∷ decimal number)
lettered-is letter number printable digits small =
    let few : length (decimal number) ≤ 10 = length-decimal-le 10 number (omega arith) (omega arith) (omega arith) in
    cond-true (is_name (letter ∷ decimal number)) (Some (letter ∷ decimal number)) None
    (and_from _ _ (and_from _ _ (le-leb 1 (length (letter ∷ decimal number)) (omega arith)) (le-leb (length (letter ∷ decimal number)) 64 (omega arith)))
    (and_from _ _ printable digits))

-- the state one step on
pub state-next : (start i state : ℕ) → state ≡ state_at start i → 48271 * state % 2147483647 ≡ state_at start (i + 1)
unfolding state_at
state-next start i state is = ap (λ (s : ℕ). 48271 * s % 2147483647) is ∙ ap (state_at start) (sym (add-one i))

-- the records behind the first ones with one more
pub records-more : (start first n : ℕ) → generated_records_after start first (n + 1) ≡ generated_records_after start first n ++ generated_record start (1 + first + n) ∷ []
records-more start first n = map-range_with_len_more (generated_record start) (1 + first) n (1 + first + n) refl

pub state-first : (start : ℕ) → start ≡ state_at start 0
unfolding state_at
state-first start = refl

-- The records behind the first ones up to one with this number, and the state there.
pub record AreMade (start first number state : ℕ) (entries : List OrderRecord) : Type 0 where
  pub state_is : state ≡ state_at start (number - 1)
  pub entries_are : entries ≡ generated_records_after start first (number - 1 - first)

-- one turn of the loop: record `number` is after those before it
pub step-is : (start first number state next : ℕ) (before after : List OrderRecord) (entry : OrderRecord) → first + 1 ≤ number
    → AreMade start first number state before → next ≡ 48271 * state % 2147483647 → entry ≡ record_of_state number next → after ≡ before ++ entry ∷ []
    → AreMade start first (number + 1) next after
step-is start first number state next before after entry some so_far next_is entry_is after_is =
    let on : number - 1 + 1 ≡ number + 1 - 1 = omega (arith, some) in
    let here : number ≡ 1 + first + (number - 1 - first) = omega (arith, some) in
    let there : number - 1 + 1 ≡ 1 + first + (number - 1 - first) = omega (arith, some) in
    let more : number - 1 - first + 1 ≡ number + 1 - 1 - first = omega (arith, some) in
    let next_at : next ≡ state_at start (number - 1 + 1) = next_is ∙ state-next start (number - 1) state so_far.state_is in
    let entry_at : entry ≡ generated_record start (1 + first + (number - 1 - first)) =
    entry_is ∙ (λ i. record_of_state (here i) ((next_at ∙ ap (state_at start) there) i)) in
    record {
      state_is = next_at ∙ ap (state_at start) on;
      entries_are = after_is ∙ (λ i. so_far.entries_are i ++ entry_at i ∷ []) ∙ sym (records-more start first (number - 1 - first)) ∙ ap (generated_records_after start first) more;
    }

-- before the first turn
pub none-made : (start first state : ℕ) → state ≡ state_at start first → AreMade start first (first + 1) state []
none-made start first state is = record {
  state_is = is ∙ ap (state_at start) (omega arith);
  entries_are = ap (generated_records_after start first) none;
}
  where
    none : 0 ≡ first + 1 - 1 - first
    none = omega arith

-- after the last turn
pub all-made : (start first count number state : ℕ) (entries : List OrderRecord) → first + count + 1 ≤ number → number ≤ first + count + 1
    → AreMade start first number state entries → (entries ≡ generated_records_after start first count) × (state ≡ state_at start (first + count))
all-made start first count number state entries least most so_far = (
  so_far.entries_are ∙ ap (generated_records_after start first) (omega (arith, least, most)),
  so_far.state_is ∙ ap (state_at start) (omega (arith, least, most)),
)
