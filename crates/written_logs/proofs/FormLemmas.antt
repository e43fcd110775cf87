-- All parts of a generated record are in their forms.
use Rattle.std.proofs.Common.{◌≡◌, ℕ, ◌+◌, ◌-◌, ◌*◌, ◌/◌, ◌%◌, ◌^◌, ◌<◌, ◌≤◌, ◌∷◌, length, true, refl, zero, suc, arith, All}
use Rattle.std.specs.Prelude.{decimal, ◌==◌, ◌&&◌, map}
use Rattle.std.specs.List.{range_with_len}
use Rattle.std.proofs.lemmas.Bool.{and_from, cond_both, le-leb, lt-ltb}
use Rattle.std.proofs.lemmas.Fmt.{length-decimal-le}
use Rattle.std.proofs.lemmas.List.Elements.{All-nil, All-cons}
use Rattle.audit_base.specs.Names.{is_name, is_name_byte}
use Rattle.audit_base.specs.Numbers.{AreInRange}
use Rattle.audit_base.specs.declared.records.OrderRecord.TheVariants.{New, Cancel}
use Rattle.audit_base.specs.declared.terms.Life.TheVariants.{Rests}
use Rattle.audit_base.proofs.UnquotedLemmas.{decimal_is_unquoted}
use Rattle.fix_messages.specs.Written.{IsHead, IsWritable}
use Rattle.log_maker.specs.Generator.{IsCount, generated_record, generated_records, generated_symbol, id_of_number, key_of_number, price_of_state, quantity_of_state, record_of_state, side_of_state, state_at, time_of_number}

-- a letter and a number are a name
lettered-is : (letter number : ℕ) → is_name_byte letter ≡ true → number < 10 ^ 9 → is_name (letter ∷ decimal number) ≡ true
lettered-is letter number printable small =
    let few : length (decimal number) ≤ 9 = length-decimal-le 9 number (omega arith) (omega (arith, small)) (omega (arith, small)) in
    and_from _ _ (and_from _ _ (le-leb 1 (length (letter ∷ decimal number)) (omega arith)) (le-leb (length (letter ∷ decimal number)) 64 (omega (arith, few))))
    (and_from _ _ printable (decimal_is_unquoted number (omega (arith, small))))

head-is : (i : ℕ) → i ≤ 1000000 → IsHead (key_of_number i) (time_of_number i) generated_symbol
head-is i few = record {
  firm_form = lettered-is 70 (i % 5) refl (omega (arith, few));
  id_form = lettered-is 79 i refl (omega (arith, few));
  symbol_form = refl;
  second_range = omega arith;
  nano_range = omega (arith, few);
}

terms-are : (state : ℕ) → AreInRange (quantity_of_state state) (price_of_state state)
terms-are state = record {
  sized = record { some = omega arith; most = omega arith };
  priced = omega arith;
}

record-writable : (i state : ℕ) → i ≤ 1000000 → IsWritable (record_of_state i state)
record-writable i state few =
    cond_both (i % 10 == 0) (Cancel (key_of_number i) (time_of_number i) generated_symbol (id_of_number (i - 5)))
    (New (key_of_number i) (time_of_number i) generated_symbol (side_of_state state) (quantity_of_state state) (price_of_state state) Rests) IsWritable
    (λ _. record { form = (head-is i few, lettered-is 79 (i - 5) refl (omega (arith, few))); priced = tt })
    (λ _. record { form = (head-is i few, terms-are state); priced = λ other. cc other })

range-writable : (start from n : ℕ) → from + n ≤ 1000001 → All IsWritable (map (generated_record start) (range_with_len from n))
range-writable start from zero few = All-nil IsWritable
range-writable start from (suc n) few =
    All-cons IsWritable (generated_record start from) (map (generated_record start) (range_with_len (from + 1) n)) (record-writable from (state_at start from) (omega (arith, few)))
    (range-writable start (from + 1) n (omega (arith, few)))

pub records-writable : (start count : ℕ) → IsCount count → All IsWritable (generated_records start count)
records-writable start count is = let most = is.bounded in range-writable start 1 count (omega (arith, most))
