-- The case in a row is the one whose row it is.
use Rattle.std.proofs.Common.{◌≡◌, ℕ, ◌<◌, ◌≤◌, ◌^◌, ◌&&◌, Bool, true, false, not, cond, List, [], ◌∷◌, length, eqb, ltb, Some, None, refl, sym, ap, ◌∙◌, subst, arith}
use Rattle.std.specs.Prelude.{pos, negsuc, Option, option_map, option_and_then, IfSome, IsTrue}
use Rattle.std.proofs.lemmas.Bool.{eqb-true, eqb-false, ne_eqb, ltb-true, lt-ltb, and_parts, not-true}
use Rattle.std.proofs.lemmas.Option.{none-some, same_Some, cond_some, option_and_then_some}
use Rattle.audit_base.specs.Least.{only_if}
use Rattle.audit_base.specs.Names.{is_name}
use Rattle.audit_base.specs.declared.terms.Rule.{Rule}
use Rattle.case_keeper.specs.declared.case.Case.{Case}
use Rattle.case_keeper.specs.declared.case.Offence.{Offence}
use Rattle.sqlite_value.specs.Order.{Row, column}
use Rattle.sqlite_value.specs.declared.value.Value.{Value}
use Rattle.sqlite_value.specs.declared.value.Value.TheVariants.{Null, Int, Real, Text, Blob}
use Rattle.case_sqlite.specs.CaseRows.{integer_value, offence_columns, IsRowOf, RowSays}
use Rattle.case_sqlite.specs.Codes.{rule_number, property_number, log_number}
use Rattle.case_sqlite.specs.Laws.{RowHasOneCase, WrittenCaseIsRead}
use Rattle.case_sqlite.specs.Readings.{rule_of_number, property_of_number, log_of_number, number_in_column, name_in_column, offence_of_numbers, offence_form, offence_in_row, rule_in_row, case_in_columns, case_form}
use Rattle.case_sqlite.proofs.CodeLemmas.{rule_has_number, property_has_number, log_has_number, rule_again, property_again, log_again, property_from_1, rule_small, property_small, log_small}

-- a name in a column
record IsNameIn (v : Value) (text : List ℕ) : Type 0 where
  is : v ≡ Text text
  named : IsTrue (is_name text)

name_told : (v : Value) (text : List ℕ) → name_in_column v ≡ Some text → IsNameIn v text
name_told Null text e = absurd (none-some text e)
name_told (Int n) text e = absurd (none-some text e)
name_told (Real x) text e = absurd (none-some text e)
name_told (Blob b) text e = absurd (none-some text e)
name_told (Text t) text e =
    let parts = cond_some (is_name t) t text e in
    record { is = ap Text parts.1; named = subst (λ s. is_name s ≡ true) parts.1 parts.0 }

name_again : (text : List ℕ) → IsTrue (is_name text) → name_in_column (Text text) ≡ Some text
name_again text is = ap (λ b. cond b (Some text) None) is

-- a number in a column
record IsNumberIn (v : Value) (n : ℕ) : Type 0 where
  is : v ≡ integer_value n
  small : n < 2 ^ 32

number_told : (v : Value) (n : ℕ) → number_in_column v ≡ Some n → IsNumberIn v n
number_told Null n e = absurd (none-some n e)
number_told (Real x) n e = absurd (none-some n e)
number_told (Text t) n e = absurd (none-some n e)
number_told (Blob b) n e = absurd (none-some n e)
number_told (Int (negsuc m)) n e = absurd (none-some n e)
number_told (Int (pos m)) n e =
    let parts = cond_some (ltb m (2 ^ 32)) m n e in
    record { is = ap integer_value parts.1; small = subst (λ k. k < 2 ^ 32) parts.1 (ltb-true m (2 ^ 32) parts.0) }

number_again : (n : ℕ) → n < 2 ^ 32 → number_in_column (integer_value n) ≡ Some n
number_again n small = ap (λ b. cond b (Some n) None) (lt-ltb n (2 ^ 32) small)

-- numbers that say which offence there is, or that there is none
record AreOf (p l place : ℕ) (offence : Option Offence) : Type 0 where
  columns : offence_columns offence ≡ integer_value p ∷ integer_value l ∷ integer_value place ∷ []
  placed : IfSome offence (λ o. (1 ≤ o.place) × (o.place ≡ place))

made : (p l place : ℕ) (o : Offence) → offence_of_numbers p l place ≡ Some o → AreOf p l place (Some o)
made p l place o e =
    option_and_then_some (λ q. option_and_then (λ w. only_if (not (eqb place 0)) (record { property = q; log = w; place = place })) (log_of_number l)) (property_of_number p) o e
    (λ q is_q in_log.
    option_and_then_some (λ w. only_if (not (eqb place 0)) (record { property = q; log = w; place = place })) (log_of_number l) o in_log
    (λ w is_w at_place.
    let parts = cond_some (not (eqb place 0)) (record { property = q; log = w; place = place }) o at_place in
    let from_1 : 1 ≤ place = omega (arith, eqb-false place 0 (not-true (eqb place 0) parts.0)) in
    let columns : integer_value (property_number q) ∷ integer_value (log_number w) ∷ integer_value place ∷ [] ≡ integer_value p ∷ integer_value l ∷ integer_value place ∷ [] =
    rw (property_has_number p q is_q, log_has_number l w is_w) refl in
    subst (λ x. AreOf p l place (Some x)) parts.1 (record { columns = columns; placed = (from_1, refl) })))

offence_told : (p l place : ℕ) (offence : Option Offence) → offence_form p l place ≡ Some offence → AreOf p l place offence
offence_told p l place offence e = split (eqb p 0 && eqb l 0 && eqb place 0) refl e
  where
    one : (o : Option Offence) → offence_of_numbers p l place ≡ o → option_map Some o ≡ Some offence → AreOf p l place offence
    one None is e = absurd (none-some offence e)
    one (Some o) is e = subst (AreOf p l place) (same_Some (Some o) offence e) (made p l place o is)

    split : (b : Bool) → (eqb p 0 && eqb l 0 && eqb place 0) ≡ b → cond b (Some None) (option_map Some (offence_of_numbers p l place)) ≡ Some offence → AreOf p l place offence
    split false is e = one (offence_of_numbers p l place) refl e
    split true is e =
        let last = and_parts (eqb p 0 && eqb l 0) (eqb place 0) is in
        let first = and_parts (eqb p 0) (eqb l 0) last.0 in
        let columns : integer_value 0 ∷ integer_value 0 ∷ integer_value 0 ∷ [] ≡ integer_value p ∷ integer_value l ∷ integer_value place ∷ [] =
        rw (eqb-true p 0 first.0, eqb-true l 0 first.1, eqb-true place 0 last.1) refl in
        subst (AreOf p l place) (same_Some None offence e) (record { columns = columns; placed = tt })

-- the columns 3 to 5 of an offence, or of none
record IsOffenceIn (row : Row) (offence : Option Offence) : Type 0 where
  columns : column row 3 ∷ column row 4 ∷ column row 5 ∷ [] ≡ offence_columns offence
  placed : IfSome offence (λ o. (1 ≤ o.place) × (o.place < 2 ^ 32))

within : (p l place : ℕ) (offence : Option Offence) → place < 2 ^ 32 → IfSome offence (λ o. (1 ≤ o.place) × (o.place ≡ place)) → IfSome offence (λ o. (1 ≤ o.place) × (o.place < 2 ^ 32))
within p l place None small h = tt
within p l place (Some o) small h = (h.0, subst (λ n. n < 2 ^ 32) (sym h.1) small)

offence_in_told : (row : Row) (offence : Option Offence) → offence_in_row row ≡ Some offence → IsOffenceIn row offence
offence_in_told row offence e =
    option_and_then_some (λ p. option_and_then (λ w. option_and_then (offence_form p w) (number_in_column (column row 5))) (number_in_column (column row 4))) (number_in_column (column row 3)) offence e
    (λ p is_p in_log.
    option_and_then_some (λ w. option_and_then (offence_form p w) (number_in_column (column row 5))) (number_in_column (column row 4)) offence in_log
    (λ l is_l at_place.
    option_and_then_some (offence_form p l) (number_in_column (column row 5)) offence at_place
    (λ place is_place is.
    let told = offence_told p l place offence is in
    let third = number_told (column row 3) p is_p in
    let fourth = number_told (column row 4) l is_l in
    let fifth = number_told (column row 5) place is_place in
    let columns : column row 3 ∷ column row 4 ∷ column row 5 ∷ [] ≡ integer_value p ∷ integer_value l ∷ integer_value place ∷ [] =
    rw (third.is, fourth.is, fifth.is) refl in
    record { columns = columns ∙ sym told.columns; placed = within p l place offence fifth.small told.placed })))

six : (row : Row) → length row ≡ 6 → row ≡ column row 0 ∷ column row 1 ∷ column row 2 ∷ column row 3 ∷ column row 4 ∷ column row 5 ∷ []
six [] h = absurd (omega arith)
six (a ∷ []) h = absurd (omega arith)
six (a ∷ b ∷ []) h = absurd (omega arith)
six (a ∷ b ∷ c ∷ []) h = absurd (omega arith)
six (a ∷ b ∷ c ∷ d ∷ []) h = absurd (omega arith)
six (a ∷ b ∷ c ∷ d ∷ e ∷ []) h = absurd (omega arith)
six (a ∷ b ∷ c ∷ d ∷ e ∷ f ∷ []) h = refl
six (a ∷ b ∷ c ∷ d ∷ e ∷ f ∷ g ∷ more) h = absurd (omega arith)

rule_told : (row : Row) (r : Rule) → rule_in_row row ≡ Some r → column row 1 ≡ integer_value (rule_number r)
rule_told row r e =
    option_and_then_some rule_of_number (number_in_column (column row 1)) r e
    (λ n is_n is. let told = number_told (column row 1) n is_n in told.is ∙ ap integer_value (sym (rule_has_number n r is)))

mapped : {A B P : Type 0} (f : A → B) (o : Option A) (y : B) → option_map f o ≡ Some y → ((x : A) → o ≡ Some x → f x ≡ y → P) → P
mapped f None y e next = absurd (none-some y e)
mapped f (Some x) y e next = next x refl (same_Some (f x) y e)

case_told : (row : Row) (case : Case) → length row ≡ 6 → case_in_columns row ≡ Some case → IsRowOf row case
case_told row case size e =
    option_and_then_some (λ label. option_and_then (λ r. option_and_then (λ symbol. option_map (λ offence. record { label = label; rule = r; symbol = symbol; offence = offence }) (offence_in_row row)) (name_in_column (column row 2))) (rule_in_row row)) (name_in_column (column row 0)) case e
    (λ label is_label behind_label.
    option_and_then_some (λ r. option_and_then (λ symbol. option_map (λ offence. record { label = label; rule = r; symbol = symbol; offence = offence }) (offence_in_row row)) (name_in_column (column row 2))) (rule_in_row row) case behind_label
    (λ r is_rule behind_rule.
    option_and_then_some (λ symbol. option_map (λ offence. record { label = label; rule = r; symbol = symbol; offence = offence }) (offence_in_row row)) (name_in_column (column row 2)) case behind_rule
    (λ symbol is_symbol behind_symbol.
    mapped (λ offence. record { label = label; rule = r; symbol = symbol; offence = offence }) (offence_in_row row) case behind_symbol
    (λ offence is_offence is.
    let first = name_told (column row 0) label is_label in
    let third = name_told (column row 2) symbol is_symbol in
    let rest = offence_in_told row offence is_offence in
    let columns : row ≡ Text label ∷ integer_value (rule_number r) ∷ Text symbol ∷ offence_columns offence =
    six row size ∙ ap (λ v. v ∷ column row 1 ∷ column row 2 ∷ column row 3 ∷ column row 4 ∷ column row 5 ∷ []) first.is
    ∙ ap (λ v. Text label ∷ v ∷ column row 2 ∷ column row 3 ∷ column row 4 ∷ column row 5 ∷ []) (rule_told row r is_rule)
    ∙ ap (λ v. Text label ∷ integer_value (rule_number r) ∷ v ∷ column row 3 ∷ column row 4 ∷ column row 5 ∷ []) third.is
    ∙ ap (λ rs. Text label ∷ integer_value (rule_number r) ∷ Text symbol ∷ rs) rest.columns in
    subst (IsRowOf row) is (record { columns = columns; label = first.named; symbol = third.named; place = rest.placed })))))

pub form_told : (row : Row) (case : Case) → case_form row ≡ Some case → IsRowOf row case
form_told row case e = split (eqb (length row) 6) refl e
  where
    split : (b : Bool) → eqb (length row) 6 ≡ b → cond b (case_in_columns row) None ≡ Some case → IsRowOf row case
    split true is e = case_told row case (eqb-true (length row) 6 is) e
    split false is e = absurd (none-some case e)

again : (label : List ℕ) (r : Rule) (symbol : List ℕ) (offence : Option Offence) → IsTrue (is_name label) → IsTrue (is_name symbol) → IfSome offence (λ o. (1 ≤ o.place) × (o.place < 2 ^ 32))
    → case_form (Text label ∷ integer_value (rule_number r) ∷ Text symbol ∷ offence_columns offence) ≡ Some (record { label = label; rule = r; symbol = symbol; offence = offence })
again label r symbol None is_label is_symbol placed = rw (is_label, rule_small r, rule_again r, is_symbol) refl
again label r symbol (Some o) is_label is_symbol placed =
    rw (
      is_label,
      rule_small r,
      rule_again r,
      is_symbol,
      property_small o.property,
      log_small o.log,
      lt-ltb o.place (2 ^ 32) placed.1,
      property_from_1 o.property,
      property_again o.property,
      log_again o.log,
      ne_eqb o.place 0 (λ e. omega (arith, e, placed.0)),
    ) refl

pub case_again : (row : Row) (case : Case) → IsRowOf row case → case_form row ≡ Some case
case_again row case is = ap case_form is.columns ∙ again case.label case.rule case.symbol case.offence is.label is.symbol is.place

-- what is read of a row is what it says
pub row_tells : (row : Row) (told : Option Case) → told ≡ case_form row → RowSays row told
row_tells row None e = λ case is. none-some case (e ∙ case_again row case is)
row_tells row (Some case) e = form_told row case (sym e)

pub row_has_one_case : RowHasOneCase
row_has_one_case row a b is_a is_b = same_Some a b (sym (case_again row a is_a) ∙ case_again row b is_b)

pub written_case_is_read : WrittenCaseIsRead
written_case_is_read row case None is told = absurd (told case is)
written_case_is_read row case (Some read) is told = ap Some (row_has_one_case row read case told is)
