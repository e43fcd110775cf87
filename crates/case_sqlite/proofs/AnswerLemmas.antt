-- The cases in the rows of an answer, row by row.
use Rattle.std.proofs.Common.{◌≡◌, map, ap₂, ℕ, zero, suc, ◌+◌, ◌<◌, ◌≤◌, Bool, List, [], ◌∷◌, ◌++◌, length, take, get_or, Some, None, Ok, refl, sym, ap, ◌∙◌, subst, All, arith}
use Rattle.std.specs.Prelude.{Option, Result, option_map, option_and_then, IfSome, IfOk, IsTrue}
use Rattle.std.specs.Option.{ok_or}
use Rattle.std.proofs.lemmas.List.{take_more}
use Rattle.std.proofs.lemmas.Slice.Eq.{bytes_eq-Decides}
use Rattle.case_keeper.specs.Cases.{has_label}
use Rattle.case_keeper.specs.declared.keeper.KeepFault.{KeepFault}
use Rattle.case_keeper.specs.declared.keeper.KeepFault.TheVariants.{Failed}
use Rattle.std.proofs.lemmas.Option.{none-some, same_Some, cond_some, option_and_then_some}
use Rattle.std.proofs.lemmas.List.Elements.{All-nil, All-cons}
use Rattle.audit_base.specs.Least.{only_if}
use Rattle.case_keeper.specs.declared.case.Case.{Case}
use Rattle.sqlite_value.specs.Order.{Row}
use Rattle.case_sqlite.specs.CaseRows.{case_columns, rows_of_case}
use Rattle.case_sqlite.proofs.RowLemmas.{form_told}
use Rattle.case_sqlite.specs.Readings.{case_form, case_that, cases_that}

abbrev before : Case → Option (List Case) → Option (List Case)
before case = option_map (λ cases. case ∷ cases)

-- one more row with a case
pub cases_push : (test : Case → Bool) (rows : List Row) (row : Row) (cases : List Case) (case : Case) → cases_that test rows ≡ Some cases → case_that test row ≡ Some case
    → cases_that test (rows ++ row ∷ []) ≡ Some (cases ++ case ∷ [])
cases_push test [] row cases case e is =
    ap (option_and_then (λ c. before c (Some []))) is ∙ ap (λ cs. Some (cs ++ case ∷ [])) (same_Some [] cases e)
cases_push test (first ∷ rows) row cases case e is =
    option_and_then_some (λ c. before c (cases_that test rows)) (case_that test first) cases e
    (λ c is_c behind. rest c is_c (cases_that test rows) refl behind (λ more is_more. cases_push test rows row more case is_more is))
  where
    rest : (c : Case) → case_that test first ≡ Some c → (o : Option (List Case)) → cases_that test rows ≡ o → before c o ≡ Some cases
        → ((more : List Case) → cases_that test rows ≡ Some more → cases_that test (rows ++ row ∷ []) ≡ Some (more ++ case ∷ []))
        → cases_that test (first ∷ rows ++ row ∷ []) ≡ Some (cases ++ case ∷ [])
    rest c is_c None is_o behind push = absurd (none-some cases behind)
    rest c is_c (Some more) is_o behind push =
        ap (option_and_then (λ k. before k (cases_that test (rows ++ row ∷ [])))) is_c
        ∙ ap (before c) (push more is_o)
        ∙ ap (λ cs. Some (cs ++ case ∷ [])) (same_Some (c ∷ more) cases behind)

-- a row with none
pub cases_none : (test : Case → Bool) (rows : List Row) (i : ℕ) (row : Row) → i < length rows → row ≡ get_or rows i row → case_that test row ≡ None → cases_that test rows ≡ None
cases_none test [] i row inside at is = absurd (omega arith)
cases_none test (first ∷ rows) zero row inside at is = ap (option_and_then (λ c. before c (cases_that test rows))) (ap (case_that test) (sym at) ∙ is)
cases_none test (first ∷ rows) (suc i) row inside at is = rest (case_that test first) (cases_none test rows i row (omega arith) at is)
  where
    rest : (o : Option Case) → cases_that test rows ≡ None → option_and_then (λ c. before c (cases_that test rows)) o ≡ None
    rest None none = refl
    rest (Some c) none = ap (before c) none

-- the row after the first ones has one more case
pub cases_more : (test : Case → Bool) (rows : List Row) (i : ℕ) (row : Row) (cases : List Case) (case : Case) → i < length rows → row ≡ get_or rows i row
    → cases_that test (take i rows) ≡ Some cases → case_that test row ≡ Some case → cases_that test (take (i + 1) rows) ≡ Some (cases ++ case ∷ [])
cases_more test rows i row cases case inside at front is =
    ap (cases_that test) (take_more rows i row inside ∙ ap (λ r. take i rows ++ r ∷ []) (sym at)) ∙ cases_push test (take i rows) row cases case front is

-- a case that is given passes the test
told_passes : (test : Case → Bool) (row : Row) (case : Case) → case_that test row ≡ Some case → IsTrue (test case)
told_passes test row case e =
    option_and_then_some (λ c. only_if (test c) c) (case_form row) case e
    (λ c is_c is. let parts = cond_some (test c) c case is in subst (λ k. IsTrue (test k)) parts.1 parts.0)

pub all_pass : (test : Case → Bool) (rows : List Row) (cases : List Case) → cases_that test rows ≡ Some cases → All (λ case. IsTrue (test case)) cases
all_pass test [] cases e = subst (All (λ case. IsTrue (test case))) (same_Some [] cases e) (All-nil (λ case. IsTrue (test case)))
all_pass test (row ∷ rows) cases e =
    option_and_then_some (λ c. before c (cases_that test rows)) (case_that test row) cases e
    (λ c is_c behind. rest c is_c (cases_that test rows) refl behind (all_pass test rows))
  where
    rest : (c : Case) → case_that test row ≡ Some c → (o : Option (List Case)) → cases_that test rows ≡ o → before c o ≡ Some cases
        → ((more : List Case) → cases_that test rows ≡ Some more → All (λ case. IsTrue (test case)) more) → All (λ case. IsTrue (test case)) cases
    rest c is_c None is_o behind pass = absurd (none-some cases behind)
    rest c is_c (Some more) is_o behind pass =
        subst (All (λ case. IsTrue (test case))) (same_Some (c ∷ more) cases behind) (All-cons (λ case. IsTrue (test case)) c more (told_passes test row c is_c) (pass more is_o))

-- a row with a case has its columns
told_columns : (test : Case → Bool) (row : Row) (case : Case) → case_that test row ≡ Some case → row ≡ case_columns case
told_columns test row case e =
    option_and_then_some (λ c. only_if (test c) c) (case_form row) case e
    (λ c is_c is. (form_told row c is_c).columns ∙ ap case_columns (cond_some (test c) c case is).1)

-- the rows with cases have their columns, all of them, in their order
pub all_rows : (test : Case → Bool) (rows : List Row) (cases : List Case) → cases_that test rows ≡ Some cases → rows ≡ map case_columns cases
all_rows test [] cases e = ap (map case_columns) (same_Some [] cases e)
all_rows test (row ∷ rows) cases e =
    option_and_then_some (λ c. before c (cases_that test rows)) (case_that test row) cases e
    (λ c is_c behind. rest c is_c (cases_that test rows) refl behind (all_rows test rows))
  where
    rest : (c : Case) → case_that test row ≡ Some c → (o : Option (List Case)) → cases_that test rows ≡ o → before c o ≡ Some cases
        → ((more : List Case) → cases_that test rows ≡ Some more → rows ≡ map case_columns more) → row ∷ rows ≡ map case_columns cases
    rest c is_c None is_o behind same = absurd (none-some cases behind)
    rest c is_c (Some more) is_o behind same =
        ap₂ (λ r rs. r ∷ rs) (told_columns test row c is_c) (same more is_o) ∙ ap (map case_columns) (same_Some (c ∷ more) cases behind)

-- the one row with a label has the columns of its case, which has the label
pub one_told : (label : List ℕ) (row : Row) (case : Case) → Some case ≡ case_that (has_label label) row → (row ∷ [] ≡ rows_of_case (Some case)) × (case.label ≡ label)
one_told label row case e = (
  ap (λ r. r ∷ []) (told_columns (has_label label) row case (sym e)),
  (bytes_eq-Decides case.label label).0 (told_passes (has_label label) row case (sym e)),
)

-- a list of one row
pub one_row : (rows : List Row) (row : Row) → 1 ≤ length rows → length rows < 2 → row ≡ get_or rows 0 row → rows ≡ row ∷ []
one_row [] row some few is = absurd (omega arith)
one_row (first ∷ []) row some few is = ap (λ r. r ∷ []) (sym is)
one_row (first ∷ second ∷ rows) row some few is = absurd (omega arith)
