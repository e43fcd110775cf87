-- What is found is in the rows that both tables showed.
use Rattle.std.proofs.Common.{◌≡◌, ℕ, List, None, Some, Err, refl, subst}
use Rattle.std.specs.Prelude.{Option, IsErrOf}
use Rattle.case_keeper.specs.declared.keeper.KeepFault.{KeepFault}
use Rattle.case_keeper.specs.declared.keeper.KeepFault.TheVariants as fault
use Rattle.case_keeper.specs.declared.case.Case.{Case}
use Rattle.case_sqlite.specs.CaseRows.{rows_of_case}
use Rattle.case_sqlite.specs.Statements.{find_text}
use Rattle.log_digests.specs.declared.digests.LogDigests.{LogDigests}
use Rattle.sqlite.specs.Held.{Held}
use Rattle.sqlite_trees.specs.declared.store.Store.{Ghosts}
use Rattle.digest_sqlite.specs.DigestRows.{rows_of_digests}
use Rattle.digest_sqlite.specs.DigestRuns.{ShowsIfThere, FindsBothRows}
use Rattle.digest_sqlite.specs.DigestStatements.{find_digests_text, cases_table, digests_table}

module _ {S : Type 0} (g : Ghosts S) (label : List ℕ) (found : Option Case) where
  pub finds_none : (old new : Held S) → found ≡ None → ShowsIfThere g cases_table find_text label old new (rows_of_case found) → FindsBothRows g label old new None
  finds_none old new is shown = subst (λ f. ShowsIfThere g cases_table find_text label old new (rows_of_case f)) is shown

  pub finds_both : (old mid new : Held S) (case : Case) (digests : Option LogDigests) → found ≡ Some case
      → ShowsIfThere g cases_table find_text label old mid (rows_of_case found)
      → ShowsIfThere g digests_table find_digests_text label mid new (rows_of_digests label digests)
      → FindsBothRows g label old new (Some (record { case = case; digests = digests }))
  finds_both old mid new case digests is first second = (mid, subst (λ f. ShowsIfThere g cases_table find_text label old mid (rows_of_case f)) is first, second)

memory_is_no_failure : {T : Type 0} → IsErrOf {T = T} (Err fault.Memory) fault.Failed → ⊥
memory_is_no_failure is = cc

-- a fault that is handed on is the same fault, whatever would have been found
pub failed_too : {T U : Type 0} (e : KeepFault) → IsErrOf {T = T} (Err e) fault.Failed → IsErrOf {T = U} (Err e) fault.Failed
failed_too fault.Failed is = refl
failed_too fault.Memory is = absurd (memory_is_no_failure is)
