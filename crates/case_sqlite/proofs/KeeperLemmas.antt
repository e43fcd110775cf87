-- What a keeper whose cases are not known owes the trait.
use Rattle.std.proofs.Common.{◌≡◌, ℕ, List, Ok, Err, None, All, refl, sym, subst}
use Rattle.std.specs.Prelude.{Option, Result, IfOk, IfSome, IsTrue}
use Rattle.case_keeper.specs.Cases.{kept_case, passes_filter, passing_cases}
use Rattle.case_keeper.specs.Keepers.{CountsKeeperFaults, FindsLabel, AddsCase, ListsCases}
use Rattle.case_keeper.specs.declared.case.Case.{Case}
use Rattle.case_keeper.specs.declared.case.Filter.{Filter}
use Rattle.case_keeper.specs.declared.keeper.KeepFault.{KeepFault}
use Rattle.case_sqlite.specs.SqlKeepers.{state_of_faults}

when_ok : {T : Type 0} (P : T → Type 0) (result : Result T KeepFault) → ((x : T) → P x) → IfOk result P
when_ok P (Ok x) h = h x
when_ok P (Err e) h = tt

pub finds : (old count new : ℕ) (inner result : Result (Option Case) KeepFault) (label : List ℕ) → count ≡ old → result ≡ inner
    → CountsKeeperFaults (state_of_faults count) (state_of_faults new) result → IfOk inner (λ found. IfSome found (λ case. case.label ≡ label))
    → FindsLabel (state_of_faults old) (state_of_faults new) result label
finds old count new inner result label same is accounts labelled = record {
  accounts = subst (λ n. CountsKeeperFaults (state_of_faults n) (state_of_faults new) result) same accounts;
  stays = refl;
  labelled = subst (λ r. IfOk r (λ found. IfSome found (λ case. case.label ≡ label))) (sym is) labelled;
  known = when_ok (λ found. IfSome None (λ (cases : List Case). found ≡ kept_case cases label)) result (λ _. tt);
}

pub adds : {T : Type 0} (old count new : ℕ) (result : Result T KeepFault) (case : Case) → count ≡ old
    → CountsKeeperFaults (state_of_faults count) (state_of_faults new) result → AddsCase (state_of_faults old) (state_of_faults new) result case
adds old count new result case same accounts = record {
  accounts = subst (λ n. CountsKeeperFaults (state_of_faults n) (state_of_faults new) result) same accounts;
  appended = when_ok (λ _. None ≡ None) result (λ _. refl);
}

pub lists : (old count new : ℕ) (inner result : Result (List Case) KeepFault) (filter : Filter) → count ≡ old → result ≡ inner
    → CountsKeeperFaults (state_of_faults count) (state_of_faults new) result → IfOk inner (λ given. All (λ case. IsTrue (passes_filter filter case)) given)
    → ListsCases (state_of_faults old) (state_of_faults new) result filter
lists old count new inner result filter same is accounts passing_only = record {
  accounts = subst (λ n. CountsKeeperFaults (state_of_faults n) (state_of_faults new) result) same accounts;
  stays = refl;
  passing_only = subst (λ r. IfOk r (λ given. All (λ case. IsTrue (passes_filter filter case)) given)) (sym is) passing_only;
  known = when_ok (λ given. IfSome None (λ (cases : List Case). given ≡ passing_cases filter cases)) result (λ _. tt);
}
