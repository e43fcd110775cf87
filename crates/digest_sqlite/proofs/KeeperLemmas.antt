-- What a keeper of which it is not known what is on file owes the trait.
use Rattle.std.proofs.Common.{◌≡◌, ℕ, List, Ok, Err, None, refl, sym, subst}
use Rattle.std.specs.Prelude.{Option, Result, IfOk, IfSome}
use Rattle.case_keeper.specs.declared.keeper.KeepFault.{KeepFault}
use Rattle.digest_keeper.specs.DigestKeepers.{CountsDigestFaults, FindsKept, FilesAll}
use Rattle.digest_keeper.specs.declared.digested.DigestedCase.{DigestedCase}
use Rattle.digest_keeper.specs.declared.digested.KeptCase.{KeptCase}
use Rattle.digest_sqlite.specs.SqlDigestKeepers.{digest_state_of_faults}

when_ok : {T : Type 0} (P : T → Type 0) (result : Result T KeepFault) → ((x : T) → P x) → IfOk result P
when_ok P (Ok x) h = h x
when_ok P (Err e) h = tt

pub finds : (old new : ℕ) (inner result : Result (Option KeptCase) KeepFault) (label : List ℕ) → result ≡ inner
    → CountsDigestFaults (digest_state_of_faults old) (digest_state_of_faults new) result → IfOk inner (λ found. IfSome found (λ kept. kept.case.label ≡ label))
    → FindsKept (digest_state_of_faults old) (digest_state_of_faults new) result label
finds old new inner result label same accounts labelled = record {
  accounts = accounts;
  stays = refl;
  labelled = subst (λ r. IfOk r (λ found. IfSome found (λ kept. kept.case.label ≡ label))) (sym same) labelled;
  known = when_ok _ result (λ _. tt);
}

pub files : {T : Type 0} (old new : ℕ) (result : Result T KeepFault) (filed : List DigestedCase)
    → CountsDigestFaults (digest_state_of_faults old) (digest_state_of_faults new) result → FilesAll (digest_state_of_faults old) (digest_state_of_faults new) result filed
files old new result filed accounts = record { accounts = accounts; appended = when_ok (λ _. None ≡ None) result (λ _. refl) }
