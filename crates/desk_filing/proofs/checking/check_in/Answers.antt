use Rattle.std.proofs.Common.{refl, Some}
use Rattle.desk_filing.proofs.CheckLemmas.{checks_found, checks_none, keeper_stops, tells_no_case}
use Rattle.desk_filing.proofs.checking.check_in.Goals as goal

pub returns-in-Ok-Some-clause-checks : goal.returns-in-Ok-Some-clause-checks
returns-in-Ok-Some-clause-checks g c = λ first on reads.
    checks_found _ c.args.request.now _ _ (Some c.in-Ok-Some.kept) c.check_kept.result (rw c.in-Ok-Some.field-0-is at c.in-Ok-Some.ensures) (c.check_kept.ensures.checks first on reads)

pub returns-in_ok-no_case_text-in-Ok-None-clause-checks : goal.returns-in_ok-no_case_text-in-Ok-None-clause-checks
returns-in_ok-no_case_text-in-Ok-None-clause-checks g c = λ first on reads.
    checks_none _ c.args.request.now _ _ _ (rw c.in-Ok-None.field-0-is at c.in-Ok-None.ensures) (tells_no_case first _ on c.args.request.now reads refl c.requires.asked _ refl c.in_ok-no_case_text-in-Ok-None.ensures)

pub returns-in-Err-clause-checks : goal.returns-in-Err-clause-checks
returns-in-Err-clause-checks g c = λ first on reads.
    rw c.from.ensures (keeper_stops first _ on c.args.request.now reads refl _ _ c.in-Err.fault c.in-Err.ensures)
