use Rattle.std.proofs.Common.{refl, Some}
use Rattle.desk_filing.proofs.CheckLemmas.{checks_compared, tells_no_digest}
use Rattle.desk_filing.proofs.checking.check_kept.Goals as goal

pub returns-in-Some-clause-checks : goal.returns-in-Some-clause-checks
returns-in-Some-clause-checks g c = λ first on reads.
    checks_compared first _ on c.args.request.now reads (Some c.args.kept.now) c.compare.result (rw c.in-Some.is c.compare.ensures.compares)

pub returns-in_ok-no_digest_text-in-None-clause-checks : goal.returns-in_ok-no_digest_text-in-None-clause-checks
returns-in_ok-no_digest_text-in-None-clause-checks g c = λ first on reads.
    tells_no_digest first _ on c.args.request.now reads refl c.requires.asked c.args.kept.now c.in-None.is _ refl c.in_ok-no_digest_text-in-None.ensures
