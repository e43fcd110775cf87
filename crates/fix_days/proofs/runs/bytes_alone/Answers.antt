use Rattle.std.proofs.Common.{not, ◌==◌, refl, arith}
use Rattle.std.specs.Prelude.{get_or}
use Rattle.fix_days.proofs.RunLemmas.{near-front, run-near}
use Rattle.fix_days.proofs.runs.bytes_alone.Goals as goal

pub returns-clause-run : goal.returns-clause-run
returns-clause-run c =
    run-near c.args.soh.now c.args.text.now (get_or c.args.soh.now 0 0) c.bytes_before.result c.bytes_before-2.result c.min.result c.requires.room refl c.bytes_before.ensures c.bytes_before-2.ensures (omega (arith, c.min.ensures))
    (omega (arith, c.min.ensures))

pub returns-clause-near : goal.returns-clause-near
returns-clause-near c = let most = near-front (λ each. not (each == 10)) c.args.text.now c.requires.room in omega (arith, most, c.min.ensures, c.bytes_before.ensures)
