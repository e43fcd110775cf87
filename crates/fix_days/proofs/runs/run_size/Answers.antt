use Rattle.std.proofs.Common.{length, arith}
use Rattle.fix_days.proofs.RunLemmas.{run-least, run-whole}
use Rattle.fix_days.proofs.runs.run_size.Goals as goal

pub returns-in-Some : goal.returns-in-Some
returns-in-Some c = run-least c.args.soh.now c.args.text.now c.in-Some.end c.min.result (omega (arith, c.min.ensures)) c.in-Some.ensures

pub returns-in-None : goal.returns-in-None
returns-in-None c =
    run-least c.args.soh.now c.args.text.now (length c.args.text.now) c.min-in-None.result (omega (arith, c.min-in-None.ensures)) (run-whole c.args.soh.now c.args.text.now c.in-None.ensures)
