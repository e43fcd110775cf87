use Rattle.std.proofs.Common.{refl}
use Rattle.std.specs.Prelude.{get_or}
use Rattle.std.proofs.lemmas.Bool.{ne_eqb}
use Rattle.fix_days.proofs.RunLemmas.{run-of-more, run-of-one}
use Rattle.fix_days.proofs.runs.run_end.Goals as goal

pub returns-then-soh-eq1 : goal.returns-then-soh-eq1
returns-then-soh-eq1 c = run-of-one c.args.soh.now c.args.text.now c.memchr.result c.if-soh-eq1.true c.memchr.ensures

pub returns : goal.returns
returns c =
    run-of-more c.args.soh.now c.args.text.now (get_or c.args.soh.now 0 0) c.memchr2.result c.requires (ne_eqb _ 1 c.if-soh-eq1.false) refl c.memchr2.ensures
