use Rattle.std.proofs.Common.{arith}
use Rattle.std.proofs.lemmas.Bool.{ne_eqb}
use Rattle.fix_days.proofs.RunLemmas.{run-least}
use Rattle.fix_days.proofs.runs.near_size.Goals as goal

pub returns : goal.returns
returns c = record {
  longer = ne_eqb _ 1 c.if-soh-eq1.false;
  near = omega (arith, c.min.ensures, c.bytes_alone-size.ensures.near);
  room = omega (arith, c.if-text-lt-CHUNK.false);
  is = run-least c.args.soh.now c.args.text.now c.bytes_alone-size.result c.min.result (omega (arith, c.min.ensures)) c.bytes_alone-size.ensures.run;
}
