use Rattle.std.proofs.Common.{take}
use Rattle.fix_fields.proofs.EndLemmas.{closed-front, holds-all, holds-front}
use Rattle.fix_fields.proofs.ends.ends_of_front.Goals as goal

pub returns-then-text-size-eq-SOH : goal.returns-then-text-size-eq-SOH
returns-then-text-size-eq-SOH c =
    let closed = closed-front c.args.text.now c.args.size c.if-size-gt0.true c.requires c.if-text-size-eq-SOH.true in
    holds-front c.args.text.now c.args.size c.of.result closed c.of.ensures.text c.of.ensures.start

pub returns-else-size-gt0 : goal.returns-else-size-gt0
returns-else-size-gt0 c =
    holds-all (take c.args.size c.args.text.now) c.of-else-size-gt0.result c.of-else-size-gt0.ensures.text c.of-else-size-gt0.ensures.start
