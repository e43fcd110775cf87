use Rattle.std.proofs.Common.{arith}
use Rattle.fix_framing.proofs.LengthLemmas.{fault-great, no-fault, field-body, field-size}
use Rattle.fix_framing.proofs.frames.find_places.Goals as goal

pub returns-then-length-gt-LONGEST_BODY-clause-err : goal.returns-then-length-gt-LONGEST_BODY-clause-err
returns-then-length-gt-LONGEST_BODY-clause-err c =
    let value = c.in_ok-length.ensures.ok.1 in
    fault-great c.args.header c.args.text.now c.in_ok-length.length.digits c.in_ok-length.ensures.ok.0 (omega (arith, value))

pub returns-clause-ok : goal.returns-clause-ok
returns-clause-ok c =
    let digits = c.in_ok-length.length.digits in
    let field = c.in_ok-length.ensures.ok.0 in
    let value = c.in_ok-length.ensures.ok.1 in
    let size = field-size c.args.header c.args.text.now digits field in
    let body = field-body c.args.header c.args.text.now digits field in
    (no-fault c.args.header c.args.text.now digits field (omega (arith, value)), body, omega (arith, value))
