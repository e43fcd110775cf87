use Rattle.std.proofs.Common.{arith}
use Rattle.fix_framing.proofs.FramerLemmas.{others-left, next-offset-so}
use Rattle.fix_framing.proofs.framer.Framer.finish.Goals as goal

pub returns-then-at-len-clause-ok : goal.returns-then-at-len-clause-ok
returns-then-at-len-clause-ok g c =
    let items = c.deref.ensures.value in
    let skip = c.skip_breaks-at.ensures in
    let inside = rw items at (skip.stops (omega arith)) in
    (λ e. cc, λ breaks. absurd (others-left c.args.self.now.bytes.items c.args.self.now.next c.skip_breaks-at.result skip.low (omega arith) inside breaks))

pub returns-then-at-len-clause-err : goal.returns-then-at-len-clause-err
returns-then-at-len-clause-err g c =
    let skip = rw c.deref.ensures.value at c.skip_breaks-at.ensures in
    next-offset-so g.H.Headers.headers c.args.self.now c.skip_breaks-at.result skip.high skip.rest
