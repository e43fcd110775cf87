use Rattle.std.proofs.Common.{refl}
use Rattle.fix_days.proofs.StartLemmas.{begins-mark}
use Rattle.fix_days.proofs.framed.FramedFeed.begin.Goals as goal

pub returns-then-is_mark : goal.returns-then-is_mark
returns-then-is_mark g c =
    let is = rw c.deref.ensures.value at c.is_mark.ensures.0 c.if-is_mark.true in
    begins-mark g.B.Bodies.has_taken c.args.self.now _ c.requires is refl refl
