use Rattle.std.proofs.Common.{ℕ, subst}
use Rattle.fix_days.specs.Framed.{after_mark, IsTextReading}
use Rattle.fix_days.specs.Answers.{HasReadBodies}
use Rattle.fix_days.proofs.framed.FramedFeed.close.Goals as goal

pub returns : goal.returns
returns g c = λ day stands.
    let at = c.in_ok-end_front.ensures day stands in
    subst (λ (start : ℕ). HasReadBodies (g.B.Bodies.has_taken c.close.result.bodies) (IsTextReading start (after_mark day)) c.close.result.bad) at.starts
    (c.close.ensures (after_mark day) at.messages_of)
