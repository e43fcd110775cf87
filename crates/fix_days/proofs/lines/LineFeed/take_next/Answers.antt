use Rattle.fix_days.proofs.LineLemmas.{looked-step}
use Rattle.fix_days.proofs.lines.LineFeed.take_next.Goals as goal

pub returns : goal.returns
returns g c = looked-step g.S.SohGhost.text g.B.Bodies.has_taken c.args.ended c.args.self.now _ c.look_at.new.message c.take_look.result c.take_look.ensures
