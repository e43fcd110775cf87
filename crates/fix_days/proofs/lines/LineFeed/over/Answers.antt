use Rattle.std.proofs.Common.{refl}
use Rattle.fix_days.proofs.LineLemmas.{nothing-read}
use Rattle.fix_days.proofs.lines.LineFeed.over.Goals as goal

pub returns : goal.returns
returns g c = nothing-read g.S.SohGhost.text g.B.Bodies.has_taken _ c.requires.soh c.requires.is c.new.ensures.items refl refl refl refl refl c.requires.nothing
