use Rattle.std.proofs.Common.{refl}
use Rattle.fix_days.proofs.LineLemmas.{anew}
use Rattle.fix_days.proofs.lines.LineFeed.clear.Goals as goal

pub returns-clause-anew : goal.returns-clause-anew
returns-clause-anew g c = anew g.S.SohGhost.text _ c.requires.soh c.requires.is c.clear.ensures.items refl refl refl refl refl
