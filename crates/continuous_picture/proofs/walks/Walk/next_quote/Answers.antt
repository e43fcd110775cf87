use Rattle.continuous_picture.proofs.WalkLemmas.{walk-later}
use Rattle.continuous_picture.proofs.walks.Walk.next_quote.Goals as goal

pub returns-clause-walk : goal.returns-clause-walk
returns-clause-walk c = walk-later c.args.market.now c.requires.market c.args.place _ c.quote.ensures.walk
