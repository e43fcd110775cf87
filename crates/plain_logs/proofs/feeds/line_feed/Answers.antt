use Rattle.plain_logs.proofs.FeedLemmas.{lines-new}
use Rattle.plain_logs.proofs.feeds.line_feed.Goals as goal

pub returns : goal.returns
returns g c = lines-new g.S.SohGhost.text c.over.result c.requires.is c.over.ensures
