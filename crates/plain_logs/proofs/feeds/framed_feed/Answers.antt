use Rattle.plain_logs.proofs.FeedLemmas.{framed-new}
use Rattle.plain_logs.proofs.feeds.framed_feed.Goals as goal

pub returns : goal.returns
returns c = framed-new c.over.result c.over.ensures
