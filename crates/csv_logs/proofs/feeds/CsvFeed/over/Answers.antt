use Rattle.csv_logs.proofs.FeedLemmas.{stands-new}
use Rattle.csv_logs.proofs.feeds.CsvFeed.over.Goals as goal

pub returns : goal.returns
returns g c = rw (c.new.ensures.items) (stands-new _ _ _ c.requires)
