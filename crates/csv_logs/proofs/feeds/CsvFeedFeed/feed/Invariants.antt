use Rattle.std.proofs.Common.{length}
use Rattle.csv_logs.specs.Feeds.{IsCsvFeedOf}
use Rattle.csv_logs.specs.Steps.{TakesPiece}
use Rattle.csv_logs.proofs.feeds.CsvFeedFeed.feed.Given as goal

-- what was taken of the piece is what the feed has come to stand for
abbrev pub invariant-lines : goal.invariant-lines
invariant-lines g l =
    TakesPiece (IsCsvFeedOf g.K.Collector.has_taken g.R.CsvRecord.names g.R.CsvRecord.meaning l.fn.self)
    (IsCsvFeedOf g.K.Collector.has_taken g.R.CsvRecord.names g.R.CsvRecord.meaning l.self) l.fn.piece l.left

abbrev pub decreases-lines : goal.decreases-lines
decreases-lines g l = length l.left
