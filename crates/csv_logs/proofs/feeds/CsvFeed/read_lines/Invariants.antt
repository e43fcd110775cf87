use Rattle.std.proofs.Common.{◌≡◌, ◌<◌, [], length, true}
use Rattle.std.specs.List.{list_all}
use Rattle.csv_logs.specs.Readers.{IsReading, is_plain_byte}
use Rattle.csv_logs.specs.Feeds.{IsCsvFeedOf}
use Rattle.csv_logs.specs.Steps.{TakesPiece}
use Rattle.csv_logs.proofs.feeds.CsvFeed.read_lines.Given as goal

-- what was taken of the text is what the feed has come to stand for, and the reader is at what is
-- left
abbrev pub invariant-lines : goal.invariant-lines
invariant-lines g l = record {
  goes : TakesPiece (IsCsvFeedOf g.K.Collector.has_taken g.R.CsvRecord.names g.R.CsvRecord.meaning l.fn.self) (IsCsvFeedOf g.K.Collector.has_taken g.R.CsvRecord.names g.R.CsvRecord.meaning l.self) l.fn.text l.left;
  nothing : l.self.rest.items ≡ [];
  started : 0 < l.self.offset;
  reading : IsReading g.I.Read.remaining l.reader l.left;
  plain : l.plain ≡ true → list_all is_plain_byte l.left ≡ true;
}

abbrev pub decreases-lines : goal.decreases-lines
decreases-lines g l = length l.left
