use Rattle.std.specs.Prelude.{All}
use Rattle.log_source.specs.Collectors.{HasNineBytesEach}
use Rattle.csv_logs.specs.Logs.{read_csv_log}
use Rattle.csv_logs.proofs.FeedLemmas.{holds-kept, read-kept}
use Rattle.csv_logs.proofs.feeds.CsvFeed+Vec+R.finish.Goals as goal

pub returns-clause-reads : goal.returns-clause-reads
returns-clause-reads g c = λ log stood. read-kept (read_csv_log g.R.CsvRecord.names g.R.CsvRecord.meaning log) _ (c.close.ensures.reads log stood)

-- some log is within the limit, and its records are sound
pub returns-clause-sound : goal.returns-clause-sound
returns-clause-sound g c =
    let log = c.requires.log in
    holds-kept (read_csv_log g.R.CsvRecord.names g.R.CsvRecord.meaning log) c.close.result (All g.R.CsvRecord.sound)
    (read-kept (read_csv_log g.R.CsvRecord.names g.R.CsvRecord.meaning log) _ (c.close.ensures.reads log c.requires.stands)) (c.close.ensures.sound log)

pub returns-clause-nine : goal.returns-clause-nine
returns-clause-nine g c = λ log stood.
    holds-kept (read_csv_log g.R.CsvRecord.names g.R.CsvRecord.meaning log) c.close.result (λ entries. HasNineBytesEach entries log)
    (read-kept (read_csv_log g.R.CsvRecord.names g.R.CsvRecord.meaning log) _ (c.close.ensures.reads log stood)) (c.close.ensures.nine log)
