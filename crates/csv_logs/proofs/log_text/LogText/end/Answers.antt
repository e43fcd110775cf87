use Rattle.csv_logs.proofs.WrittenLemmas.{log-again}
use Rattle.csv_logs.proofs.log_text.LogText.end.Goals as goal

pub returns-in-Ok-clause-again : goal.returns-in-Ok-clause-again
returns-in-Ok-clause-again g c = λ entries is reads.
    log-again g.R.CsvRecord.names g.R.CsvRecord.meaning g.R.LogLine.fields g.R.CsvRecord.sound entries is.nine is.unquoted is.lines reads

pub returns-clause-again : goal.returns-clause-again
returns-clause-again g c = λ entries is reads.
    log-again g.R.CsvRecord.names g.R.CsvRecord.meaning g.R.LogLine.fields g.R.CsvRecord.sound entries is.nine is.unquoted is.lines reads
