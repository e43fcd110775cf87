use Rattle.std.proofs.Common.{take}
use Rattle.csv_logs.specs.WrittenLines.{IsLogText}
use Rattle.csv_logs.proofs.writers.text_of.Given as goal

-- the header and the lines of the records so far are written
abbrev pub invariant-loop-entry : goal.invariant-loop-entry
invariant-loop-entry g l = IsLogText g.R.CsvRecord.names g.R.CsvRecord.meaning g.R.CsvRecord.sound g.R.LogLine.fields l.text (take l.entry-index l.entries)
