use Rattle.std.proofs.Common.{sym, subst, Result, Ok, Err}
use Rattle.std.specs.Prelude.{OnOk}
use Rattle.std.proofs.lemmas.List.{take_all, take_more}
use Rattle.csv_logs.specs.WrittenLines.{IsLogText}
use Rattle.csv_logs.proofs.writers.text_of.Goals as goal

pub loop-entry-preserved : goal.loop-entry-preserved
loop-entry-preserved g c =
    subst (IsLogText g.R.CsvRecord.names g.R.CsvRecord.meaning g.R.CsvRecord.sound g.R.LogLine.fields c.add.new.self)
    (sym (take_more c.args.entries.now c.loop-entry.entry-index c.entry-item.result c.loop-entry-test.true))
    (rw (← c.entry-item.is) (c.in_ok-add.ensures _ c.loop-entry.invariant))

on_ok : {T E : Type 0} {P : Type 0} (result : Result T E) → P → OnOk result P
on_ok (Ok value) holds = holds
on_ok (Err fault) holds = tt

pub returns-clause-again : goal.returns-clause-again
returns-clause-again g c =
    on_ok c.end.result (rw (take_all c.loop-entry.entry-index c.args.entries.now c.loop-entry-test.false) at (c.end.ensures.again _ c.loop-entry.invariant))
