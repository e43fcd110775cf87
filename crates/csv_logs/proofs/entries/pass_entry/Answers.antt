use Rattle.std.proofs.Common.{rules}
use Rattle.csv_logs.proofs.SymbolLemmas.{refuses}
use Rattle.csv_logs.proofs.entries.pass_entry.Goals as goal

pub returns-in_err-test : goal.returns-in_err-test
returns-in_err-test g c =
    let bad = refuses (g.R.CsvRecord.meaning c.args.fields.now) c.in_err-test.field-0.0 (g.K.Collector.has_taken c.args.entries.now) c.in_err-test.ensures in
    search (rules, bad)
