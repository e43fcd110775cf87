use Rattle.std.proofs.Common.{ap, subst, sym, ◌∙◌}
use Rattle.std.specs.Prelude.{IfOk}
use Rattle.csv_logs.specs.Steps.{TakesFields, fields_say}
use Rattle.csv_logs.proofs.FeedLemmas.{unbroken-says}
use Rattle.csv_logs.proofs.entries.take_text.Goals as goal

pub returns : goal.returns
returns g c =
    let says = ap (fields_say g.R.CsvRecord.names g.R.CsvRecord.meaning c.args.header) c.in_ok-fields.ensures
    ∙ sym (unbroken-says g.R.CsvRecord.names g.R.CsvRecord.meaning c.args.header c.args.line.now (sym c.is_broken.ensures ∙ c.if-is_broken.false)) in
    subst (λ (said : _). IfOk c.take_fields.result (TakesFields said (g.K.Collector.has_taken c.args.entries.now) (g.K.Collector.has_taken c.take_fields.new.entries))) says c.take_fields.ensures
