use Rattle.std.proofs.Common.{sym, ap, ◌∙◌, List, ℕ, ◌++◌}
use Rattle.std.specs.List.{flat_map}
use Rattle.std.proofs.lemmas.List.{append-nil}
use Rattle.plain_logs.specs.BadReports.{whole_line}
use Rattle.plain_logs.proofs.GoodLemmas.{none-reported}
use Rattle.plain_logs.proofs.day_writers.BadReportDayWriter.append_good.Goals as goal

pub returns : goal.returns
returns c = λ bodies same. sym (ap (λ (t : List (List ℕ)). c.args._out.now.items ++ flat_map whole_line t) (none-reported bodies) ∙ append-nil c.args._out.now.items)
