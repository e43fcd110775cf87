use Rattle.trade_reports.proofs.AgainLemmas.{pairs-again}
use Rattle.trade_reports.proofs.laws.reports_are_paired_again.Goals as goal

pub returns : goal.returns
returns c = pairs-again
