use Rattle.trade_reports.proofs.RangeLemmas.{paired-range}
use Rattle.trade_reports.proofs.laws.paired_trades_are_in_range.Goals as goal

pub returns : goal.returns
returns c = paired-range
