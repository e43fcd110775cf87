use Rattle.fix_days.proofs.LogLemmas.{written-days}
use Rattle.fix_days.proofs.laws.written_days_are_read_again.Goals as goal

pub returns : goal.returns
returns c = record { framed = written-days }
