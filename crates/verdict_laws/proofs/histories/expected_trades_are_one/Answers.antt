use Rattle.verdict_laws.proofs.HistoryLemmas.{expected-one}
use Rattle.verdict_laws.proofs.histories.expected_trades_are_one.Goals as goal

pub returns : goal.returns
returns c = expected-one
