use Rattle.further_checks.proofs.FurtherLemmas.{expected_prices}
use Rattle.further_checks.proofs.laws.expected_trades_have_resting_prices.Goals as goal

pub returns : goal.returns
returns c = expected_prices
