use Rattle.call_laws.proofs.OptimumLemmas.{maximum-expected, maximum-greatest}
use Rattle.call_laws.proofs.optimum.maximum_trades_are_expected.Goals as goal

pub returns : goal.returns
returns c = λ orders c list ranges least. (maximum-expected orders c list ranges least, maximum-greatest orders c list ranges least, least.reached)
