use Rattle.call_laws.proofs.OptimumLemmas.{uniform-expected, uniform-greatest}
use Rattle.call_laws.proofs.optimum.uniform_trades_are_expected.Goals as goal

pub returns : goal.returns
returns c = λ orders c list ranges best. (uniform-expected orders c list ranges best, uniform-greatest orders c list ranges best, best.reached)
