use Rattle.call_laws.proofs.OptimumLemmas.{volume-le-uniform, uniform-conforms, uniform-reaches, uniform-ranges}
use Rattle.call_laws.proofs.optimum.uniform_optimum.Goals as goal

pub returns : goal.returns
returns c = record { bounded = volume-le-uniform; reached = λ orders c list ranges best. (uniform-conforms orders c list ranges best, (uniform-reaches orders c list ranges best).reached, uniform-ranges orders c list ranges best) }
