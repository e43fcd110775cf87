use Rattle.call_laws.proofs.OptimumLemmas.{maximum-conforms, maximum-reaches, maximum-ranges}
use Rattle.call_laws.proofs.optimum.greatest_matching_reaches_the_least_cut.Goals as goal

pub returns : goal.returns
returns c = λ orders c list ranges least. (maximum-conforms orders c list ranges least, (maximum-reaches orders c list ranges least).reached, maximum-ranges orders c list ranges least)
