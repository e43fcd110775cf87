use Rattle.call_laws.proofs.ConformLemmas.{only-quantities}
use Rattle.call_laws.proofs.laws.only_quantities.Goals as goal

pub returns : goal.returns
returns c = only-quantities
