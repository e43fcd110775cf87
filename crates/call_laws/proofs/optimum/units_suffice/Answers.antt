use Rattle.call_laws.proofs.SufficeLemmas.{uniform-suffice, maximum-suffice}
use Rattle.call_laws.proofs.optimum.units_suffice.Goals as goal

pub returns : goal.returns
returns c = record { uniform = uniform-suffice; maximum = maximum-suffice }
