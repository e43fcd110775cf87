use Rattle.call_laws.proofs.ExtremeLemmas.{least-cut, greatest-executable}
use Rattle.call_laws.proofs.existence.extremes_exist.Goals as goal

pub returns : goal.returns
returns c = record { cut = least-cut; executable = greatest-executable }
