use Rattle.call_laws.proofs.ExistenceLemmas.{conforming}
use Rattle.call_laws.proofs.existence.conforming_list_exists.Goals as goal

pub returns : goal.returns
returns c = conforming
