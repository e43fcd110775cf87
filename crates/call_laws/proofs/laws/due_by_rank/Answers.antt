use Rattle.call_laws.proofs.ConformLemmas.{due-by_rank}
use Rattle.call_laws.proofs.laws.due_by_rank.Goals as goal

pub returns : goal.returns
returns c = due-by_rank
