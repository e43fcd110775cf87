use Rattle.log_contents.proofs.LineLemmas.{text-lines}
use Rattle.log_contents.proofs.laws.nothing_is_forged.Goals as goal

pub returns : goal.returns
returns c = text-lines
