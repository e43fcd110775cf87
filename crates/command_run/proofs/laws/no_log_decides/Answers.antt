use Rattle.command_run.proofs.OneLogLemmas.{decides-none}
use Rattle.command_run.proofs.laws.no_log_decides.Goals as goal

pub returns : goal.returns
returns g c = λ request r result same none is. decides-none r (g.P.Program.command request) result same none is
