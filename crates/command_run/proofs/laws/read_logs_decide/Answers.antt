use Rattle.command_run.proofs.OneLogLemmas.{text-of}
use Rattle.command_run.proofs.laws.read_logs_decide.Goals as goal

pub returns : goal.returns
returns g c = λ request r the_status text answers is. text-of r (g.P.Program.command request) the_status text answers is
