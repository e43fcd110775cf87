use Rattle.command_run.proofs.OneLogLemmas.{decides-one}
use Rattle.command_run.proofs.laws.one_log_decides.Goals as goal

pub returns : goal.returns
returns g c = λ request r log name result only starts answers is. decides-one r (g.P.Program.command request) log name only result starts answers is
