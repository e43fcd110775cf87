use Rattle.command_run.proofs.AgreeLemmas.{calls-agree}
use Rattle.command_run.proofs.laws.calls_agree.Goals as goal

pub returns : goal.returns
returns g c = λ request. calls-agree (g.P.Program.command request)
