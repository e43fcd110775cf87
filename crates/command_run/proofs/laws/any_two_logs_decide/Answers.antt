use Rattle.command_run.proofs.InTurnLemmas.{decides-second, stops-first}
use Rattle.command_run.proofs.laws.any_two_logs_decide.Goals as goal

pub returns-clause-first : goal.returns-clause-first
returns-clause-first g c = λ request r orders trades the_stop only starts is. stops-first r (g.P.Program.command request) orders trades the_stop only starts is

pub returns-clause-second : goal.returns-clause-second
returns-clause-second g c = λ request first second orders trades bytes result on starts answers read is.
    decides-second first second on (g.P.Program.command request) orders trades bytes starts read result answers is
