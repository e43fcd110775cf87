use Rattle.command_run.proofs.ReadyLemmas.{answer_written, held_answer}
use Rattle.command_run.proofs.laws.held_logs_are_answered.Goals as goal

pub returns-clause-written : goal.returns-clause-written
returns-clause-written g c = λ request r logs old new result ready is. answer_written r (g.P.Program.command request) logs old new result ready is

pub returns-clause-read : goal.returns-clause-read
returns-clause-read g c = λ request r logs the_status text tells held is. held_answer r (g.P.Program.command request) logs the_status text tells held is
