use Rattle.command_run.proofs.RunLemmas.{answers_stop, answers_text, length_of_answer, length_of_stop}
use Rattle.command_run.proofs.RestLemmas.{rest-stop, rest-text}
use Rattle.command_run.proofs.writing.write_answer.Goals as goal

pub returns-in-Ok-clause-answers : goal.returns-in-Ok-clause-answers
returns-in-Ok-clause-answers g c = λ request r is.
    answers_text r (g.P.Program.command request) _ _ c.in-Ok.answer.status c.in-Ok.answer.text.items c.write_text.result (rw c.in-Ok.is at is) (rw c.deref.ensures.value at c.write_text.ensures.writes)

pub returns-in-Err-clause-answers : goal.returns-in-Err-clause-answers
returns-in-Err-clause-answers g c = λ request r is.
    answers_stop r (g.P.Program.command request) _ _ c.in-Err.stop c.write_stop.result (rw c.in-Err.is at is) c.write_stop.ensures.writes

pub returns-in-Ok-clause-too_long : goal.returns-in-Ok-clause-too_long
returns-in-Ok-clause-too_long g c = λ r within. length_of_answer r c.in-Ok.answer c.write_text.result (rw c.in-Ok.is at within)

pub returns-in-Err-clause-too_long : goal.returns-in-Err-clause-too_long
returns-in-Err-clause-too_long g c = λ r within. length_of_stop r _ _ c.in-Err.stop c.write_stop.result (rw c.in-Err.is at within) c.write_stop.ensures.writes

pub returns-in-Ok-clause-rest : goal.returns-in-Ok-clause-rest
returns-in-Ok-clause-rest g c = λ request r before early writes has is.
    rest-text r (g.P.Program.command request) before _ _ early has _ _ c.write_text.result (rw c.in-Ok.is at is) (rw c.deref.ensures.value at c.write_text.ensures.writes)

pub returns-in-Err-clause-rest : goal.returns-in-Err-clause-rest
returns-in-Err-clause-rest g c = λ request r before early writes has is.
    rest-stop r (g.P.Program.command request) before _ _ early has writes c.in-Err.stop c.write_stop.result (rw c.in-Err.is at is) c.write_stop.ensures.writes
