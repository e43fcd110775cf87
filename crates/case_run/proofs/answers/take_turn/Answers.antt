use Rattle.case_run.proofs.TurnLemmas.{turn_of_answer, turn_of_halt}
use Rattle.case_run.proofs.answers.take_turn.Goals as goal

pub returns-in-Ok-clause-turn : goal.returns-in-Ok-clause-turn
returns-in-Ok-clause-turn g c =
    turn_of_answer _ _ _ _ c.in-Ok.answer c.write_text.result c.in-Ok.ensures.answers (rw c.deref.ensures.value at c.write_text.ensures.writes)

pub returns-in-Err-clause-turn : goal.returns-in-Err-clause-turn
returns-in-Err-clause-turn g c =
    turn_of_halt _ _ _ _ c.in-Err.halt c.write_halt.result c.in-Err.ensures.answers c.write_halt.ensures.writes
