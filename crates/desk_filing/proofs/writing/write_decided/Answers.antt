use Rattle.std.proofs.Common.{inl}
use Rattle.desk_filing.proofs.WritingLemmas.{length_of_answer, length_of_halt, runs_halted}
use Rattle.desk_filing.proofs.writing.write_decided.Goals as goal

pub returns-in-Ok-clause-runs : goal.returns-in-Ok-clause-runs
returns-in-Ok-clause-runs g c = λ call request decides.
    record { decided = c.in-Ok.answer.status; text = c.in-Ok.answer.text.items; answers = inl (rw c.in-Ok.is at decides); writes = rw c.deref.ensures.value at c.write_text.ensures.writes }

pub returns-in-Err-clause-runs : goal.returns-in-Err-clause-runs
returns-in-Err-clause-runs g c = λ call request decides. runs_halted call request _ _ c.in-Err.halt c.write_halt.result (rw c.in-Err.is at decides) c.write_halt.ensures.writes

pub returns-in-Ok-clause-length : goal.returns-in-Ok-clause-length
returns-in-Ok-clause-length g c = λ r within. length_of_answer r c.in-Ok.answer c.write_text.result (rw c.in-Ok.is at within)

pub returns-in-Err-clause-length : goal.returns-in-Err-clause-length
returns-in-Err-clause-length g c = λ r within. length_of_halt r _ _ c.in-Err.halt c.write_halt.result (rw c.in-Err.is at within) c.write_halt.ensures.writes
