use Rattle.audit_run.proofs.corollaries.a_sink_with_room_is_written.Goals as goal

pub returns : goal.returns
returns c = λ asked r old new answer none fits stays runs. c.a_sink_with_room_is_written.ensures asked r old new answer none fits stays runs
