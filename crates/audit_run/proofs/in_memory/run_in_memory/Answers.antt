use Rattle.log_source.specs.Sources.{longest_log}
use Rattle.audit_run.proofs.in_memory.run_in_memory.Goals as goal

pub returns-clause-read : goal.returns-clause-read
returns-clause-read c = c.a_quiet_shelf_is_read.ensures _ longest_log c.args.shelf.now c.run.new.shelf _ _ c.run.result c.run.ensures.causes

pub returns-clause-answer : goal.returns-clause-answer
returns-clause-answer c = λ none.
    c.a_held_answer_with_room_is_written.ensures _ longest_log c.args.shelf.now c.run.new.shelf c.args.out.now c.run.new.out c.run.result none c.run.ensures.sink c.run.ensures.causes
