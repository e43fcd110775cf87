use Rattle.std.proofs.Common.{◌∙◌, ap, Err}
use Rattle.desk_run.proofs.GeneratedLemmas.{all-written, memory-out, sink-failed}
use Rattle.desk_run.proofs.generated.run_orders.Goals as goal

pub returns-in-Ok-clause-answers : goal.returns-in-Ok-clause-answers
returns-in-Ok-clause-answers g c = λ r alone.
    all-written r c.args.start c.args.count c.args.form alone _ _ c.in-Ok.ensures.writes

pub returns-in-Err-Sink-clause-answers : goal.returns-in-Err-Sink-clause-answers
returns-in-Err-Sink-clause-answers g c = λ r alone.
    sink-failed r c.args.start c.args.count c.args.form alone _ _ (rw (c.in-Err-Sink.is ∙ ap Err c.in-Err-Sink.field-0-is) at c.write_generated.ensures.writes)

pub returns-in-Err-Memory-clause-answers : goal.returns-in-Err-Memory-clause-answers
returns-in-Err-Memory-clause-answers g c = λ r alone.
    memory-out r c.args.start c.args.count c.args.form alone _ _ (rw (c.in-Err-Memory.is ∙ ap Err c.in-Err-Memory.field-0-is) at c.write_generated.ensures.writes)
