use Rattle.std.proofs.Common.{inl, refl}
use Rattle.desk_run.specs.TopCall.{desk_reading}
use Rattle.desk_run.proofs.running.run_early.Goals as goal

pub returns-in-Orders-clause-answers : goal.returns-in-Orders-clause-answers
returns-in-Orders-clause-answers g c =
    rw c.in-Orders.is (c.run_orders.ensures.answers (desk_reading g.F.Shelf c.args.shelf.now c.args.shelf.now) (λ log. refl))

pub returns-in-Orders-clause-too_long : goal.returns-in-Orders-clause-too_long
returns-in-Orders-clause-too_long g c = λ begins. inl begins

pub returns-in-Orders-clause-messages : goal.returns-in-Orders-clause-messages
returns-in-Orders-clause-messages g c = rw c.in-Orders.is tt
