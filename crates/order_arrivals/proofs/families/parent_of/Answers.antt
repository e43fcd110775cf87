use Rattle.std.proofs.Common.{◌∙◌, sym, ap, arith}
use Rattle.audit_base.specs.declared.orders.Order.{Order}
use Rattle.audit_base.proofs.ContinuousLemmas.{target-below}
use Rattle.order_arrivals.proofs.families.parent_of.Goals as goal

pub returns-in-Some-clause-upto : goal.returns-in-Some-clause-upto
returns-in-Some-clause-upto c =
    let lt = target-below c.args.orders.now c.requires.list c.args.order c.requires.order c.in-Some.target (ap (λ (o : Order). o.target) (sym c.at.ensures) ∙ sym c.target.ensures.same ∙ c.in-Some.is) in
    omega arith
