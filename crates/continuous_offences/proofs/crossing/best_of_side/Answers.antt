use Rattle.std.proofs.Common.{◌≡◌, ◌∙◌, ap, sym, subst, ℕ, Option, IfSome, true, false}
use Rattle.std.proofs.lemmas.Bool.{cond-false, cond-true}
use Rattle.audit_base.specs.declared.orders.Order.{Order}
use Rattle.audit_base.specs.Orders.{order_at, side_at}
use Rattle.audit_base.specs.Priority.{better}
use Rattle.call_offences.specs.DealOffences.{IsOrderOnSide}
use Rattle.continuous_offences.specs.Crossing.{best_of_side}
use Rattle.continuous_offences.proofs.crossing.best_of_side.Goals as goal

pub at-requires : goal.at-requires
at-requires c = (subst (λ (o : Option ℕ). IfSome o (IsOrderOnSide c.args.orders.now (side_at c.args.orders.now c.args.order))) c.in-Some.is c.requires.resting).inside

pub better-requires : goal.better-requires
better-requires c =
    let on = subst (λ (o : Option ℕ). IfSome o (IsOrderOnSide c.args.orders.now (side_at c.args.orders.now c.args.order))) c.in-Some.is c.requires.resting in
    ap (λ (o : Order). o.side) c.at.ensures ∙ on.of_side ∙ sym (ap (λ (o : Order). o.side) c.at-in-Some.ensures)

pub returns-then-better-clause-same : goal.returns-then-better-clause-same
returns-then-better-clause-same c =
    let orders = c.args.orders.now in
    let best = c.in-Some.best in
    let over : better (order_at orders best) (order_at orders c.args.order) ≡ true = sym (λ i. better (c.at.ensures i) (c.at-in-Some.ensures i)) ∙ sym c.better.ensures ∙ c.if-better.true in
    sym (ap (best_of_side orders c.args.order) c.in-Some.is ∙ cond-true (better (order_at orders best) (order_at orders c.args.order)) best c.args.order over)

pub returns-then-better-clause-inside : goal.returns-then-better-clause-inside
returns-then-better-clause-inside c = (subst (λ (o : Option ℕ). IfSome o (IsOrderOnSide c.args.orders.now (side_at c.args.orders.now c.args.order))) c.in-Some.is c.requires.resting).inside

pub returns-else-better-clause-same : goal.returns-else-better-clause-same
returns-else-better-clause-same c =
    let orders = c.args.orders.now in
    let best = c.in-Some.best in
    let under : better (order_at orders best) (order_at orders c.args.order) ≡ false = sym (λ i. better (c.at.ensures i) (c.at-in-Some.ensures i)) ∙ sym c.better.ensures ∙ c.if-better.false in
    sym (ap (best_of_side orders c.args.order) c.in-Some.is ∙ cond-false (better (order_at orders best) (order_at orders c.args.order)) best c.args.order under)

pub returns-in-None-clause-same : goal.returns-in-None-clause-same
returns-in-None-clause-same c = sym (ap (best_of_side c.args.orders.now c.args.order) c.in-None.is)
