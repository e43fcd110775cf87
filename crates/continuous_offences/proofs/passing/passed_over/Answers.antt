use Rattle.std.proofs.Common.{◌≡◌, ◌∙◌, ap, sym, true, false, Some, None}
use Rattle.std.proofs.lemmas.Bool.{cond-false, cond-true}
use Rattle.audit_base.specs.declared.orders.Order.{Order}
use Rattle.audit_base.specs.Continuous.{resting_order}
use Rattle.audit_base.specs.Orders.{order_at, side_at}
use Rattle.audit_base.specs.Priority.{better}
use Rattle.offence_list.specs.declared.offences.ListedOffence.TheVariants.{Priority}
use Rattle.continuous_offences.specs.StateAfterDeals.{orders_of, shown_after}
use Rattle.continuous_offences.proofs.passing.passed_over.Goals as goal

pub better-requires : goal.better-requires
better-requires c =
    let orders = orders_of c.args.dealt.now in
    ap (λ (o : Order). o.side) c.at.ensures ∙ c.requires.side ∙ ap (side_at orders) (sym c.resting_of-resting.ensures.same) ∙ sym (ap (λ (o : Order). o.side) c.at-held.ensures)

pub returns-then-better : goal.returns-then-better
returns-then-better c =
    let d = c.args.dealt.now in
    let orders = orders_of d in
    let deal = c.args.deal.now in
    let r = resting_order orders deal in
    let rest = c.resting_of-resting.ensures.same in
    let held : c.at-held.result ≡ order_at orders r = c.at-held.ensures ∙ ap (order_at orders) rest in
    let over = better (order_at orders c.args.best) (order_at orders r) in
    let on : over ≡ true = sym (λ i. better (c.at.ensures i) (held i)) ∙ sym c.better.ensures ∙ c.if-better.true in
    let side : c.side-side.result ≡ side_at orders r = c.side-side.ensures ∙ ap (λ (o : Order). o.side) held in
    let own : c.shown-own.result ≡ shown_after d r = c.shown-own.ensures ∙ ap (shown_after d) rest in
    (λ i. Some (Priority deal.place (side i) (c.shown-ahead.ensures i) (own i))) ∙ sym (cond-true over (Some (Priority deal.place (side_at orders r) (shown_after d c.args.best) (shown_after d r))) None on)

pub returns-else-better : goal.returns-else-better
returns-else-better c =
    let d = c.args.dealt.now in
    let orders = orders_of d in
    let deal = c.args.deal.now in
    let r = resting_order orders deal in
    let held : c.at-held.result ≡ order_at orders r = c.at-held.ensures ∙ ap (order_at orders) c.resting_of-resting.ensures.same in
    let over = better (order_at orders c.args.best) (order_at orders r) in
    let off : over ≡ false = sym (λ i. better (c.at.ensures i) (held i)) ∙ sym c.better.ensures ∙ c.if-better.false in
    sym (cond-false over (Some (Priority deal.place (side_at orders r) (shown_after d c.args.best) (shown_after d r))) None off)
