use Rattle.std.proofs.Common.{◌≡◌, ◌∙◌, ap, sym, true, false, Some, None}
use Rattle.std.proofs.lemmas.Bool.{cond-false, cond-true}
use Rattle.audit_base.specs.declared.orders.Order.{Order}
use Rattle.audit_base.specs.Expected.{limits_meet}
use Rattle.audit_base.specs.Orders.{limit_at, order_at}
use Rattle.offence_list.specs.declared.offences.ListedOffence.{ListedOffence}
use Rattle.continuous_offences.specs.Crossing.{best_of_side, spread_of}
use Rattle.continuous_offences.specs.StateAfterDeals.{orders_of, place_of, shown_after}
use Rattle.continuous_offences.specs.Passing.{own_side}
use Rattle.continuous_offences.proofs.crossing.met.Goals as goal

pub returns-then-limits_meet : goal.returns-then-limits_meet
returns-then-limits_meet c =
    let d = c.args.dealt.now in
    let orders = orders_of d in
    let own : c.at-own.result ≡ order_at orders d.order = c.at-own.ensures in
    let side : c.side-side.result ≡ own_side d = c.side-side.ensures ∙ ap (λ (o : Order). o.side) own in
    let place : c.place-place.result ≡ place_of d = c.place-place.ensures ∙ ap (λ (o : Order). o.place) own in
    let limit : c.limit-limit.result ≡ limit_at orders d.order = c.limit-limit.ensures ∙ ap (λ (o : Order). o.limit) own in
    let against : c.limit-against.result ≡ limit_at orders c.args.other = c.limit-against.ensures ∙ ap (λ (o : Order). o.limit) c.at.ensures in
    let meet = limits_meet (own_side d) (limit_at orders d.order) (limit_at orders c.args.other) in
    let on : meet ≡ true = sym (λ i. limits_meet (side i) (limit i) (against i)) ∙ sym c.limits_meet.ensures ∙ c.if-limits_meet.true in
    let best : c.shown-best_shown.result ≡ shown_after d (best_of_side orders d.order c.args.same) = c.shown-best_shown.ensures ∙ ap (shown_after d) c.best_of_side-best.ensures.same in
    let spread = spread_of (own_side d) (place_of d) (shown_after d (best_of_side orders d.order c.args.same)) (shown_after d c.args.other) in
    ap (λ (o : ListedOffence). Some o) (c.spread_of.ensures ∙ (λ i. spread_of (side i) (place i) (best i) (c.shown-other_shown.ensures i))) ∙ sym (cond-true meet (Some spread) None on)

pub returns-else-limits_meet : goal.returns-else-limits_meet
returns-else-limits_meet c =
    let d = c.args.dealt.now in
    let orders = orders_of d in
    let own : c.at-own.result ≡ order_at orders d.order = c.at-own.ensures in
    let side : c.side-side.result ≡ own_side d = c.side-side.ensures ∙ ap (λ (o : Order). o.side) own in
    let limit : c.limit-limit.result ≡ limit_at orders d.order = c.limit-limit.ensures ∙ ap (λ (o : Order). o.limit) own in
    let against : c.limit-against.result ≡ limit_at orders c.args.other = c.limit-against.ensures ∙ ap (λ (o : Order). o.limit) c.at.ensures in
    let meet = limits_meet (own_side d) (limit_at orders d.order) (limit_at orders c.args.other) in
    let off : meet ≡ false = sym (λ i. limits_meet (side i) (limit i) (against i)) ∙ sym c.limits_meet.ensures ∙ c.if-limits_meet.false in
    let spread = spread_of (own_side d) (place_of d) (shown_after d (best_of_side orders d.order c.args.same)) (shown_after d c.args.other) in
    sym (cond-false meet (Some spread) None off)
