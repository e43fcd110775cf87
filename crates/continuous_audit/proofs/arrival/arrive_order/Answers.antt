use Rattle.std.proofs.Common.{◌≡◌, ◌∙◌, ℕ, ap, sym, arith}
use Rattle.audit_base.specs.declared.orders.Order.{Order}
use Rattle.audit_base.specs.Orders.{order_at}
use Rattle.audit_base.proofs.ContinuousLemmas.{target-below}
use Rattle.continuous_audit.specs.DealFindings.{size_left}
use Rattle.continuous_audit.proofs.OpenLemmas.{arrived}
use Rattle.continuous_audit.proofs.arrival.arrive_order.Goals as goal

pub target_rests-requires-clause-inside : goal.target_rests-requires-clause-inside
target_rests-requires-clause-inside c = λ t e.
    let is : c.at-arrived.result ≡ order_at c.args.orders.now c.args.order = c.at-arrived.ensures in
    let lt = target-below c.args.orders.now c.requires.order_list c.args.order c.requires.order t (sym (ap (λ (o : Order). o.target) is) ∙ e) in
    omega arith

pub returns-clause-arrived : goal.returns-clause-arrived
returns-clause-arrived c = λ deals is.
    let o_is : c.at-arrived.result ≡ order_at c.args.orders.now c.args.order = c.at-arrived.ensures in
    arrived c.args.orders.now c.requires.order_list deals c.args.order c.requires.order c.args.traded.now c.args.order_numbers.now is c.at-arrived.result o_is c.target_rests.result c.target_rests.ensures.none c.target_rests.ensures.some
    _ c.enters-entered.ensures (c.traded_by_chain-chain_traded.ensures.chain_traded deals is) (c.size_left.ensures.same ∙ ap (λ (q : ℕ). size_left c.enters-entered.result q c.traded_by_chain-chain_traded.result) c.quantity.ensures.same)
