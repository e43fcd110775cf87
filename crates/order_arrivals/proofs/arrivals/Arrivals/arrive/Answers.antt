use Rattle.std.proofs.Common.{◌≡◌, ◌≤◌, ◌-◌, ◌^◌, ◌∙◌, ap, sym, arith, ℕ, length, cond}
use Rattle.audit_base.specs.declared.orders.Order.{Order}
use Rattle.audit_base.specs.Continuous.{chain_traded_quantity, has_entered}
use Rattle.audit_base.specs.Orders.{order_at, place_at}
use Rattle.audit_base.proofs.ContinuousLemmas.{target-below}
use Rattle.order_arrivals.specs.Sums.{amount_total}
use Rattle.continuous_audit.proofs.KeptLemmas.{before-walked}
use Rattle.continuous_audit.proofs.NumberLemmas.{traded-then}
use Rattle.order_arrivals.specs.declared.arrivals.Arrivals.{Arrivals}
use Rattle.order_arrivals.specs.Arrivals.{enters_where, target_rests_with}
use Rattle.order_arrivals.proofs.ArrivalLemmas.{arrived, entered-is, few-incoming}
use Rattle.order_arrivals.proofs.arrivals.Arrivals.arrive.Goals as goal

pub target_rests-target_rests-requires-clause-inside : goal.target_rests-target_rests-requires-clause-inside
target_rests-target_rests-requires-clause-inside c t e =
    let lt = target-below c.args.market.now.orders.now c.requires.market.order_list c.args.order c.requires.order t (ap (λ (o : Order). o.target) (sym c.at-own.ensures) ∙ e) in
    let inside = c.requires.order in
    omega arith

pub target_rests-target_rests-requires-clause-traded : goal.target_rests-target_rests-requires-clause-traded
target_rests-target_rests-requires-clause-traded c t e =
    let lt = target-below c.args.market.now.orders.now c.requires.market.order_list c.args.order c.requires.order t (ap (λ (o : Order). o.target) (sym c.at-own.ensures) ∙ e) in
    let inside = c.requires.order in
    let long : length c.amounts.result.now ≡ length c.args.market.now.orders.now = ap length c.amounts.ensures ∙ c.requires.sums.traded.totals.count in
    omega arith

pub returns : goal.returns
returns c =
    let m = c.args.market.now in
    let orders = m.orders.now in
    let list = c.requires.market.order_list in
    let n = c.args.order in
    let old = c.args.self.now in
    let s = c.args.sums.now in
    let amounts = s.sums.amounts in
    let totals = c.requires.sums.traded.totals in
    let new : Arrivals = record { chain_traded = c.push.new.self; entered = c.push-2.new.self; sizes = c.push-3.new.self } in
    let traded = traded-then orders list m.deals.now c.requires.market.deal_list m.incoming_deals.now c.requires.market.incoming_deals n c.requires.order s.added amounts c.requires.sums.traded.split totals in
    let chain_is : c.chain_traded_of-chain_traded.result ≡ chain_traded_quantity orders m.deals.now n =
    c.chain_traded_of-chain_traded.ensures.chain orders list (sym totals.count) c.requires.sums.families (sym (c.target.ensures.same ∙ ap (λ (o : Order). o.target) c.at-own.ensures)) ∙ before-walked orders list m.deals.now c.requires.market.deal_list.named n amounts c.requires.order traded.is in
    let most : c.chain_traded_of-chain_traded.result ≤ 2 ^ 80 =
    let up : c.chain_traded_of-chain_traded.result ≤ amount_total amounts = c.chain_traded_of-chain_traded.ensures.most in
    let all = c.requires.sums.total in
    let inside = totals.inside in
    let few = few-incoming orders m.deals.now m.incoming_deals.now c.requires.market.incoming_deals in
    let small = c.requires.market.deal_list.fits_indices in
    omega arith in
    let own_is : c.at-own.result ≡ order_at orders n = c.at-own.ensures in
    let rests_is : c.target_rests-target_rests.result ≡ target_rests_with orders old.sizes.items amounts (place_at orders n) (order_at orders n).target =
    c.target_rests-target_rests.ensures ∙ (λ i. target_rests_with orders (c.deref.ensures.value i) (c.amounts.ensures i) (own_is i).place (own_is i).target) in
    let entered_is : c.enters-entered.result ≡ has_entered orders m.deals.now n =
    c.enters-entered.ensures ∙ (λ i. enters_where (own_is i) (rests_is i)) ∙ entered-is orders list m.deals.now n c.requires.order old.sizes.items amounts c.requires.known.sizes traded.is in
    let size_is : c.size_of.result ≡ cond c.enters-entered.result ((order_at orders n).quantity - c.chain_traded_of-chain_traded.result) 0 =
    c.size_of.ensures ∙ ap (λ (q : ℕ). cond c.enters-entered.result (q - c.chain_traded_of-chain_traded.result) 0) (c.quantity.ensures.same ∙ ap (λ (o : Order). o.quantity) own_is) in
    arrived orders list m.deals.now n c.requires.order old new c.requires.known c.chain_traded_of-chain_traded.result c.size_of.result c.enters-entered.result chain_is most entered_is size_is c.in_ok-push.ensures.items c.in_ok-push-2.ensures.items c.in_ok-push-3.ensures.items
