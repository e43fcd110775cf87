use Rattle.std.proofs.Common.{◌≡◌, ◌∙◌, ◌++◌, ℕ, List, ap, length, map, rules, subst}
use Rattle.std.specs.Vec.{vec_len}
use Rattle.std.proofs.lemmas.Result.{on_ok_weaker}
use Rattle.audit_base.specs.declared.terms.Side.{Side}
use Rattle.audit_base.specs.Orders.{order_at}
use Rattle.continuous_audit.specs.Pairs.{fill_pair}
use Rattle.continuous_audit.specs.Matching.{AreFillsApplied}
use Rattle.continuous_audit.proofs.MatchLemmas.{some-expected}
use Rattle.continuous_audit.proofs.TradedLemmas.{first-inside, first-read, traded-read, traded-matched, traded-counted}
use Rattle.continuous_audit.proofs.expected_trades.trade_order.Goals as goal

pub apply_fills-requires-clause-traded_inside : goal.apply_fills-requires-clause-traded_inside
apply_fills-requires-clause-traded_inside c =
    let own_is : c.at-own.result ≡ order_at c.args.orders.now c.args.order = c.at-own.ensures in
    let e = some-expected c.args.orders.now c.requires.order_list c.requires.regular in
    let is = c.requires.matched e.0 e.1 in
    first-inside c.args.orders.now c.requires.order_list c.args.order c.requires.order c.args.so_far.now c.requires.counted e.0 e.1 is c.arrive_order-arrival.result.size c.at-own.result own_is c.deref-2.result.now (c.deref-2.ensures.value ∙ c.in_ok-left.ensures.fills) (let v : vec_len c.args.so_far.now.traded ≡ length c.args.so_far.now.traded.items = search rules in v ∙ c.requires.counted.traded_count)

pub apply_fills-requires-clause-left_inside : goal.apply_fills-requires-clause-left_inside
apply_fills-requires-clause-left_inside c =
    let own_is : c.at-own.result ≡ order_at c.args.orders.now c.args.order = c.at-own.ensures in
    let e = some-expected c.args.orders.now c.requires.order_list c.requires.regular in
    let is = c.requires.matched e.0 e.1 in
    first-inside c.args.orders.now c.requires.order_list c.args.order c.requires.order c.args.so_far.now c.requires.counted e.0 e.1 is c.arrive_order-arrival.result.size c.at-own.result own_is c.deref-2.result.now (c.deref-2.ensures.value ∙ c.in_ok-left.ensures.fills) (let v : vec_len c.note.new.self.left ≡ length c.note.new.self.left.items = search rules in v ∙ ap (λ (xs : List ℕ). length xs) c.note.ensures.left ∙ c.requires.counted.order_numbers.left_count)

pub returns-clause-counted : goal.returns-clause-counted
returns-clause-counted c =
    let own_is : c.at-own.result ≡ order_at c.args.orders.now c.args.order = c.at-own.ensures in
    let e = some-expected c.args.orders.now c.requires.order_list c.requires.regular in
    let is = c.requires.matched e.0 e.1 in
    let arrived = c.arrive_order-arrival.ensures.arrived e.0 (first-read c.args.orders.now c.requires.order_list c.args.order c.requires.order c.args.so_far.now e.0 e.1 is c.deref.result.now c.deref.ensures.value) in
    on_ok_weaker c.push_pairs.result (λ pushed.
    traded-counted c.args.orders.now c.requires.order_list c.args.order c.requires.order c.arrive_order-arrival.result.size c.in_ok-left.left c.arrive_order-arrival.result.chain_traded c.deref-2.result.now c.args.so_far.now _ c.requires.counted
    (traded-read c.args.orders.now c.args.order c.arrive_order-arrival.result.size c.in_ok-left.left c.arrive_order-arrival.result.chain_traded c.args.so_far.now _ c.at-own.result own_is c.fill_order.new.fills.items c.deref-2.result.now c.deref-3.result.now c.apply_fills.new.traded.items c.apply_fills.new.left.items
    c.in_ok-left.ensures.fills c.deref-2.ensures.value c.deref-3.ensures.value c.in_ok-left.ensures.left (subst (λ (xs : List ℕ). AreFillsApplied c.deref-2.result.now c.args.so_far.now.traded.items xs c.apply_fills.new.traded.items c.apply_fills.new.left.items) c.note.ensures.left c.apply_fills.ensures) c.note.ensures.chain_traded c.set_total.ensures c.set_amount.ensures c.in_ok-left.ensures.books (pushed ∙ ap (λ (side : Side). c.args.so_far.now.pairs.items ++ map (fill_pair side c.args.order) c.deref-3.result.now) c.side.ensures))
    e.0 e.1 is arrived.size_is arrived.chain_traded_is c.arrive_order-arrival.ensures.fits.most c.arrive_order-arrival.ensures.fits.bounded c.arrive_order-arrival.result.chain_ended c.arrive_order-arrival.ensures.fits.chain_ended c.note.ensures.chain_ended c.note.ensures.sizes) c.push_pairs.ensures

pub returns-clause-matched : goal.returns-clause-matched
returns-clause-matched c =
    let own_is : c.at-own.result ≡ order_at c.args.orders.now c.args.order = c.at-own.ensures in
    on_ok_weaker c.push_pairs.result (λ pushed deals expected.
    let is = c.requires.matched deals expected in
    let arrived = c.arrive_order-arrival.ensures.arrived deals (first-read c.args.orders.now c.requires.order_list c.args.order c.requires.order c.args.so_far.now deals expected is c.deref.result.now c.deref.ensures.value) in
    traded-matched c.args.orders.now c.requires.order_list c.args.order c.requires.order c.arrive_order-arrival.result.size c.in_ok-left.left c.arrive_order-arrival.result.chain_traded c.deref-2.result.now c.args.so_far.now _ c.requires.counted
    (traded-read c.args.orders.now c.args.order c.arrive_order-arrival.result.size c.in_ok-left.left c.arrive_order-arrival.result.chain_traded c.args.so_far.now _ c.at-own.result own_is c.fill_order.new.fills.items c.deref-2.result.now c.deref-3.result.now c.apply_fills.new.traded.items c.apply_fills.new.left.items
    c.in_ok-left.ensures.fills c.deref-2.ensures.value c.deref-3.ensures.value c.in_ok-left.ensures.left (subst (λ (xs : List ℕ). AreFillsApplied c.deref-2.result.now c.args.so_far.now.traded.items xs c.apply_fills.new.traded.items c.apply_fills.new.left.items) c.note.ensures.left c.apply_fills.ensures) c.note.ensures.chain_traded c.set_total.ensures c.set_amount.ensures c.in_ok-left.ensures.books (pushed ∙ ap (λ (side : Side). c.args.so_far.now.pairs.items ++ map (fill_pair side c.args.order) c.deref-3.result.now) c.side.ensures))
    deals expected is arrived.size_is arrived.chain_traded_is) c.push_pairs.ensures
