use Rattle.std.proofs.Common.{◌≡◌, ℕ, length, subst, add-one, arith}
use Rattle.short_order.specs.ShortOrders.{is_short_on}
use Rattle.short_order.specs.Searching.{IsFoundBelow}
use Rattle.short_order.proofs.ShortLemmas.{best-found, found-best, found-next, short-stands}
use Rattle.short_order.proofs.searching.best_short_on.Goals as goal

pub loop-index-preserved : goal.loop-index-preserved
loop-index-preserved c =
    rw (add-one, c.next_best-held.ensures) (found-next c.args.orders.now (is_short_on c.args.orders.now c.args.traded.now c.args.side) c.loop-index.index c.loop-index.held c.loop-index.invariant)

pub returns-clause-best : goal.returns-clause-best
returns-clause-best c =
    let test = is_short_on c.args.orders.now c.args.traded.now c.args.side in
    let at : c.loop-index.index ≡ length c.args.orders.now = omega arith in
    found-best c.args.orders.now c.requires.order_list c.args.side test (short-stands c.args.orders.now c.args.traded.now c.args.side) c.loop-index.held
    (subst (λ (n : ℕ). IsFoundBelow c.args.orders.now test n c.loop-index.held) at c.loop-index.invariant)

pub returns-clause-of_deals : goal.returns-clause-of_deals
returns-clause-of_deals c = λ deals totals.
    let test = is_short_on c.args.orders.now c.args.traded.now c.args.side in
    let at : c.loop-index.index ≡ length c.args.orders.now = omega arith in
    best-found c.args.orders.now c.args.traded.now deals totals c.args.side c.requires.order_list c.loop-index.held
    (subst (λ (n : ℕ). IsFoundBelow c.args.orders.now test n c.loop-index.held) at c.loop-index.invariant)
