use Rattle.std.proofs.Common.{refl, sym, ◌∙◌, subst, arith, ℕ, suc}
use Rattle.order_arrivals.specs.DealtOrders.{HaveTraded}
use Rattle.continuous_picture.proofs.WalkLemmas.{next-at, walk-passed, walk-taken}
use Rattle.continuous_picture.proofs.walks.Walk.take.Goals as goal

pub add_next-requires-clause-next : goal.add_next-requires-clause-next
add_next-requires-clause-next c = (next-at c.args.market.now.orders.now c.args.self.now.next c.args.place (sym c.has_order_at.ensures ∙ c.if-not-has_order_at.false)).0

pub add_next-requires-clause-here : goal.add_next-requires-clause-here
add_next-requires-clause-here c = (next-at c.args.market.now.orders.now c.args.self.now.next c.args.place (sym c.has_order_at.ensures ∙ c.if-not-has_order_at.false)).1

pub returns-then-not-has_order_at : goal.returns-then-not-has_order_at
returns-then-not-has_order_at c = walk-passed c.args.market.now c.requires.market c.args.place c.args.self.now (sym c.has_order_at.ensures ∙ c.if-not-has_order_at.true) c.requires.walk

pub returns : goal.returns
returns c =
    let m = c.args.market.now in
    let old = c.args.self.now in
    let w = c.add_next.new.self in
    let at = next-at m.orders.now old.next c.args.place (sym c.has_order_at.ensures ∙ c.if-not-has_order_at.false) in
    let has = c.in_ok-add_next.ensures.ok in
    walk-taken m c.requires.market c.args.place old w c.requires.walk at.0 at.1 has _ (let e = has.next in omega arith) refl refl
    (subst (λ (n : ℕ). HaveTraded m (suc n) c.add_deals_of.new.self.added c.add_deals_of.new.self.traded.items) has.next c.add_deals_of.ensures)
