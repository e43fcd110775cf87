use Rattle.std.proofs.Common.{◌≡◌, ◌∙◌, ap, sym, refl}
use Rattle.std.proofs.lemmas.Result.{on_ok_weaker}
use Rattle.audit_base.specs.declared.orders.Order.{Order}
use Rattle.audit_base.specs.declared.terms.Side.TheVariants.{Buy, Sell}
use Rattle.audit_base.specs.Orders.{limit_at, order_at, side_at}
use Rattle.continuous_picture.proofs.WalkLemmas.{book-below, next-ask, next-bid}
use Rattle.continuous_picture.proofs.walks.Walk.add_next.Goals as goal

pub add-requires-clause-latest : goal.add-requires-clause-latest
add-requires-clause-latest c = book-below c.args.market.now.orders.now c.args.market.now.deals.now Buy c.args.self.now.next c.args.place c.args.self.now.bids.resting c.requires.walk.bids

pub add-requires-in-Sell-clause-latest : goal.add-requires-in-Sell-clause-latest
add-requires-in-Sell-clause-latest c = book-below c.args.market.now.orders.now c.args.market.now.deals.now Sell c.args.self.now.next c.args.place c.args.self.now.asks.resting c.requires.walk.asks

pub returns-in-Buy : goal.returns-in-Buy
returns-in-Buy c =
    let m = c.args.market.now in
    let old = c.args.self.now in
    let own : c.at-own.result ≡ order_at m.orders.now old.next = c.at-own.ensures in
    let buys : side_at m.orders.now old.next ≡ Buy = sym (ap (λ (o : Order). o.side) own) ∙ sym c.side.ensures ∙ c.in-Buy.is in
    let limit : c.limit.result ≡ limit_at m.orders.now old.next = c.limit.ensures ∙ ap (λ (o : Order). o.limit) own in
    record {
      ok = on_ok_weaker c.add.result (λ e. next-bid m c.args.place old (record old { bids = c.add.new.self }) c.requires.walk refl refl
          (record { index = old.next; limit = c.limit.result; left = 1 }) refl limit buys e refl) c.add.ensures.ok;
    }

pub returns-in-Sell : goal.returns-in-Sell
returns-in-Sell c =
    let m = c.args.market.now in
    let old = c.args.self.now in
    let own : c.at-own.result ≡ order_at m.orders.now old.next = c.at-own.ensures in
    let sells : side_at m.orders.now old.next ≡ Sell = sym (ap (λ (o : Order). o.side) own) ∙ sym c.side.ensures ∙ c.in-Sell.is in
    let limit : c.limit-in-Sell.result ≡ limit_at m.orders.now old.next = c.limit-in-Sell.ensures ∙ ap (λ (o : Order). o.limit) own in
    record {
      ok = on_ok_weaker c.add-in-Sell.result (λ e. next-ask m c.args.place old (record old { asks = c.add-in-Sell.new.self }) c.requires.walk refl refl
          (record { index = old.next; limit = c.limit-in-Sell.result; left = 1 }) refl limit sells e refl) c.add-in-Sell.ensures.ok;
    }
