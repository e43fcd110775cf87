use Rattle.std.proofs.Common.{◌≡◌, ◌∙◌, ap, sym, refl, suc}
use Rattle.std.proofs.lemmas.Result.{on_ok_weaker}
use Rattle.audit_base.specs.declared.orders.Order.{Order}
use Rattle.audit_base.specs.declared.terms.Side.TheVariants.{Buy, Sell}
use Rattle.audit_base.specs.Orders.{limit_at, order_at, side_at}
use Rattle.continuous_offences.specs.StateAfterDeals.{deals_of, orders_of, place_of}
use Rattle.continuous_offences.proofs.BookLemmas.{book-below}
use Rattle.continuous_offences.proofs.EnterLemmas.{books-ask, books-bid}
use Rattle.continuous_offences.proofs.books.RestingBooks.enter.Goals as goal

pub add-requires-clause-latest : goal.add-requires-clause-latest
add-requires-clause-latest c =
    let d = c.args.dealt.now in
    book-below (orders_of d) (deals_of d) Buy d.order _ _ c.args.self.now.bids.resting c.requires.books.bids

pub add-requires-in-Sell-clause-latest : goal.add-requires-in-Sell-clause-latest
add-requires-in-Sell-clause-latest c =
    let d = c.args.dealt.now in
    book-below (orders_of d) (deals_of d) Sell d.order _ _ c.args.self.now.asks.resting c.requires.books.asks

pub returns-in-Buy : goal.returns-in-Buy
returns-in-Buy c =
    let d = c.args.dealt.now in
    let next = suc (place_of d) in
    let own : c.at-own.result ≡ order_at (orders_of d) d.order = c.at-own.ensures in
    let buys : side_at (orders_of d) d.order ≡ Buy = sym (ap (λ (o : Order). o.side) own) ∙ sym c.side.ensures ∙ c.in-Buy.is in
    let limit : c.limit.result ≡ limit_at (orders_of d) d.order = c.limit.ensures ∙ ap (λ (o : Order). o.limit) own in
    on_ok_weaker c.add.result (λ e. books-bid (orders_of d) (deals_of d) d.order next next c.args.self.now (record c.args.self.now { bids = c.add.new.self })
    (record { index = d.order; limit = c.limit.result; left = c.args.left }) refl limit buys e refl c.requires.books) c.add.ensures.ok

pub returns-in-Sell : goal.returns-in-Sell
returns-in-Sell c =
    let d = c.args.dealt.now in
    let next = suc (place_of d) in
    let own : c.at-own.result ≡ order_at (orders_of d) d.order = c.at-own.ensures in
    let sells : side_at (orders_of d) d.order ≡ Sell = sym (ap (λ (o : Order). o.side) own) ∙ sym c.side.ensures ∙ c.in-Sell.is in
    let limit : c.limit-in-Sell.result ≡ limit_at (orders_of d) d.order = c.limit-in-Sell.ensures ∙ ap (λ (o : Order). o.limit) own in
    on_ok_weaker c.add-in-Sell.result (λ e. books-ask (orders_of d) (deals_of d) d.order next next c.args.self.now (record c.args.self.now { asks = c.add-in-Sell.new.self })
    (record { index = d.order; limit = c.limit-in-Sell.result; left = c.args.left }) refl limit sells e refl c.requires.books) c.add-in-Sell.ensures.ok
