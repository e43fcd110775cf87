use Rattle.std.proofs.Common.{◌≡◌, ◌∙◌, ℕ, Bool, ap, false, slice_index_or, sym, true}
use Rattle.std.specs.Prelude.{◌&&◌, nat_lt}
use Rattle.std.proofs.lemmas.Bool.{lt-ltb, le-ltb}
use Rattle.audit_base.specs.declared.orders.Order.{Order}
use Rattle.audit_base.specs.Orders.{order_at, place_at}
use Rattle.order_arrivals.specs.Resting.{rests_with}
use Rattle.continuous_picture.specs.BooksAt.{deals_before, orders_before}
use Rattle.continuous_picture.proofs.BookAtLemmas.{rests-known}
use Rattle.continuous_picture.proofs.books_at.StateBeforeRecord.rests.Goals as goal

pub returns-then-from-self : goal.returns-then-from-self
returns-then-from-self c =
    let b = c.args.self.now in
    let orders = orders_before b in
    let x = c.args.order in
    let size = slice_index_or b.sizes.now x 0 in
    let traded = slice_index_or b.traded.now x 0 in
    let own : c.at-own.result ≡ order_at orders x = c.at-own.ensures in
    let place : c.from.result ≡ place_at orders x = c.from.ensures ∙ c.place.ensures ∙ ap (λ (o : Order). o.place) own in
    let early : nat_lt (place_at orders x) b.place ≡ true = ap (λ (n : ℕ). nat_lt n b.place) (sym place) ∙ lt-ltb _ _ c.if-from-self.true in
    c.rests.ensures ∙ ap (λ (o : Order). rests_with o b.place size traded) own
    ∙ ap (λ (t : Bool). t && rests_with (order_at orders x) b.place size traded) (sym early)
    ∙ rests-known orders (deals_before b) b.place x size traded (c.requires.before.sizes.is x c.requires.order) (c.requires.before.traded.is x c.requires.order)

pub returns-else-from-self : goal.returns-else-from-self
returns-else-from-self c =
    let b = c.args.self.now in
    let orders = orders_before b in
    let x = c.args.order in
    let size = slice_index_or b.sizes.now x 0 in
    let traded = slice_index_or b.traded.now x 0 in
    let own : c.at-own.result ≡ order_at orders x = c.at-own.ensures in
    let place : c.from.result ≡ place_at orders x = c.from.ensures ∙ c.place.ensures ∙ ap (λ (o : Order). o.place) own in
    let late : nat_lt (place_at orders x) b.place ≡ false = ap (λ (n : ℕ). nat_lt n b.place) (sym place) ∙ le-ltb _ _ c.if-from-self.false in
    le-ltb _ _ c.if-from-self.false ∙ ap (λ (t : Bool). t && rests_with (order_at orders x) b.place size traded) (sym late)
    ∙ rests-known orders (deals_before b) b.place x size traded (c.requires.before.sizes.is x c.requires.order) (c.requires.before.traded.is x c.requires.order)
