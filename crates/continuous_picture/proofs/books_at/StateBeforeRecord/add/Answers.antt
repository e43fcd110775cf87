use Rattle.std.proofs.Common.{◌≡◌, ◌<◌, ◌∙◌, ℕ, ap, refl, subst, sym}
use Rattle.std.proofs.lemmas.Bool.{and_parts}
use Rattle.std.proofs.lemmas.Result.{on_ok_weaker}
use Rattle.audit_base.specs.declared.orders.Order.{Order}
use Rattle.audit_base.specs.declared.terms.Side.{Side}
use Rattle.audit_base.specs.Continuous.{rests_before}
use Rattle.audit_base.specs.Orders.{limit_at, same_side, side_at}
use Rattle.order_book.specs.Books.{BookSide, with_order}
use Rattle.order_book.specs.declared.books.Resting.{Resting}
use Rattle.continuous_picture.specs.BooksAt.{deals_before, orders_before}
use Rattle.continuous_picture.proofs.BookAtLemmas.{left-some, lines-added}
use Rattle.continuous_picture.proofs.books_at.StateBeforeRecord.add.Goals as goal

pub add-requires-clause-some : goal.add-requires-clause-some
add-requires-clause-some c =
    let b = c.args.self.now in
    let on = and_parts (same_side c.args.side (side_at (orders_before b) c.args.order)) (rests_before (orders_before b) (deals_before b) b.place c.args.order) (sym c.rests_on.ensures ∙ c.if-rests_on.true) in
    subst (λ (n : ℕ). 0 < n) (sym c.left.ensures) (left-some (orders_before b) (deals_before b) b.place c.args.order on.1)

pub add-requires-clause-latest : goal.add-requires-clause-latest
add-requires-clause-latest c = c.requires.lines.early

pub returns-then-rests_on-clause-lines : goal.returns-then-rests_on-clause-lines
returns-then-rests_on-clause-lines c =
    let b = c.args.self.now in
    let orders = orders_before b in
    let n = c.args.order in
    let r : Resting = record { index = n; limit = c.limit.result; left = c.left.result } in
    let limit : c.limit.result ≡ limit_at orders n = c.limit.ensures ∙ ap (λ (o : Order). o.limit) c.at.ensures in
    let on = sym c.rests_on.ensures ∙ c.if-rests_on.true in
    on_ok_weaker c.add.result (λ e. lines-added orders (deals_before b) c.args.side b.place n c.args.book.now.resting c.add.new.self.resting r c.requires.order refl limit c.left.ensures on
    (ap (λ (s : BookSide). s.resting) e ∙ ap (λ (s : Side). with_order s r c.args.book.now.resting) c.requires.side) c.requires.lines) c.add.ensures.ok
