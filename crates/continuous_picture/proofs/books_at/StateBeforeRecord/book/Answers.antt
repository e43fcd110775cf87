use Rattle.std.proofs.Common.{◌≡◌, ℕ, ap, subst, sym, add-one, arith, length}
use Rattle.order_book.specs.Books.{BookSide}
use Rattle.continuous_picture.specs.BooksAt.{AreLines, deals_before, orders_before}
use Rattle.continuous_picture.proofs.BookAtLemmas.{lines-none}
use Rattle.continuous_picture.proofs.books_at.StateBeforeRecord.book.Goals as goal

pub loop-order-init : goal.loop-order-init
loop-order-init c =
    let b = c.args.self.now in
    record {
      side = ap (λ (s : BookSide). s.side) c.new-book.ensures;
      lines = lines-none (orders_before b) (deals_before b) c.args.side b.place _ (ap (λ (s : BookSide). s.resting) c.new-book.ensures);
    }

pub loop-order-preserved : goal.loop-order-preserved
loop-order-preserved c =
    let b = c.args.self.now in
    record {
      side = c.in_ok-add.ensures.side;
      lines = subst (λ (n : ℕ). AreLines (orders_before b) (deals_before b) c.args.side b.place n c.add.new.book.resting) (sym (add-one c.loop-order.order)) c.in_ok-add.ensures.lines;
    }

pub returns-clause-lines : goal.returns-clause-lines
returns-clause-lines c =
    let b = c.args.self.now in
    let last = c.loop-order-test.false in
    let upto = c.loop-order.auto.order-end in
    let long = c.len-order-end.ensures in
    let all : c.loop-order.order ≡ length (orders_before b) = omega arith in
    subst (λ (n : ℕ). AreLines (orders_before b) (deals_before b) c.args.side b.place n c.loop-order.book.resting) all c.loop-order.invariant.lines
