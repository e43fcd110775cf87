use Rattle.std.proofs.Common.{◌≡◌}
use Rattle.continuous_picture.specs.BooksAt.{AreLines, deals_before, orders_before}
use Rattle.continuous_picture.proofs.books_at.StateBeforeRecord.book.Given as goal

abbrev pub invariant-loop-order : goal.invariant-loop-order
invariant-loop-order l = record {
  side : l.book.side ≡ l.side;
  lines : AreLines (orders_before l.self) (deals_before l.self) l.side l.self.place l.order l.book.resting;
}
