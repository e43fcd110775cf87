use Rattle.std.proofs.Common.{◌≡◌, ◌≤◌, ◌++◌, ◌-◌, length}
use Rattle.continuous_picture.proofs.books_at.first_lines.Given as goal

abbrev pub invariant-loop-book : goal.invariant-loop-book
invariant-loop-book l = record {
  front : l.lines.items ++ l.book.resting ≡ l.initial.book.resting;
  few : length l.lines.items ≤ 10;
}

abbrev pub decreases-loop-book : goal.decreases-loop-book
decreases-loop-book l = 10 - length l.lines.items
