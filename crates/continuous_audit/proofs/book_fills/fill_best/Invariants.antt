use Rattle.std.proofs.Common.{◌≡◌, All, length}
use Rattle.audit_base.specs.Deals.{number_at}
use Rattle.continuous_audit.specs.Holding.{IsWithinBook, after_fills}
use Rattle.continuous_audit.proofs.book_fills.fill_best.Given as goal

abbrev pub invariant-loop-best : goal.invariant-loop-best
invariant-loop-best l = record {
  within : All (IsWithinBook l.left) l.book.resting;
  side : l.book.side ≡ l.initial.book.side;
  same : after_fills (number_at l.left) l.book.resting ≡ after_fills (number_at l.left) l.initial.book.resting;
}

abbrev pub decreases-loop-best : goal.decreases-loop-best
decreases-loop-best l = length l.book.resting
