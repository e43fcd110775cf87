use Rattle.std.proofs.Common.{◌≡◌, ◌<◌, All, length}
use Rattle.continuous_picture.specs.Active.{is_active_in_book, known_orders}
use Rattle.continuous_picture.specs.Walks.{from_passing}
use Rattle.continuous_picture.proofs.walks.first_active.Given as goal

abbrev pub invariant-loop-best : goal.invariant-loop-best
invariant-loop-best l = record {
  inside : All (λ r. r.index < length (known_orders l.known)) l.book.resting;
  side : l.book.side ≡ l.initial.book.side;
  same : from_passing (is_active_in_book l.known) l.book.resting ≡ from_passing (is_active_in_book l.known) l.initial.book.resting;
}

abbrev pub decreases-loop-best : goal.decreases-loop-best
decreases-loop-best l = length l.book.resting
