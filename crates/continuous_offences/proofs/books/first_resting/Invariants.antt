use Rattle.std.proofs.Common.{◌≡◌, ◌<◌, All, length}
use Rattle.continuous_offences.specs.Books.{from_first, waits_in_book}
use Rattle.continuous_offences.specs.StateAfterDeals.{orders_of}
use Rattle.continuous_offences.proofs.books.first_resting.Given as goal

abbrev pub invariant-loop-best : goal.invariant-loop-best
invariant-loop-best l = record {
  inside : All (λ r. r.index < length (orders_of l.dealt)) l.book.resting;
  side : l.book.side ≡ l.initial.book.side;
  same : from_first (waits_in_book l.dealt l.place) l.book.resting ≡ from_first (waits_in_book l.dealt l.place) l.initial.book.resting;
}

abbrev pub decreases-loop-best : goal.decreases-loop-best
decreases-loop-best l = length l.book.resting
