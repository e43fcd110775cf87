use Rattle.std.proofs.Common.{◌≤◌, ◌<◌, ◌-◌, ℕ, length}
use Rattle.continuous_audit.specs.Books.{AreBooksOfAmounts, resting_count}
use Rattle.continuous_audit.specs.Endings.{amount_without, ending_place_at}
use Rattle.continuous_audit.proofs.books.BooksSoFar.drop_ended.Given as goal

abbrev pub invariant-loop-self : goal.invariant-loop-self
invariant-loop-self l = record {
  from : l.initial.self.start ≤ l.self.start;
  inside : l.self.start ≤ length l.endings;
  before : (i : ℕ) → l.initial.self.start ≤ i → i < l.self.start → ending_place_at l.endings i < l.upto;
  holds : (amount : ℕ → ℕ) → AreBooksOfAmounts l.orders amount l.initial.self.books → AreBooksOfAmounts l.orders (amount_without l.endings l.initial.self.start l.self.start amount) l.self.books;
  fewer : resting_count l.self.books ≤ resting_count l.initial.self.books;
}

abbrev pub decreases-loop-self : goal.decreases-loop-self
decreases-loop-self l = length l.endings - l.self.start
