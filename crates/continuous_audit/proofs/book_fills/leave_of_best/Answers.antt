use Rattle.std.proofs.Common.{ap, List}
use Rattle.order_book.specs.declared.books.Resting.{Resting}
use Rattle.continuous_audit.proofs.FillLemmas.{same-lessened}
use Rattle.continuous_audit.proofs.book_fills.leave_of_best.Goals as goal

pub returns-else-now-left : goal.returns-else-now-left
returns-else-now-left c = ap (λ (xs : List Resting). record c.args.book.now { resting = xs }) (same-lessened c.args.book.now.resting c.args.left c.args.now c.requires.best c.requires.some c.requires.within c.if-now-left.false)
