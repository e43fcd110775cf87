use Rattle.std.proofs.Common.{◌<◌, ap, ◌∙◌, sym, subst, List, All}
use Rattle.order_book.specs.declared.books.Resting.{Resting}
use Rattle.order_book.specs.Books.{BookSide, with_order}
use Rattle.order_book.specs.Entries.{AreBookEntries}
use Rattle.order_book.proofs.EntryLemmas.{inserted}
use Rattle.order_book.proofs.books.Book.add.Goals as goal
use Rattle.order_book.proofs.books.Book.add.Goals.{in-Ok, in-Err}

pub invariant_of-self : goal.invariant_of-self
invariant_of-self c = elim c.match-insert.branch [
  | in-Ok w ↦
      (inserted c.self.inside.side (record { index = c.args.index; limit = c.args.limit; left = c.args.left }) c.of-rank.result c.self.inside.orders.entries c.insert.new.self.entries
      c.of-rank.ensures.same c.requires.some c.of-rank.ensures.priced c.self.invariant (subst (λ (b : BookSide). All (λ r. r.index < c.args.index) b.resting) (sym c.self.view_is) c.requires.latest) w.in-Ok.ensures.entries c.insert.ensures.ordered).0
  | in-Err w ↦ subst (AreBookEntries c.self.inside.side) (sym w.in-Err.ensures.err) c.self.invariant
]

pub returns-clause-ok : goal.returns-clause-ok
returns-clause-ok c = elim c.match-insert.branch [
  | in-Ok w ↦
      let r : Resting = record { index = c.args.index; limit = c.args.limit; left = c.args.left } in
      let made = inserted c.self.inside.side r c.of-rank.result c.self.inside.orders.entries c.insert.new.self.entries
      c.of-rank.ensures.same c.requires.some c.of-rank.ensures.priced c.self.invariant (subst (λ (b : BookSide). All (λ r. r.index < c.args.index) b.resting) (sym c.self.view_is) c.requires.latest) w.in-Ok.ensures.entries c.insert.ensures.ordered in
      let new : List Resting → BookSide = λ xs. record { side = c.self.inside.side; resting = xs } in
      rw w.result-is (ap new made.1 ∙ ap (λ (b : BookSide). record b { resting = with_order b.side r b.resting }) c.self.view_is)
  | in-Err w ↦ rw w.result-is tt
]
