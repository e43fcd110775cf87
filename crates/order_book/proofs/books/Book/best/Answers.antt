use Rattle.std.proofs.Common.{ap, ◌∙◌, sym, subst, AllPairs, All}
use Rattle.order_book.specs.Books.{BookSide, best_resting, IsAheadInBook, IsRestingOrder}
use Rattle.order_book.proofs.EntryLemmas.{first-value, are-ranked, are-held}
use Rattle.order_book.proofs.books.Book.best.Goals as goal

pub returns-in-Some-clause-best : goal.returns-in-Some-clause-best
returns-in-Some-clause-best c = sym (ap (λ (b : BookSide). best_resting b.resting) (sym c.self.view_is) ∙ first-value c.self.inside.side c.self.inside.orders.entries _ _ c.in-Some.ensures.first)

pub returns-in-Some-clause-ranked : goal.returns-in-Some-clause-ranked
returns-in-Some-clause-ranked c = subst (λ (b : BookSide). AllPairs (IsAheadInBook b.side) b.resting) c.self.view_is (are-ranked c.self.inside.side c.self.inside.orders.entries c.self.invariant)

pub returns-in-Some-clause-held : goal.returns-in-Some-clause-held
returns-in-Some-clause-held c = subst (λ (b : BookSide). All IsRestingOrder b.resting) c.self.view_is (are-held c.self.inside.side c.self.inside.orders.entries c.self.invariant)
