use Rattle.std.proofs.Common.{◌≡◌, ◌∙◌, ap, sym, subst, suc, ℕ, None}
use Rattle.audit_base.specs.Orders.{other_side}
use Rattle.continuous_offences.specs.Books.{AreBooksOf}
use Rattle.continuous_offences.specs.StateAfterDeals.{deals_of, orders_of, place_of}
use Rattle.continuous_offences.specs.Passing.{best_waiting, side_against}
use Rattle.continuous_offences.proofs.PassedLemmas.{none-waits}
use Rattle.continuous_offences.proofs.state.passed_over.Goals as goal

pub best-requires-clause-books : goal.best-requires-clause-books
best-requires-clause-books c =
    let d = c.args.dealt.now in
    subst (λ (p : ℕ). AreBooksOf (orders_of d) (deals_of d) d.order p (suc (place_of d)) c.args.books.now) (sym c.place-here.ensures.same) c.requires.books

pub first_passed_over-requires-clause-best : goal.first_passed_over-requires-clause-best
first_passed_over-requires-clause-best c =
    let d = c.args.dealt.now in
    let against : c.other-against.result ≡ side_against d = c.other-against.ensures ∙ ap other_side c.side.ensures in
    sym (λ i. best_waiting d (against i) (c.place-here.ensures.same i)) ∙ sym c.best.ensures.best ∙ c.in-Some.is

pub returns-in-Some-clause-books : goal.returns-in-Some-clause-books
returns-in-Some-clause-books c =
    let d = c.args.dealt.now in
    subst (λ (p : ℕ). AreBooksOf (orders_of d) (deals_of d) d.order p (suc (place_of d)) c.best.new.self) c.place-here.ensures.same c.best.ensures.books

pub returns-in-None-clause-books : goal.returns-in-None-clause-books
returns-in-None-clause-books c =
    let d = c.args.dealt.now in
    subst (λ (p : ℕ). AreBooksOf (orders_of d) (deals_of d) d.order p (suc (place_of d)) c.best.new.self) c.place-here.ensures.same c.best.ensures.books

pub returns-in-None-clause-found : goal.returns-in-None-clause-found
returns-in-None-clause-found c =
    let d = c.args.dealt.now in
    let against : c.other-against.result ≡ side_against d = c.other-against.ensures ∙ ap other_side c.side.ensures in
    let none : best_waiting d (side_against d) (place_of d) ≡ None = sym (λ i. best_waiting d (against i) (c.place-here.ensures.same i)) ∙ sym c.best.ensures.best ∙ c.in-None.is in
    record { inside = tt; same = sym (none-waits d c.requires.dealt c.args.start c.args.end c.requires.deals none) }
