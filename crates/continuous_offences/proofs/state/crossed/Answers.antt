use Rattle.std.proofs.Common.{◌≡◌, ◌+◌, ◌∙◌, ap, add-one, sym, subst, suc, ℕ, Option, true, false}
use Rattle.audit_base.specs.Continuous.{size_of_order, traded_before}
use Rattle.audit_base.specs.Orders.{order_at, other_side}
use Rattle.offence_list.specs.declared.offences.ListedOffence.{ListedOffence}
use Rattle.offence_list.specs.ContinuousLists.{crossing_finding}
use Rattle.continuous_offences.specs.Books.{AreBooksOf}
use Rattle.continuous_offences.specs.DealFacts.{IsOffenceOf}
use Rattle.continuous_offences.specs.StateAfterDeals.{deals_of, orders_of, place_of}
use Rattle.continuous_offences.specs.Passing.{best_waiting, own_side, side_against}
use Rattle.order_arrivals.specs.Resting.{has_left_with}
use Rattle.continuous_offences.proofs.CrossingLemmas.{none-stands, stands}
use Rattle.continuous_offences.proofs.StateLemmas.{crossing-is, waiting-on-side}
use Rattle.continuous_offences.proofs.state.crossed.Goals as goal

pub best-other-requires-clause-books : goal.best-other-requires-clause-books
best-other-requires-clause-books c =
    let d = c.args.dealt.now in
    let next : c.place-next.result + 1 ≡ suc (place_of d) = add-one _ ∙ ap suc c.place-next.ensures.same in
    subst (λ (p : ℕ). AreBooksOf (orders_of d) (deals_of d) d.order p (suc (place_of d)) c.args.books.now) (sym next) c.requires.books

pub crossing_offence-requires-clause-own : goal.crossing_offence-requires-clause-own
crossing_offence-requires-clause-own c =
    let d = c.args.dealt.now in
    let next : c.place-next.result + 1 ≡ suc (place_of d) = add-one _ ∙ ap suc c.place-next.ensures.same in
    waiting-on-side d c.requires.dealt (own_side d) (suc (place_of d)) c.best-same.result (c.best-same.ensures.best ∙ (λ i. best_waiting d (c.side-own.ensures i) (next i)))

pub crossing_offence-requires-clause-other : goal.crossing_offence-requires-clause-other
crossing_offence-requires-clause-other c =
    let d = c.args.dealt.now in
    let next : c.place-next.result + 1 ≡ suc (place_of d) = add-one _ ∙ ap suc c.place-next.ensures.same in
    let against : c.other.result ≡ side_against d = c.other.ensures ∙ ap other_side c.side-own.ensures in
    waiting-on-side d c.requires.dealt (side_against d) (suc (place_of d)) c.best-other.result (c.best-other.ensures.best ∙ (λ i. best_waiting d (against i) (next i)))

pub returns-then-has_left_before-clause-found : goal.returns-then-has_left_before-clause-found
returns-then-has_left_before-clause-found c =
    let d = c.args.dealt.now in
    let orders = orders_of d in
    let deals = deals_of d in
    let next : c.place-next.result + 1 ≡ suc (place_of d) = add-one _ ∙ ap suc c.place-next.ensures.same in
    let against : c.other.result ≡ side_against d = c.other.ensures ∙ ap other_side c.side-own.ensures in
    let on : stands orders c.requires.dealt.market.order_list deals d.order c.requires.dealt.order ≡ true =
    ap (λ (p : ℕ). has_left_with (order_at orders d.order) p (size_of_order orders deals d.order) (traded_before orders deals (suc (place_of d)) d.order)) (sym next) ∙ sym c.has_left_before.ensures ∙ c.if-has_left_before.true in
    subst (λ (o : Option ListedOffence). IsOffenceOf orders o (crossing_finding orders deals (place_of d))) (sym c.crossing_offence.ensures)
    (crossing-is d c.requires.dealt on c.best-same.result c.best-other.result (c.best-same.ensures.best ∙ (λ i. best_waiting d (c.side-own.ensures i) (next i))) (c.best-other.ensures.best ∙ (λ i. best_waiting d (against i) (next i))))

pub returns-then-has_left_before-clause-books : goal.returns-then-has_left_before-clause-books
returns-then-has_left_before-clause-books c =
    let d = c.args.dealt.now in
    let next : c.place-next.result + 1 ≡ suc (place_of d) = add-one _ ∙ ap suc c.place-next.ensures.same in
    subst (λ (p : ℕ). AreBooksOf (orders_of d) (deals_of d) d.order p (suc (place_of d)) c.best-same.new.self) next c.best-same.ensures.books

pub returns-else-has_left_before-clause-found : goal.returns-else-has_left_before-clause-found
returns-else-has_left_before-clause-found c =
    let d = c.args.dealt.now in
    let orders = orders_of d in
    let deals = deals_of d in
    let next : c.place-next.result + 1 ≡ suc (place_of d) = add-one _ ∙ ap suc c.place-next.ensures.same in
    let off : stands orders c.requires.dealt.market.order_list deals d.order c.requires.dealt.order ≡ false =
    ap (λ (p : ℕ). has_left_with (order_at orders d.order) p (size_of_order orders deals d.order) (traded_before orders deals (suc (place_of d)) d.order)) (sym next) ∙ sym c.has_left_before.ensures ∙ c.if-has_left_before.false in
    record { inside = tt; same = sym (none-stands orders c.requires.dealt.market.order_list deals d.order c.requires.dealt.order off) }
