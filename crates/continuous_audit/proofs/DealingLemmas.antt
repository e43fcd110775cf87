-- The deals of a record, the book of the other side, and what both hold afterwards.
use Rattle.std.proofs.Common.{◌≡◌, ◌<◌, ◌≤◌, ℕ, List, [], ◌∷◌, length, None, Some, refl, sym, ap, ◌∙◌, arith, inl, inr, subst, All}
use Rattle.std.proofs.lemmas.Bool.{cases_Bool, cases_eq}
use Rattle.std.proofs.lemmas.List.Elements.{All-head}
use Rattle.audit_base.specs.declared.terms.Side.{Side}
use Rattle.audit_base.specs.declared.terms.Side.TheVariants.{Buy, Sell}
use Rattle.audit_base.specs.declared.orders.Order.{Order}
use Rattle.audit_base.specs.declared.orders.Deal.{Deal}
use Rattle.audit_base.specs.Least.{least_answer}
use Rattle.audit_base.specs.Orders.{order_at, place_at, side_at, other_side, IsOrderList}
use Rattle.audit_base.specs.Priority.{better}
use Rattle.audit_base.specs.Deals.{deal_at, IsDealList, number_at}
use Rattle.audit_base.specs.Continuous.{cause, resting_order, traded_before, left_after}
use Rattle.audit_base.specs.ContinuousOffences.{resting_priority_finding}
use Rattle.audit_base.proofs.LeastLemmas.{least-none, none-below, none_some}
use Rattle.order_book.specs.declared.books.Resting.{Resting}
use Rattle.order_book.specs.Books.{best_resting}
use Rattle.continuous_audit.specs.declared.books.Books.{Books}
use Rattle.continuous_audit.specs.Books.{AreBooksOfAmounts, book_list, books_with_list}
use Rattle.continuous_audit.specs.Holding.{IsFilledInFront, IsRestingOn, IsWithinBook, after_fills, resting_left_before, resting_left_after_deals}
use Rattle.continuous_audit.proofs.RecordLemmas.{priority-away, priority-none, priority-found}
use Rattle.continuous_audit.proofs.LeftLemmas.{within-left, after_fills-left, older}
use Rattle.continuous_audit.proofs.BooksLemmas.{side-holds, after-deals}

list-with : (t : Side) (xs : List Resting) (b : Books) → book_list t (books_with_list t xs b) ≡ xs
list-with Buy xs b = refl
list-with Sell xs b = refl

module _ (orders : List Order) (list : IsOrderList orders) (deals : List Deal) (deal_list : IsDealList orders deals) (n : ℕ) (n_inside : n < length orders)
    (left : List ℕ) (count : length left ≡ length orders) (is : (x : ℕ) → x < n → number_at left x ≡ left_after orders deals (place_at orders n) x)
    (b : Books) (hold : AreBooksOfAmounts orders (resting_left_before orders (traded_before orders deals) (place_at orders n)) b) where
  abbrev p : ℕ
  p = place_at orders n

  abbrev now : ℕ → ℕ
  now = resting_left_before orders (traded_before orders deals) p

  pub within-bids : All (IsWithinBook left) b.bids.resting
  within-bids = within-left orders list deals n n_inside left count is Buy b.bids.resting hold.bids

  pub within-asks : All (IsWithinBook left) b.asks.resting
  within-asks = within-left orders list deals n n_inside left count is Sell b.asks.resting hold.asks

  module _ (side : Side) (side_is : side ≡ other_side (side_at orders n)) (new : Books) (new_is : new ≡ books_with_list side (after_fills (number_at left) (book_list side b)) b) where
    abbrev ys : List Resting
    ys = book_list side new

    ys-is : ys ≡ after_fills (number_at left) (book_list side b)
    ys-is = ap (book_list side) new_is ∙ list-with side (after_fills (number_at left) (book_list side b)) b

    pub after_fills-new : IsFilledInFront orders (other_side (side_at orders n)) now (resting_left_after_deals orders deals p) ys
    after_fills-new = subst (λ (t : Side). IsFilledInFront orders t now (resting_left_after_deals orders deals p) ys) side_is
        (subst (IsFilledInFront orders side now (resting_left_after_deals orders deals p)) (sym ys-is) (after_fills-left orders list deals n n_inside left count is side (book_list side b) (side-holds orders now side b hold)))

    inside-of : (xs : List Resting) (best : Resting) → best_resting xs ≡ Some best → IsFilledInFront orders (other_side (side_at orders n)) now (resting_left_after_deals orders deals p) xs → (best.index < n) × (side_at orders best.index ≡ other_side (side_at orders n))
    inside-of [] best e s = absurd (cc)
    inside-of (h ∷ zs) best e s =
        let part : IsRestingOn orders (other_side (side_at orders n)) s.amount h = All-head (IsRestingOn orders (other_side (side_at orders n)) s.amount) h zs s.holds.only in
        let same : h ≡ best = cc in
        let some : 0 < s.amount h.index = part.some in
        let less : resting_left_after_deals orders deals p h.index ≤ now h.index = omega arith in
        let was : 0 < now h.index = elim (s.either h.index) [ inl e ↦ omega arith | inr e ↦ omega arith ] in
        subst (λ (x : Resting). (x.index < n) × (side_at orders x.index ≡ other_side (side_at orders n))) same ((older orders list deals n n_inside left count is h.index part.inside was).0, part.of_side)

    pub best-inside : (best : Resting) → best_resting ys ≡ Some best → (best.index < n) × (side_at orders best.index ≡ other_side (side_at orders n))
    best-inside best e = inside-of ys best e after_fills-new

    none-of : (xs : List Resting) → best_resting xs ≡ None → IsFilledInFront orders (other_side (side_at orders n)) now (resting_left_after_deals orders deals p) xs → least_answer (resting_priority_finding orders deals p) (length deals) ≡ None
    none-of [] e s = least-none (resting_priority_finding orders deals p) (length deals) (λ j lt. elim (cases_eq (cause orders (deal_at deals j)) p) [
      | inr away ↦ priority-away orders list deals deal_list.named n n_inside j away
      | inl here ↦ priority-none orders list deals deal_list.named n n_inside j (record { inside = lt; at = here }) s
    ])
    none-of (h ∷ zs) e s = absurd (cc)

    pub finding-none : best_resting ys ≡ None → least_answer (resting_priority_finding orders deals p) (length deals) ≡ None
    finding-none e = none-of ys e after_fills-new

    -- where no deal passes a better order over, both books hold what is left
    pub holds-none : least_answer (resting_priority_finding orders deals p) (length deals) ≡ None → AreBooksOfAmounts orders (resting_left_after_deals orders deals p) new
    holds-none none =
        let other : Books = books_with_list (other_side (side_at orders n)) ys b in
        let same : other ≡ new = (λ i. books_with_list (side_is' i) (ys-is i) b) ∙ sym new_is in
        subst (AreBooksOfAmounts orders (resting_left_after_deals orders deals p)) same (after-deals orders list deals deal_list.named n n_inside b hold ys after_fills-new (λ h zs e j of. elim (cases_Bool (better (order_at orders h.index) (order_at orders (resting_order orders (deal_at deals j))))) [
          | inr f ↦ f
          | inl t ↦
              let s : IsFilledInFront orders (other_side (side_at orders n)) now (resting_left_after_deals orders deals p) (h ∷ zs) = subst (IsFilledInFront orders (other_side (side_at orders n)) now (resting_left_after_deals orders deals p)) e after_fills-new in
              let found = priority-found orders list deals deal_list.named n n_inside j of h zs s t in
              none_some (resting_priority_finding orders deals p j) _ (none-below (resting_priority_finding orders deals p) (length deals) none j of.inside) found
        ]))
      where
        side_is' : other_side (side_at orders n) ≡ side
        side_is' = sym side_is
