-- What is known before the next order.
use Rattle.std.proofs.Common.{◌≡◌, ◌<◌, ◌≤◌, ◌-◌, ℕ, zero, suc, List, length, refl, sym, ap, ◌∙◌, arith, inl, inr, All}
use Rattle.std.specs.Prelude.{nat_lt}
use Rattle.std.proofs.lemmas.Bool.{cases_eq, cases_lt, lt-ltb, le-ltb, cond-true, cond-false}
use Rattle.audit_base.specs.declared.orders.Order.{Order}
use Rattle.audit_base.specs.declared.orders.Deal.{Deal}
use Rattle.audit_base.specs.Orders.{place_at, IsOrderList}
use Rattle.audit_base.specs.Deals.{NamesOrders}
use Rattle.audit_base.specs.Continuous.{traded_before, size_in_ledger}
use Rattle.audit_base.proofs.OrderLemmas.{place-rises}
use Rattle.continuous_audit.specs.declared.endings.OrderEnd.{OrderEnd}
use Rattle.continuous_audit.specs.declared.books.Books.{Books}
use Rattle.continuous_audit.specs.Books.{AreBooksOfAmounts, next_order_place, resting_left_without_own}
use Rattle.continuous_audit.specs.Endings.{AreEndingsDropped, AreEndingsBelow, AreEndings, amount_without}
use Rattle.continuous_audit.specs.Holding.{resting_left_before, resting_left_after_deals}
use Rattle.continuous_audit.specs.Records.{AreLeftBefore}
use Rattle.continuous_audit.proofs.BooksLemmas.{after-endings, before-next}
use Rattle.continuous_audit.proofs.RestLemmas.{traded-gap}
use Rattle.continuous_audit.proofs.RecordLemmas.{no-cause}

pub ready-here : (orders : List Order) (n : ℕ) → n < length orders → next_order_place orders n ≡ place_at orders n
ready-here orders zero lt = refl
ready-here orders (suc n) lt = cond-true (nat_lt (suc n) (length orders)) (place_at orders (suc n)) (suc (place_at orders n)) (lt-ltb _ _ lt)

pub dropped-more : (endings : List OrderEnd) (start at p q : ℕ) → AreEndingsDropped endings start p → p ≤ q → AreEndingsBelow endings start at q → AreEndingsDropped endings at q
dropped-more endings start at p q old le ended = record {
  inside = ended.inside;
  early = λ i lt below. elim (cases_lt i start) [
    | inl less ↦ let e = old.early i less below in omega arith
    | inr more ↦ ended.early i more lt
  ];
}

module _ (orders : List Order) (list : IsOrderList orders) (n : ℕ) (n_inside : n < length orders) where
  abbrev p : ℕ
  p = place_at orders n

  abbrev q : ℕ
  q = next_order_place orders (suc n)

  pub next-above : suc p ≤ q
  next-above = elim (cases_lt (suc n) (length orders)) [
    | inl lt ↦
        let is : q ≡ place_at orders (suc n) = cond-true (nat_lt (suc n) (length orders)) (place_at orders (suc n)) (suc p) (lt-ltb _ _ lt) in
        let up = place-rises orders list n (suc n) (omega arith) lt in
        omega arith
    | inr le ↦ let is : q ≡ suc p = cond-false (nat_lt (suc n) (length orders)) (place_at orders (suc n)) (suc p) (le-ltb _ _ le) in omega arith
  ]

  pub next-first : (k : ℕ) → k < length orders → n < k → q ≤ place_at orders k
  next-first k inside more =
      let is : q ≡ place_at orders (suc n) = cond-true (nat_lt (suc n) (length orders)) (place_at orders (suc n)) (suc p) (lt-ltb _ _ (omega arith)) in
      elim (cases_eq k (suc n)) [
        | inl e ↦ let same : place_at orders k ≡ place_at orders (suc n) = ap (place_at orders) e in omega arith
        | inr ne ↦ let up = place-rises orders list (suc n) k (omega (arith, ne)) inside in omega arith
      ]

module _ (orders : List Order) (list : IsOrderList orders) (deals : List Deal) (named : All (NamesOrders orders) deals) (n : ℕ) (n_inside : n < length orders) where
  abbrev after : ℕ
  after = suc (place_at orders n)

  abbrev next : ℕ
  next = next_order_place orders (suc n)

  pub left-next : (left : List ℕ) → AreLeftBefore orders deals (suc n) after left → AreLeftBefore orders deals (suc n) next left
  left-next left l = record {
    count = l.count;
    is = λ x lt. l.is x lt ∙ ap (λ (m : ℕ). size_in_ledger orders (traded_before orders deals) x - m) (sym (traded-gap orders deals after next x (next-above orders list n n_inside) (no-cause orders list deals named n n_inside next (next-above orders list n n_inside) (next-first orders list n n_inside))));
  }

  module _ (endings : List OrderEnd) (are : AreEndings orders endings) (start at upto : ℕ) (ended : AreEndingsBelow endings start at upto) where
    pub others-hold : upto ≡ after → AreEndingsDropped endings start (place_at orders n) → (b : Books) → AreBooksOfAmounts orders (amount_without endings start at (resting_left_after_deals orders deals (place_at orders n))) b → AreBooksOfAmounts orders (resting_left_without_own orders deals n) b
    others-hold e old b hold = after-endings orders list deals named n n_inside endings are start at old.early (λ i le lt. let l = ended.early i le lt in omega arith) ended.inside (λ lt. let l = ended.next lt in omega arith) b hold

    pub next-holds : upto ≡ next → AreEndingsDropped endings start after → (b : Books) → AreBooksOfAmounts orders (amount_without endings start at (resting_left_before orders (traded_before orders deals) after)) b → AreBooksOfAmounts orders (resting_left_before orders (traded_before orders deals) next) b
    next-holds e old b hold = before-next orders list deals named n n_inside next (next-above orders list n n_inside) (next-first orders list n n_inside) endings are start at old.early (λ i le lt. let l = ended.early i le lt in omega arith) ended.inside (λ lt. let l = ended.next lt in omega arith) b hold
