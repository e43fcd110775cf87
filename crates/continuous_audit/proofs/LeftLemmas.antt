-- What is left of the orders, deal by deal, and what the books owe to it.
use Rattle.std.proofs.Common.{◌≡◌, ◌<◌, ◌+◌, ◌-◌, ℕ, List, length, false, sym, ap, ◌∙◌, arith, inl, inr, subst, All, get_or}
use Rattle.std.specs.Prelude.{slice_set}
use Rattle.std.proofs.lemmas.List.{length-set, get_or-set_same, get_or-set_other}
use Rattle.std.proofs.lemmas.Bool.{cases_eq, cases_lt, or_from, ne_eqb}
use Rattle.audit_base.specs.declared.terms.Side.{Side}
use Rattle.audit_base.specs.declared.orders.Order.{Order}
use Rattle.audit_base.specs.declared.orders.Deal.{Deal}
use Rattle.audit_base.specs.Orders.{place_at, IsOrderList}
use Rattle.audit_base.specs.Deals.{names_order, deal_at, number_at}
use Rattle.audit_base.specs.Continuous.{traded_before, size_in_ledger, left_after}
use Rattle.audit_base.proofs.OrderLemmas.{place-rises}
use Rattle.audit_base.proofs.ContinuousOffenceLemmas.{traded-more}
use Rattle.order_book.specs.declared.books.Resting.{Resting}
use Rattle.continuous_audit.specs.declared.incoming_deals.IncomingDeal.{IncomingDeal}
use Rattle.continuous_audit.specs.Holding.{IsListOfAmounts, IsFilledInFront, IsRestingOn, IsWithinBook, after_fills, resting_left_before, resting_left_after_deals}
use Rattle.continuous_audit.specs.Scans.{IsLeftRefreshed, deal_index_at}
use Rattle.continuous_laws.proofs.StepLemmas.{rests-parts}
use Rattle.continuous_audit.proofs.RestLemmas.{resting_left-parts}
use Rattle.continuous_audit.proofs.HeadLemmas.{after_fills-holds}

pub refreshed-more : (deals : List Deal) (incoming_deals : List IncomingDeal) (start at : ℕ) (sizes traded old xs ys : List ℕ) (d : Deal) → d ≡ deal_at deals (deal_index_at incoming_deals at) → d.bid < length xs → d.ask < length xs
    → ys ≡ slice_set (slice_set xs d.bid (number_at sizes d.bid - number_at traded d.bid)) d.ask (number_at sizes d.ask - number_at traded d.ask)
    → IsLeftRefreshed deals incoming_deals start at sizes traded old xs → IsLeftRefreshed deals incoming_deals start (at + 1) sizes traded old ys
refreshed-more deals incoming_deals start at sizes traded old xs ys d d_is bid ask made is = subst (IsLeftRefreshed deals incoming_deals start (at + 1) sizes traded old) (sym made) (record {
  count = length-set {A = ℕ} (slice_set xs d.bid (number_at sizes d.bid - number_at traded d.bid)) d.ask (number_at sizes d.ask - number_at traded d.ask) ∙ length-set {A = ℕ} xs d.bid (number_at sizes d.bid - number_at traded d.bid) ∙ is.count;
  each = λ x. elim (cases_eq x d.ask) [
    | inl e ↦ inl (subst (λ (y : ℕ). get_or (slice_set (slice_set xs d.bid (number_at sizes d.bid - number_at traded d.bid)) d.ask (number_at sizes d.ask - number_at traded d.ask)) y 0 ≡ number_at sizes y - number_at traded y) (sym e)
        (get_or-set_same {A = ℕ} (slice_set xs d.bid (number_at sizes d.bid - number_at traded d.bid)) d.ask (number_at sizes d.ask - number_at traded d.ask) 0 (omega (arith, length-set {A = ℕ} xs d.bid (number_at sizes d.bid - number_at traded d.bid)))))
    | inr not_ask ↦
        let past_ask = get_or-set_other {A = ℕ} (slice_set xs d.bid (number_at sizes d.bid - number_at traded d.bid)) d.ask x (number_at sizes d.ask - number_at traded d.ask) 0 not_ask in
        elim (cases_eq x d.bid) [
          | inl e ↦ inl (past_ask ∙ subst (λ (y : ℕ). get_or (slice_set xs d.bid (number_at sizes d.bid - number_at traded d.bid)) y 0 ≡ number_at sizes y - number_at traded y) (sym e) (get_or-set_same {A = ℕ} xs d.bid (number_at sizes d.bid - number_at traded d.bid) 0 bid))
          | inr not_bid ↦
              let same = past_ask ∙ get_or-set_other {A = ℕ} xs d.bid x (number_at sizes d.bid - number_at traded d.bid) 0 not_bid in
              elim (is.each x) [
                | inl new ↦ inl (same ∙ new)
                | inr kept ↦ inr (
                  same ∙ kept.0,
                  λ i le lt. elim (cases_eq i at) [
                    | inl e ↦
                        let off : names_order x d ≡ false = or_from _ _ (ne_eqb d.bid x (λ f. not_bid (sym f))) (ne_eqb d.ask x (λ f. not_ask (sym f))) in
                        subst (λ j. names_order x (deal_at deals (deal_index_at incoming_deals j)) ≡ false) (sym e) (ap (names_order x) (sym d_is) ∙ off)
                    | inr ne ↦ kept.1 i le (omega (arith, ne))
                  ],
                )
              ]
        ]
  ];
})

-- What the books owe to the numbers that are left after a record.

module _ (orders : List Order) (list : IsOrderList orders) (deals : List Deal) (n : ℕ) (n_inside : n < length orders) (left : List ℕ) (count : length left ≡ length orders) (is : (x : ℕ) → x < n → number_at left x ≡ left_after orders deals (place_at orders n) x) where
  abbrev p : ℕ
  p = place_at orders n

  abbrev past : ℕ → ℕ → ℕ
  past = traded_before orders deals

  pub older : (k : ℕ) → k < length orders → 0 < resting_left_before orders past p k → (k < n) × (resting_left_before orders past p k ≡ size_in_ledger orders past k - past p k)
  older k inside some =
      let parts = resting_left-parts orders past p k some in
      let earlier = (rests-parts orders past p k parts.0).earlier in (
        elim (cases_lt k n) [
          | inl lt ↦ lt
          | inr ge ↦ elim (cases_eq k n) [
            | inl e ↦ let same : place_at orders k ≡ p = ap (place_at orders) e in absurd (omega arith)
            | inr ne ↦ let up = place-rises orders list n k (omega (arith, ne)) inside in absurd (omega arith)
          ]
        ],
        parts.1,
      )

  left-still : (k : ℕ) → k < length orders → 0 < resting_left_before orders past p k → number_at left k ≡ resting_left_after_deals orders deals p k
  left-still k inside some =
      let o = older k inside some in
      let l = is k o.0 in
      let e = o.1 in
      omega (arith, traded-more orders deals p k)

  pub within-left : (side : Side) (xs : List Resting) → IsListOfAmounts orders side (resting_left_before orders past p) xs → All (IsWithinBook left) xs
  within-left side xs holds i d lt =
      let part : IsRestingOn orders side (resting_left_before orders past p) (get_or xs i d) = holds.only i d lt in
      let r = get_or xs i d in
      let l = left-still r.index part.inside part.some in
      let e : r.left ≡ resting_left_before orders past p r.index = ap (λ (y : Resting). y.left) part.is in
      record { inside = let w = part.inside in omega arith; most = omega arith }

  -- so a book that is settled by these numbers is settled to what rests after the deals
  pub after_fills-left : (side : Side) (xs : List Resting) → IsListOfAmounts orders side (resting_left_before orders past p) xs → IsFilledInFront orders side (resting_left_before orders past p) (resting_left_after_deals orders deals p) (after_fills (number_at left) xs)
  after_fills-left side xs holds = after_fills-holds orders side (number_at left) (resting_left_before orders past p) (resting_left_after_deals orders deals p) xs (record { less = λ k. omega arith; is = left-still }) holds
