-- In a continuous phase that conforms, the orders of a chain trade nothing from the place of its
-- order on.
use Rattle.std.proofs.Common.{◌≡◌, ◌<◌, ◌≤◌, ℕ, zero, suc, List, [], ◌∷◌, length, get_or, Bool, true, Option, Some, None, refl, ap, sym, ◌∙◌, arith, inl, inr, subst, All, sum_by, cond}
use Rattle.std.specs.Prelude.{nat_lt, ◌&&◌, ◌==◌, max}
use Rattle.std.proofs.lemmas.Bool.{cases_lt, cases_Bool, cond-true, cond-false, lt-ltb, le-ltb, leb-true, or_cases, eqb-true, and_from}
use Rattle.std.proofs.lemmas.List.Elements.{All-weaker}
use Rattle.audit_base.specs.declared.orders.Order.{Order}
use Rattle.audit_base.specs.declared.orders.Deal.{Deal}
use Rattle.audit_base.specs.Orders.{order_at, place_at, side_at, IsOrderList}
use Rattle.audit_base.specs.Histories.{Regular}
use Rattle.audit_base.specs.Deals.{names_order, quantity_traded_by, traded}
use Rattle.audit_base.specs.Continuous.{cause, resting_order, chain, traded_before, uncancelled_before, rests_before_in_ledger, chain_traded_in_ledger}
use Rattle.audit_base.specs.ContinuousRules.{ConformsContinuous}
use Rattle.audit_base.proofs.OrderLemmas.{place-rises, same_place, not_both_sides}
use Rattle.audit_base.proofs.ContinuousLemmas.{target-below, chain-none, chain-some, before-is}
use Rattle.audit_base.proofs.SumLemmas.{sum_by-same}
use Rattle.continuous_laws.proofs.StepLemmas.{rests-parts}

-- an order that ended by the place of a later one of its side
pub record IsEnded (orders : List Order) (i u : ℕ) : Type 0 where
  pub inside : u < length orders
  pub side : side_at orders u ≡ side_at orders i
  pub earlier : place_at orders u < place_at orders i
  pub end : ℕ
  pub cancelled : (order_at orders u).cancelled ≡ Some end
  pub by : end ≤ place_at orders i

all-none : {X : Type 0} (P : X → Type 0) → All P []
all-none P i d lt = absurd (omega arith)

all-more : {X : Type 0} (P : X → Type 0) (x : X) (xs : List X) → P x → All P xs → All P (x ∷ xs)
all-more P x xs h t zero d lt = h
all-more P x xs h t (suc i) d lt = t i d (omega arith)

module _ (orders : List Order) (list : IsOrderList orders) (regular : Regular orders) where
  pub target-ended : (i t : ℕ) → i < length orders → (order_at orders i).target ≡ Some t → IsEnded orders i t
  target-ended i t lt e =
      let is = list.targets i t lt e in
      let less = is.0 in
      let r = regular.targets i t lt e in
      record { inside = omega arith; side = is.1; earlier = place-rises orders list t i less lt; end = r.0; cancelled = r.1; by = r.2 }

  through : (i t : ℕ) → IsEnded orders i t → (u : ℕ) → IsEnded orders t u → IsEnded orders i u
  through i t a u b =
      let x = a.earlier in
      let y = b.earlier in
      let z = b.by in
      record { inside = b.inside; side = b.side ∙ a.side; earlier = omega arith; end = b.end; cancelled = b.cancelled; by = omega arith }

  by-steps : (n i : ℕ) (target : Option ℕ) → i < n → i < length orders → (order_at orders i).target ≡ target → All (IsEnded orders i) (chain orders i)
  by-steps zero i target in_n lt e = absurd (omega arith)
  by-steps (suc n) i None in_n lt e = subst (All (IsEnded orders i)) (sym (chain-none orders list i e)) (all-none (IsEnded orders i))
  by-steps (suc n) i (Some t) in_n lt e =
      let less = target-below orders list i lt t e in
      let here = target-ended i t lt e in
      let rest = by-steps n t (order_at orders t).target (omega arith) (omega arith) refl in
      subst (All (IsEnded orders i)) (sym (chain-some orders list i t lt e))
      (all-more (IsEnded orders i) t (chain orders t) here (All-weaker (IsEnded orders t) (IsEnded orders i) (through i t here) (chain orders t) rest))

  pub chain-ended : (i : ℕ) → i < length orders → All (IsEnded orders i) (chain orders i)
  chain-ended i lt = by-steps (suc i) i (order_at orders i).target (omega arith) lt refl

  module _ (deals : List Deal) (conforms : ConformsContinuous orders deals) where
    uncancelled-le : (o : Option ℕ) (e p : ℕ) → o ≡ Some e → uncancelled_before o p ≡ true → p ≤ e
    uncancelled-le o e p is t = leb-true p e (sym (ap (λ (c : Option ℕ). uncancelled_before c p) is) ∙ t)

    -- of two orders of a deal, the one that ended by the place of a later order traded before
    -- that place
    ended-before : (i u w : ℕ) → i < length orders → w < length orders → (side_at orders u ≡ side_at orders w → ⊥) → IsEnded orders i u
        → (place_at orders u < place_at orders w → rests_before_in_ledger orders (traded_before orders deals) (place_at orders w) u ≡ true)
        → max (place_at orders u) (place_at orders w) < place_at orders i
    ended-before i u w hi hw apart ended rest = elim (cases_lt (place_at orders u) (place_at orders w)) [
      | inr later ↦ let e = ended.earlier in omega arith
      | inl earlier ↦
          let at = rests-parts orders (traded_before orders deals) (place_at orders w) u (rest earlier) in
          let le = uncancelled-le (order_at orders u).cancelled ended.end (place_at orders w) ended.cancelled at.stands_yet in
          let by = ended.by in
          elim (cases_lt (place_at orders w) (place_at orders i)) [
            | inl less ↦ omega arith
            | inr more ↦
                let same : w ≡ i = same_place orders list w i hw hi (omega arith) in
                absurd (apart (ended.side ∙ ap (side_at orders) (sym same)))
          ]
    ]

    -- a deal that names an order of the chain of the order at i has a cause before the place of
    -- that order
    deal-before : (i u : ℕ) → i < length orders → IsEnded orders i u → (n : ℕ) (x : Deal) → n < length deals → names_order u (get_or deals n x) ≡ true → cause orders (get_or deals n x) < place_at orders i
    deal-before i u hi ended n x lt named =
        let d = get_or deals n x in
        let is = conforms.named n x lt in
        let rested = (conforms.each (cause orders d)).conservation.resting n x lt refl in
        elim (or_cases (d.bid == u) (d.ask == u) named) [
          | inl b ↦
              let e : d.bid ≡ u = eqb-true _ _ b in
              let ended_bid : IsEnded orders i d.bid = subst (IsEnded orders i) (sym e) ended in
              ended-before i d.bid d.ask hi is.ask_inside (λ same. not_both_sides (sym is.buys ∙ same ∙ is.sells)) ended_bid (λ less.
              let r : resting_order orders d ≡ d.bid = cond-true (nat_lt (place_at orders d.bid) (place_at orders d.ask)) d.bid d.ask (lt-ltb _ _ less) in
              let c : cause orders d ≡ place_at orders d.ask = omega arith in
              subst (λ (p : ℕ). rests_before_in_ledger orders (traded_before orders deals) p d.bid ≡ true) c (subst (λ (k : ℕ). rests_before_in_ledger orders (traded_before orders deals) (cause orders d) k ≡ true) r rested))
          | inr a ↦
              let e : d.ask ≡ u = eqb-true _ _ a in
              let ended_ask : IsEnded orders i d.ask = subst (IsEnded orders i) (sym e) ended in
              let chain_traded_in_ledger : max (place_at orders d.ask) (place_at orders d.bid) < place_at orders i =
              ended-before i d.ask d.bid hi is.bid_inside (λ same. not_both_sides (sym is.buys ∙ sym same ∙ is.sells)) ended_ask (λ less.
              let r : resting_order orders d ≡ d.ask = cond-false (nat_lt (place_at orders d.bid) (place_at orders d.ask)) d.bid d.ask (le-ltb _ _ (omega arith)) in
              let c : cause orders d ≡ place_at orders d.bid = omega arith in
              subst (λ (p : ℕ). rests_before_in_ledger orders (traded_before orders deals) p d.ask ≡ true) c (subst (λ (k : ℕ). rests_before_in_ledger orders (traded_before orders deals) (cause orders d) k ≡ true) r rested)) in
              omega arith
        ]

    -- where each deal that names an order has a cause below p, the order trades all of what it
    -- trades before p
    pub traded-all : (p u : ℕ) → ((n : ℕ) (x : Deal) → n < length deals → names_order u (get_or deals n x) ≡ true → cause orders (get_or deals n x) < p) → traded_before orders deals p u ≡ traded deals u
    unfolding traded_before
    traded-all p u h = sum_by-same (λ d. cond (names_order u d && nat_lt (cause orders d) p) d.quantity 0) (quantity_traded_by u) deals (λ n x lt. elim (cases_Bool (names_order u (get_or deals n x))) [
      | inl t ↦ ap (λ (b : Bool). cond b (get_or deals n x).quantity 0) (and_from _ _ t (lt-ltb _ _ (h n x lt t)) ∙ sym t)
      | inr f ↦ rw f refl
    ])

    pub chain-traded : (i u : ℕ) → i < length orders → IsEnded orders i u → traded_before orders deals (place_at orders i) u ≡ traded deals u
    chain-traded i u hi ended = traded-all (place_at orders i) u (λ n x lt named. deal-before i u hi ended n x lt named)

    -- so Before is what the chain trades in the whole phase
    pub before-whole : (i : ℕ) → i < length orders → chain_traded_in_ledger orders (traded_before orders deals) i ≡ sum_by (traded deals) (chain orders i)
    before-whole i hi = before-is orders list (traded_before orders deals) i
        ∙ sum_by-same (traded_before orders deals (place_at orders i)) (traded deals) (chain orders i) (All-weaker (IsEnded orders i) (λ u. traded_before orders deals (place_at orders i) u ≡ traded deals u) (λ u ended. chain-traded i u hi ended) (chain orders i) (chain-ended i hi))
