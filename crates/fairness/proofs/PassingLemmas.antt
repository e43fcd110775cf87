-- A short order passes over another exactly where the best short order of the side does.
use Rattle.std.proofs.Common.{◌≡◌, ◌<◌, ◌≤◌, ℕ, List, length, Bool, true, false, Option, None, Some, refl, sym, ap, ◌∙◌, arith, inl, inr, subst, get_or}
use Rattle.std.specs.Prelude.{◌&&◌, nat_lt, IfSome, option_map, slice_index}
use Rattle.std.specs.Option.{option_or}
use Rattle.std.proofs.lemmas.Bool.{cases_Bool, cases_eq, and_parts, and_from, ltb-true, both_ways, false_from_ne_true}
use Rattle.std.proofs.lemmas.List.Sums.{sum_by_more_le}
use Rattle.audit_base.specs.declared.terms.Side.{Side}
use Rattle.audit_base.specs.declared.terms.Side.TheVariants.{Buy, Sell}
use Rattle.audit_base.specs.declared.orders.Order.{Order}
use Rattle.audit_base.specs.declared.orders.Deal.{Deal}
use Rattle.audit_base.specs.declared.findings.Finding.{Finding}
use Rattle.audit_base.specs.Least.{only_if}
use Rattle.audit_base.specs.Orders.{order_at, quantity_at, is_uncancelled_on, IsUncancelledOn, IsOrderList}
use Rattle.audit_base.specs.Priority.{better, Better}
use Rattle.audit_base.specs.Deals.{deal_at, deal_past_end, quantity_traded_by, traded, DealsInRange, AreTotals}
use Rattle.audit_base.specs.Calls.{Matching, Fair}
use Rattle.audit_base.specs.CallOffences.{is_short, best_short, is_outranked_by_short, bid_priority_finding, ask_priority_finding}
use Rattle.audit_base.specs.Shows.{finding_at_trade, show_order, show_if_found, priority_property}
use Rattle.audit_base.specs.Flaws.{finding_of}
use Rattle.audit_base.specs.declared.flaws.Flaw.{Flaw}
use Rattle.audit_base.specs.declared.flaws.Evidence.TheVariants.{Priority}
use Rattle.audit_base.proofs.LeastLemmas.{any-at, any-none, option_or-cases}
use Rattle.audit_base.proofs.OrderLemmas.{test-stands}
use Rattle.audit_base.proofs.OffenceLemmas.{get_or-default}
use Rattle.audit_base.proofs.DealLemmas.{part-bid, part-ask}
use Rattle.audit_base.proofs.PriorityLemmas.{IsBest, best-is, best-exists, Better-total, Better-onward}
use Rattle.fairness.specs.Passing.{order_of_deal, traded_order, outranked_flaw, unfair_flaw}

some-none : {X : Type 0} (o : Option X) (x : X) → o ≡ None → o ≡ Some x → ⊥
some-none None x e f = cc
some-none (Some y) x e f = cc

only-true : {X : Type 0} (b : Bool) (x y : X) → only_if b x ≡ Some y → b ≡ true
only-true true x y e = refl
only-true false x y e = cc

map-only : {A B : Type 0} (f : A → B) (b : Bool) (x : A) → option_map f (only_if b x) ≡ only_if b (f x)
map-only f true x = refl
map-only f false x = refl

map-or : {A B : Type 0} (f : A → B) (a b : Option A) → option_map f (option_or a b) ≡ option_or (option_map f a) (option_map f b)
map-or f None b = refl
map-or f (Some x) b = refl

-- the findings 12 and 13 at the deal at k
abbrev pub unfair : List Order → List Deal → ℕ → Option Finding
unfair orders deals k = option_or (bid_priority_finding orders deals k) (ask_priority_finding orders deals k)

-- the two orders of a deal trade at least its quantity
traded-least : (deals : List Deal) (side : Side) (k : ℕ) → k < length deals → (deal_at deals k).quantity ≤ traded deals (order_of_deal side (deal_at deals k))
traded-least deals Buy k lt = let d = deal_at deals k in omega (arith, part-bid d, sum_by_more_le (quantity_traded_by d.bid) deals k deal_past_end lt)
traded-least deals Sell k lt = let d = deal_at deals k in omega (arith, part-ask d, sum_by_more_le (quantity_traded_by d.ask) deals k deal_past_end lt)

module _ (orders : List Order) (deals : List Deal) (side : Side) where
  -- the best short order is short, and no short order is better
  short-best : (i : ℕ) → best_short orders deals side ≡ Some i → IsBest orders (is_short orders deals side) i
  unfolding best_short
  short-best i e = best-is orders (is_short orders deals side) i e

  short-stands : (i : ℕ) → i < length orders → is_short orders deals side i ≡ true → IsUncancelledOn orders side i
  short-stands i lt short = test-stands orders side i lt ((and_parts (is_uncancelled_on side (order_at orders i)) (nat_lt (traded deals i) (quantity_at orders i)) short).0)

  pub best-stands : (o : Option ℕ) → o ≡ best_short orders deals side → IfSome o (λ i. IsUncancelledOn orders side i)
  best-stands None e = tt
  best-stands (Some i) e = let b = short-best i (sym e) in short-stands i b.inside b.passes

  -- where no order is short, none is passed over
  none-passed : best_short orders deals side ≡ None → (i : ℕ) → is_outranked_by_short orders deals side i ≡ false
  unfolding best_short is_outranked_by_short
  none-passed none i = any-none (λ j. is_short orders deals side j && better (order_at orders j) (order_at orders i)) (length orders) (λ j lt. false_from_ne_true _ (λ over.
      let found = best-exists orders (is_short orders deals side) j lt ((and_parts (is_short orders deals side j) _ over).0) in
      some-none _ found.0 none found.1))

  -- else an order is passed over exactly where the best short order is better: Better is a strict
  -- total order on the side
  best-passes : IsOrderList orders → (b : ℕ) → best_short orders deals side ≡ Some b → (i : ℕ) → is_outranked_by_short orders deals side i ≡ better (order_at orders b) (order_at orders i)
  unfolding is_outranked_by_short
  best-passes list b e i = elim (cases_Bool (better (order_at orders b) (order_at orders i))) [
    | inl over ↦ any-at passes (length orders) b is.inside (and_from _ _ is.passes over) ∙ sym over
    | inr under ↦ any-none passes (length orders) (λ j lt. false_from_ne_true _ (λ t. below under j lt (and_parts (is_short orders deals side j) _ t))) ∙ sym under
  ]
    where
      is : IsBest orders (is_short orders deals side) b
      is = short-best b e

      passes : ℕ → Bool
      passes j = is_short orders deals side j && better (order_at orders j) (order_at orders i)

      below : better (order_at orders b) (order_at orders i) ≡ false → (j : ℕ) → j < length orders → (is_short orders deals side j ≡ true) × Better orders j i → ⊥
      below under j lt t = elim (cases_eq j b) [
        | inl same ↦ both_ways _ under (subst (λ k. Better orders k i) same t.1)
        | inr ne ↦ elim (Better-total orders list j b lt is.inside ((short-stands j lt t.0).of_side ∙ sym (short-stands b is.inside is.passes).of_side) ne) [
          | inl over ↦ is.none_better j lt t.0 over
          | inr worse ↦ both_ways _ under (Better-onward orders b j i worse t.1)
        ]
      ]

module _ (orders : List Order) (deals : List Deal) (numbers : List ℕ) (list : IsOrderList orders) (totals : AreTotals orders deals numbers) where
  -- the finding of a side at a deal, as the definition has it
  abbrev defined : Side → Deal → Option Finding
  defined side d = only_if (is_outranked_by_short orders deals side (order_of_deal side d))
      (finding_at_trade (priority_property side) d (show_if_found orders (traded deals) (best_short orders deals side)) (show_order orders (traded deals) (order_of_deal side d)))

  shown-same : (i : ℕ) → i < length orders → show_order orders (slice_index numbers) i ≡ show_order orders (traded deals) i
  shown-same i lt = ap (λ (n : ℕ). show_order orders (λ k. n) i) (totals.each i lt)

  passed-defined : (side : Side) (short : Option ℕ) → short ≡ best_short orders deals side → (d : Deal) → IsUncancelledOn orders side (order_of_deal side d)
      → option_map (finding_of orders) (outranked_flaw orders numbers side short d) ≡ defined side d
  passed-defined side None e d s = rw (none-passed orders deals side (sym e) (order_of_deal side d)) refl
  passed-defined side (Some b) e d s =
      map-only (finding_of orders) (better (order_at orders b) (order_at orders (order_of_deal side d))) (record { place = d.place; evidence = Priority side (traded_order numbers b) (traded_order numbers (order_of_deal side d)) })
      ∙ rw (best-passes orders deals side list b (sym e) (order_of_deal side d), ← e, shown-same b (short-best orders deals side b (sym e)).inside, shown-same (order_of_deal side d) s.inside) refl

  not-fair : (side : Side) (short : Option ℕ) → short ≡ best_short orders deals side → (k : ℕ) → k < length deals → 0 < (deal_at deals k).quantity → IsUncancelledOn orders side (order_of_deal side (deal_at deals k))
      → (o : Flaw) → outranked_flaw orders numbers side short (deal_at deals k) ≡ Some o → Fair orders deals → ⊥
  not-fair side None e k lt some s o found fair = cc
  not-fair side (Some b) e k lt some s o found fair =
      let best = short-best orders deals side b (sym e) in
      let below = ltb-true _ _ ((and_parts (is_uncancelled_on side (order_at orders b)) (nat_lt (traded deals b) (quantity_at orders b)) best.passes).1) in
      let least = traded-least deals side k lt in
      let full = fair.fills side b (order_of_deal side (deal_at deals k)) (short-stands orders deals side b best.inside best.passes) s (only-true _ _ _ found) (omega arith) in
      absurd (omega arith)

  -- what the code finds at the deal at k, from the best short orders
  module _ (bid ask : Option ℕ) (bid_is : bid ≡ best_short orders deals Buy) (ask_is : ask ≡ best_short orders deals Sell) (matching : Matching orders deals)
      (k : ℕ) (lt : k < length deals) (d : Deal) (is : d ≡ get_or deals k d) where
    d_is : d ≡ deal_at deals k
    d_is = is ∙ get_or-default deals k d deal_past_end lt

    pub unfair-is : option_map (finding_of orders) (unfair_flaw orders numbers bid ask d) ≡ unfair orders deals k
    unfolding bid_priority_finding ask_priority_finding
    unfair-is =
        let kept = matching.kept k deal_past_end lt in
        let here : Deal = deal_at deals k in
        let bids : option_map (finding_of orders) (outranked_flaw orders numbers Buy bid here) ≡ bid_priority_finding orders deals k = passed-defined Buy bid bid_is here kept.bid_stands in
        let asks : option_map (finding_of orders) (outranked_flaw orders numbers Sell ask here) ≡ ask_priority_finding orders deals k = passed-defined Sell ask ask_is here kept.ask_stands in
        ap (λ (x : Deal). option_map (finding_of orders) (unfair_flaw orders numbers bid ask x)) d_is
        ∙ map-or (finding_of orders) (outranked_flaw orders numbers Buy bid here) (outranked_flaw orders numbers Sell ask here) ∙ (λ i. option_or (bids i) (asks i))

    -- where it finds something, the deals aren't fair
    pub unfair-breaks : (o : Flaw) → unfair_flaw orders numbers bid ask d ≡ Some o → DealsInRange deals → Fair orders deals → ⊥
    unfair-breaks o found ranges fair =
        let kept = matching.kept k deal_past_end lt in
        let here : unfair_flaw orders numbers bid ask (deal_at deals k) ≡ Some o = ap (unfair_flaw orders numbers bid ask) (sym d_is) ∙ found in
        let positive = (ranges k deal_past_end lt).sized.some in
        elim (option_or-cases _ _ o here) [
          | inl bids ↦ not-fair Buy bid bid_is k lt positive kept.bid_stands o bids fair
          | inr asks ↦ not-fair Sell ask ask_is k lt positive kept.ask_stands o asks.1 fair
        ]
