-- A deal passes over a short order exactly where the best short order of the side is better than the deal's: Better is a strict
-- total order on the side.
use Rattle.std.proofs.Common.{◌≡◌, ◌<◌, ◌∙◌, sym, ap, refl, subst, ℕ, ◌+◌, Bool, true, false, List, length, get_or, Option, Some, None, inl, inr, All}
use Rattle.std.specs.Prelude.{◌&&◌, nat_lt, IfSome, slice_index, option_map}
use Rattle.std.specs.Option.{option_or}
use Rattle.std.proofs.lemmas.Bool.{cases_Bool, cases_eq, and_parts, and_from, both_ways, false_from_ne_true}
use Rattle.audit_base.specs.declared.terms.Side.{Side}
use Rattle.audit_base.specs.declared.terms.Side.TheVariants.{Buy, Sell}
use Rattle.audit_base.specs.declared.orders.Order.{Order}
use Rattle.audit_base.specs.declared.orders.Deal.{Deal}
use Rattle.audit_base.specs.declared.findings.Finding.{Finding}
use Rattle.audit_base.specs.Least.{only_if}
use Rattle.audit_base.specs.Orders.{order_at, quantity_at, is_uncancelled_on, IsUncancelledOn, IsOrderList}
use Rattle.audit_base.specs.Priority.{better, Better}
use Rattle.audit_base.specs.Deals.{deal_at, deal_past_end, traded, NamesOrders, AreTotals}
use Rattle.audit_base.specs.CallOffences.{is_short, best_short, is_outranked_by_short, bid_priority_finding, ask_priority_finding}
use Rattle.audit_base.specs.Shows.{finding_at_trade, show_order, show_if_found, priority_property}
use Rattle.audit_base.proofs.LeastLemmas.{none_some, any-at, any-none}
use Rattle.audit_base.proofs.OrderLemmas.{test-stands}
use Rattle.audit_base.proofs.PriorityLemmas.{IsBest, best-is, best-exists, Better-total, Better-onward}
use Rattle.offence_list.specs.Answers.{answers_below, with_answer}
use Rattle.offence_list.specs.CallLists.{priority_finding}
use Rattle.offence_list.proofs.ListLemmas.{mapped-further}
use Rattle.offence_list.specs.declared.offences.ListedOffence.{ListedOffence}
use Rattle.offence_list.specs.declared.offences.ListedOffence.TheVariants.{Priority}
use Rattle.offence_list.specs.ListedOffences.{finding_of_offence, findings_of_offences}
use Rattle.audit_base.proofs.OffenceLemmas.{get_or-default}
use Rattle.call_offences.specs.DealOffences.{order_trading, IsOrderOnSide, order_on_side, passed_over_on_side, passed_over}

module _ (orders : List Order) (deals : List Deal) (side : Side) where
  short-best : (i : ℕ) → best_short orders deals side ≡ Some i → IsBest orders (is_short orders deals side) i
  unfolding best_short
  short-best i e = best-is orders (is_short orders deals side) i e

  short-stands : (i : ℕ) → i < length orders → is_short orders deals side i ≡ true → IsUncancelledOn orders side i
  short-stands i lt short = test-stands orders side i lt ((and_parts (is_uncancelled_on side (order_at orders i)) (nat_lt (traded deals i) (quantity_at orders i)) short).0)

  -- the best short order is an order of the side
  pub best-on_side : (o : Option ℕ) → o ≡ best_short orders deals side → IfSome o (IsOrderOnSide orders side)
  best-on_side None e = tt
  best-on_side (Some i) e =
      let b = short-best i (sym e) in
      let s = short-stands i b.inside b.passes in
      record { inside = s.inside; of_side = s.of_side }

  -- where no order is short, none is passed over
  none-passed : best_short orders deals side ≡ None → (i : ℕ) → is_outranked_by_short orders deals side i ≡ false
  unfolding best_short is_outranked_by_short
  none-passed none i = any-none (λ j. is_short orders deals side j && better (order_at orders j) (order_at orders i)) (length orders) (λ j lt. false_from_ne_true _ (λ over.
      let found = best-exists orders (is_short orders deals side) j lt ((and_parts (is_short orders deals side j) _ over).0) in
      none_some _ found.0 none found.1))

  best-passes : IsOrderList orders → (b : ℕ) → best_short orders deals side ≡ Some b → (i : ℕ) → is_outranked_by_short orders deals side i ≡ better (order_at orders b) (order_at orders i)
  unfolding is_outranked_by_short
  best-passes list b e i = elim (cases_Bool (better (order_at orders b) (order_at orders i))) [
    | inl over ↦ any-at passes (length orders) b is.inside (and_from _ _ is.passes over) ∙ sym over
    | inr under ↦ any-none passes (length orders) (λ j lt. false_from_ne_true _ (λ t. below under j lt (and_parts (is_short orders deals side j) _ t))) ∙ sym under
  ]
    where
      is : IsBest orders (is_short orders deals side) b
      is = short-best b e

      passes : ℕ → Bool
      passes j = is_short orders deals side j && better (order_at orders j) (order_at orders i)

      below : better (order_at orders b) (order_at orders i) ≡ false → (j : ℕ) → j < length orders → (is_short orders deals side j ≡ true) × Better orders j i → ⊥
      below under j lt t = elim (cases_eq j b) [
        | inl same ↦ both_ways _ under (subst (λ k. Better orders k i) same t.1)
        | inr ne ↦ elim (Better-total orders list j b lt is.inside ((short-stands j lt t.0).of_side ∙ sym (short-stands b is.inside is.passes).of_side) ne) [
          | inl over ↦ is.none_better j lt t.0 over
          | inr worse ↦ both_ways _ under (Better-onward orders b j i worse t.1)
        ]
      ]

map-only : {A B : Type 0} (f : A → B) (b : Bool) (x : A) → option_map f (only_if b x) ≡ only_if b (f x)
map-only f true x = refl
map-only f false x = refl

map-or : {A B : Type 0} (f : A → B) (a b : Option A) → option_map f (option_or a b) ≡ option_or (option_map f a) (option_map f b)
map-or f None b = refl
map-or f (Some x) b = refl

module _ (orders : List Order) (deals : List Deal) (numbers : List ℕ) (list : IsOrderList orders) (totals : AreTotals orders deals numbers) where
  -- the finding of a side at a deal, as the definition has it
  abbrev defined : Side → Deal → Option Finding
  defined side d = only_if (is_outranked_by_short orders deals side (order_on_side side d))
      (finding_at_trade (priority_property side) d (show_if_found orders (traded deals) (best_short orders deals side)) (show_order orders (traded deals) (order_on_side side d)))

  shown-same : (i : ℕ) → i < length orders → show_order orders (slice_index numbers) i ≡ show_order orders (traded deals) i
  shown-same i lt = ap (λ (n : ℕ). show_order orders (λ k. n) i) (totals.each i lt)

  passed-defined : (side : Side) (short : Option ℕ) → short ≡ best_short orders deals side → (d : Deal) → order_on_side side d < length orders
      → option_map (finding_of_offence orders) (passed_over_on_side orders numbers side short d) ≡ defined side d
  passed-defined side None e d inside = rw (none-passed orders deals side (sym e) (order_on_side side d)) refl
  passed-defined side (Some b) e d inside =
      map-only (finding_of_offence orders) (better (order_at orders b) (order_at orders (order_on_side side d)))
      (Priority d.place side (order_trading b (slice_index numbers b)) (order_trading (order_on_side side d) (slice_index numbers (order_on_side side d))))
      ∙ rw (best-passes orders deals side list b (sym e) (order_on_side side d), ← e, shown-same b (short-best orders deals side b (sym e)).inside, shown-same (order_on_side side d) inside) refl

  -- what the code finds at the deal that it reads
  passed-is : (bid ask : Option ℕ) → bid ≡ best_short orders deals Buy → ask ≡ best_short orders deals Sell → All (NamesOrders orders) deals → (k : ℕ) → k < length deals
      → option_map (finding_of_offence orders) (passed_over orders numbers bid ask (deal_at deals k)) ≡ priority_finding orders deals k
  unfolding bid_priority_finding ask_priority_finding
  passed-is bid ask bid_is ask_is named k lt =
      let d = deal_at deals k in
      let n = named k deal_past_end lt in
      let bids : option_map (finding_of_offence orders) (passed_over_on_side orders numbers Buy bid d) ≡ bid_priority_finding orders deals k = passed-defined Buy bid bid_is d n.bid_inside in
      let asks : option_map (finding_of_offence orders) (passed_over_on_side orders numbers Sell ask d) ≡ ask_priority_finding orders deals k = passed-defined Sell ask ask_is d n.ask_inside in
      map-or (finding_of_offence orders) (passed_over_on_side orders numbers Buy bid d) (passed_over_on_side orders numbers Sell ask d) ∙ (λ i. option_or (bids i) (asks i))

  -- the list of what is found, one deal further
  pub passed-further : (bid ask : Option ℕ) → bid ≡ best_short orders deals Buy → ask ≡ best_short orders deals Sell → All (NamesOrders orders) deals → (k : ℕ) → k < length deals
      → (d : Deal) → d ≡ get_or deals k d → (found later : List ListedOffence) (offence : Option ListedOffence) → findings_of_offences orders found ≡ answers_below (priority_finding orders deals) k
      → offence ≡ passed_over orders numbers bid ask d → later ≡ with_answer found offence → findings_of_offences orders later ≡ answers_below (priority_finding orders deals) (k + 1)
  passed-further bid ask bid_is ask_is named k lt d d_is found later offence found_is offence_is later_is =
      let d' : d ≡ deal_at deals k = d_is ∙ get_or-default deals k d deal_past_end lt in
      mapped-further (finding_of_offence orders) (priority_finding orders deals) k found later offence found_is
      (ap (option_map (finding_of_offence orders)) (offence_is ∙ ap (passed_over orders numbers bid ask) d') ∙ passed-is bid ask bid_is ask_is named k lt) later_is
