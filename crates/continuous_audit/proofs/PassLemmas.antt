-- The first deal of a record that passes the best order over.
use Rattle.std.proofs.Common.{◌≡◌, ◌<◌, ◌≤◌, ℕ, suc, List, [], ◌∷◌, length, true, false, Some, None, sym, ap, ◌∙◌, arith, inl, inr, subst, get_or}
use Rattle.std.proofs.lemmas.Bool.{cases_eq, cases_lt}
use Rattle.audit_base.specs.declared.orders.Order.{Order}
use Rattle.audit_base.specs.declared.orders.Deal.{Deal}
use Rattle.audit_base.specs.Least.{least_answer}
use Rattle.audit_base.specs.Orders.{order_at, place_at, side_at, other_side, IsOrderList}
use Rattle.audit_base.specs.Priority.{better}
use Rattle.audit_base.specs.Deals.{deal_at, deal_past_end, IsDealList}
use Rattle.audit_base.specs.Continuous.{cause, resting_order, incoming_order, traded_before}
use Rattle.audit_base.specs.ContinuousOffences.{resting_priority_finding, traded_shown_after}
use Rattle.audit_base.specs.Flaws.{finding_of}
use Rattle.audit_base.proofs.LeastLemmas.{least-none, least-at}
use Rattle.audit_base.proofs.OffenceLemmas.{get_or-default}
use Rattle.order_book.specs.declared.books.Resting.{Resting}
use Rattle.order_book.specs.Books.{best_resting}
use Rattle.continuous_audit.specs.declared.incoming_deals.IncomingDeal.{IncomingDeal}
use Rattle.continuous_audit.specs.IncomingDeals.{AreIncomingDeals, incoming_deal_of}
use Rattle.continuous_audit.specs.Flaws.{priority_flaw}
use Rattle.continuous_audit.specs.Holding.{IsFilledInFront, resting_left_before, resting_left_after_deals}
use Rattle.continuous_audit.specs.Scans.{IsSplitAt, deal_index_at, incoming_deal_past_end, incoming_order_at}
use Rattle.continuous_audit.proofs.IncomingLemmas.{incoming-cause}
use Rattle.continuous_audit.proofs.FlawLemmas.{upto-n}
use Rattle.continuous_audit.proofs.RecordLemmas.{IsOfCause, ends, priority-away, priority-clear, priority-found}

module _ (orders : List Order) (list : IsOrderList orders) (deals : List Deal) (deal_list : IsDealList orders deals) (incoming_deals : List IncomingDeal) (are : AreIncomingDeals orders deals incoming_deals) (n : ℕ) (n_inside : n < length orders)
    (start end : ℕ) (within : end ≤ length incoming_deals) (split : IsSplitAt incoming_deals n start) (later : IsSplitAt incoming_deals (suc n) end) where
  abbrev p : ℕ
  p = place_at orders n

  -- where a deal of this cause is among the incoming deals
  pub located : (j : ℕ) → j < length deals → cause orders (deal_at deals j) ≡ p → (i : ℕ) × (start ≤ i) × (i < end) × (deal_index_at incoming_deals i ≡ j)
  located j lt here =
      let has = are.each j lt in
      let i = has.0 in
      let is : get_or incoming_deals i incoming_deal_past_end ≡ incoming_deal_of orders deals j = get_or-default incoming_deals i incoming_deal_past_end (incoming_deal_of orders deals j) has.1 ∙ has.2 in
      let e = ends orders list deals deal_list.named n n_inside (deal_at deals j) (deal_list.named j deal_past_end lt) here in
      let order_is : incoming_order_at incoming_deals i ≡ n = ap (λ (c : IncomingDeal). c.order) is ∙ e.1.incoming_is in (
        i,
        elim (cases_lt i start) [ inr ok ↦ ok | inl early ↦ let l = split.early i early has.1 in absurd (omega arith) ],
        elim (cases_lt i end) [ inl ok ↦ ok | inr late ↦ let l = later.late i late has.1 in absurd (omega arith) ],
        ap (λ (c : IncomingDeal). c.deal) is,
      )

  -- an incoming deal of the order
  pub of-cause : (i : ℕ) → start ≤ i → i < end → IsOfCause orders list deals deal_list.named n n_inside (deal_index_at incoming_deals i)
  of-cause i from below =
      let h = are.only i incoming_deal_past_end (omega arith) in
      let low = split.late i from (omega arith) in
      let high = later.early i below (omega arith) in
      let same : incoming_order_at incoming_deals i ≡ n = omega arith in
      let order_is : incoming_order_at incoming_deals i ≡ incoming_order orders (deal_at deals (deal_index_at incoming_deals i)) = ap (λ (c : IncomingDeal). c.order) h.1 in
      record { inside = h.0; at = sym (incoming-cause orders (deal_at deals (deal_index_at incoming_deals i))) ∙ ap (place_at orders) (sym order_is ∙ same) }

  -- its resting order is of the other side
  pub resting-opposite : (i : ℕ) → start ≤ i → i < end → side_at orders (resting_order orders (deal_at deals (deal_index_at incoming_deals i))) ≡ other_side (side_at orders n)
  resting-opposite i from below =
      let of = of-cause i from below in
      let e = ends orders list deals deal_list.named n n_inside (deal_at deals (deal_index_at incoming_deals i)) (deal_list.named (deal_index_at incoming_deals i) deal_past_end of.inside) of.at in
      ap (side_at orders) e.1.resting_is ∙ e.1.of_side

  -- and is an earlier one
  pub resting-upto : (i : ℕ) → start ≤ i → i < end → resting_order orders (deal_at deals (deal_index_at incoming_deals i)) ≤ n
  resting-upto i from below =
      let of = of-cause i from below in
      let e = ends orders list deals deal_list.named n n_inside (deal_at deals (deal_index_at incoming_deals i)) (deal_list.named (deal_index_at incoming_deals i) deal_past_end of.inside) of.at in
      let le = upto-n orders list n n_inside e.0 e.1.inside (let l = e.1.earlier in omega arith) in
      let same = e.1.resting_is in
      omega arith

  module _ (h : Resting) (zs : List Resting) (s : IsFilledInFront orders (other_side (side_at orders n)) (resting_left_before orders (traded_before orders deals) p) (resting_left_after_deals orders deals p) (h ∷ zs)) where
    clear-at : (at : ℕ) → at ≤ end → ((i : ℕ) → start ≤ i → i < at → better (order_at orders h.index) (order_at orders (resting_order orders (deal_at deals (deal_index_at incoming_deals i)))) ≡ false)
        → (j : ℕ) → j < length deals → ((i : ℕ) → start ≤ i → i < end → deal_index_at incoming_deals i ≡ j → i < at) → resting_priority_finding orders deals p j ≡ None
    clear-at at le under j lt early = elim (cases_eq (cause orders (deal_at deals j)) p) [
      | inr away ↦ priority-away orders list deals deal_list.named n n_inside j away
      | inl here ↦
          let l = located j lt here in
          let below = early l.0 l.1 l.2 l.3 in
          subst (λ m. resting_priority_finding orders deals p m ≡ None) l.3 (priority-clear orders list deals deal_list.named n n_inside (deal_index_at incoming_deals l.0) (of-cause l.0 l.1 l.2) h zs s (under l.0 l.1 below))
    ]

    pub pass-none : ((i : ℕ) → start ≤ i → i < end → better (order_at orders h.index) (order_at orders (resting_order orders (deal_at deals (deal_index_at incoming_deals i)))) ≡ false)
        → least_answer (resting_priority_finding orders deals p) (length deals) ≡ None
    pass-none under = least-none (resting_priority_finding orders deals p) (length deals) (λ j lt. clear-at end (omega arith) under j lt (λ i from below e. below))

    pub pass-found : (at : ℕ) → start ≤ at → at < end → ((i : ℕ) → start ≤ i → i < at → better (order_at orders h.index) (order_at orders (resting_order orders (deal_at deals (deal_index_at incoming_deals i)))) ≡ false)
        → better (order_at orders h.index) (order_at orders (resting_order orders (deal_at deals (deal_index_at incoming_deals at)))) ≡ true
        → least_answer (resting_priority_finding orders deals p) (length deals) ≡ Some (finding_of orders (priority_flaw orders (traded_shown_after orders deals p) (deal_at deals (deal_index_at incoming_deals at)) h.index))
    pass-found at from below under over =
        let of = of-cause at from below in
        let k = deal_index_at incoming_deals at in
        least-at (resting_priority_finding orders deals p) (length deals) k _ of.inside
        (least-none (resting_priority_finding orders deals p) k (λ j lt. clear-at at (omega arith) under j (let inside = of.inside in omega arith) (λ i i_from i_below e. elim (cases_lt i at) [
          | inl ok ↦ ok
          | inr ge ↦ elim (cases_eq i at) [
            | inl same ↦ let f : k ≡ j = ap (deal_index_at incoming_deals) (sym same) ∙ e in absurd (omega arith)
            | inr ne ↦ elim (are.rising at i incoming_deal_past_end (omega (arith, ne)) (omega arith)) [
              | inl less ↦ let a = later.early i i_below (omega arith) in let b = split.late at from (omega arith) in absurd (omega arith)
              | inr tie ↦ let l = tie.1 in absurd (omega arith)
            ]
          ]
        ])))
        (priority-found orders list deals deal_list.named n n_inside k of h zs s over)

-- the same of a list with this first order
pub pass-none-first : (orders : List Order) (list : IsOrderList orders) (deals : List Deal) (deal_list : IsDealList orders deals) (incoming_deals : List IncomingDeal) (are : AreIncomingDeals orders deals incoming_deals) (n : ℕ) (n_inside : n < length orders)
    (start end : ℕ) (within : end ≤ length incoming_deals) (split : IsSplitAt incoming_deals n start) (later : IsSplitAt incoming_deals (suc n) end) (best : Resting) (ys : List Resting) → best_resting ys ≡ Some best
    → IsFilledInFront orders (other_side (side_at orders n)) (resting_left_before orders (traded_before orders deals) (place_at orders n)) (resting_left_after_deals orders deals (place_at orders n)) ys
    → ((i : ℕ) → start ≤ i → i < end → better (order_at orders best.index) (order_at orders (resting_order orders (deal_at deals (deal_index_at incoming_deals i)))) ≡ false)
    → least_answer (resting_priority_finding orders deals (place_at orders n)) (length deals) ≡ None
pass-none-first orders list deals deal_list incoming_deals are n n_inside start end within split later best [] e s under = absurd (cc)
pass-none-first orders list deals deal_list incoming_deals are n n_inside start end within split later best (h ∷ zs) e s under =
    let is : best ≡ h = cc in
    pass-none orders list deals deal_list incoming_deals are n n_inside start end within split later h zs s
    (λ i from below. subst (λ (b : Resting). better (order_at orders b.index) (order_at orders (resting_order orders (deal_at deals (deal_index_at incoming_deals i)))) ≡ false) is (under i from below))

pub pass-found-first : (orders : List Order) (list : IsOrderList orders) (deals : List Deal) (deal_list : IsDealList orders deals) (incoming_deals : List IncomingDeal) (are : AreIncomingDeals orders deals incoming_deals) (n : ℕ) (n_inside : n < length orders)
    (start end : ℕ) (within : end ≤ length incoming_deals) (split : IsSplitAt incoming_deals n start) (later : IsSplitAt incoming_deals (suc n) end) (best : Resting) (ys : List Resting) → best_resting ys ≡ Some best
    → IsFilledInFront orders (other_side (side_at orders n)) (resting_left_before orders (traded_before orders deals) (place_at orders n)) (resting_left_after_deals orders deals (place_at orders n)) ys
    → (at : ℕ) → start ≤ at → at < end → ((i : ℕ) → start ≤ i → i < at → better (order_at orders best.index) (order_at orders (resting_order orders (deal_at deals (deal_index_at incoming_deals i)))) ≡ false)
    → better (order_at orders best.index) (order_at orders (resting_order orders (deal_at deals (deal_index_at incoming_deals at)))) ≡ true
    → least_answer (resting_priority_finding orders deals (place_at orders n)) (length deals) ≡ Some (finding_of orders (priority_flaw orders (traded_shown_after orders deals (place_at orders n)) (deal_at deals (deal_index_at incoming_deals at)) best.index))
pass-found-first orders list deals deal_list incoming_deals are n n_inside start end within split later best [] e s at from below under t = absurd (cc)
pass-found-first orders list deals deal_list incoming_deals are n n_inside start end within split later best (h ∷ zs) e s at from below under t =
    let is : best ≡ h = cc in
    pass-found orders list deals deal_list incoming_deals are n n_inside start end within split later h zs s at from below
    (λ i from below. subst (λ (x : Resting). better (order_at orders x.index) (order_at orders (resting_order orders (deal_at deals (deal_index_at incoming_deals i)))) ≡ false) is (under i from below))
    (subst (λ (x : Resting). better (order_at orders x.index) (order_at orders (resting_order orders (deal_at deals (deal_index_at incoming_deals at)))) ≡ true) is t)
    ∙ ap (λ (x : Resting). Some (finding_of orders (priority_flaw orders (traded_shown_after orders deals (place_at orders n)) (deal_at deals (deal_index_at incoming_deals at)) x.index))) (sym is)

-- the resting order that the code reads of an incoming deal
pub resting-read : (orders : List Order) (deals : List Deal) (incoming_deals : List IncomingDeal) (are : AreIncomingDeals orders deals incoming_deals) (at : ℕ) → at < length incoming_deals → (d : Deal) → d ≡ get_or deals (deal_index_at incoming_deals at) d → (r : ℕ) → r ≡ resting_order orders d → r < length orders
    → (o : Order) → o ≡ order_at orders r → o ≡ order_at orders (resting_order orders (deal_at deals (deal_index_at incoming_deals at)))
resting-read orders deals incoming_deals are at lt d d_read r r_is inside o o_read =
    o_read ∙ ap (order_at orders) (r_is ∙ ap (resting_order orders) (d_read ∙ get_or-default deals (deal_index_at incoming_deals at) d deal_past_end (are.only at incoming_deal_past_end lt).0))
