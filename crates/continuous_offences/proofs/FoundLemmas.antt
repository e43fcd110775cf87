-- The first finding among the deals of one order is the finding of the least deal of its cause.
use Rattle.std.proofs.Common.{◌≡◌, ◌≢◌, ◌<◌, ◌≤◌, ◌+◌, ◌⊎◌, ℕ, suc, List, length, Option, None, Some, sym, ap, ◌∙◌, arith, inl, inr, subst, get_or}
use Rattle.std.specs.Option.{option_or}
use Rattle.std.proofs.lemmas.Bool.{cases_eq, cases_lt}
use Rattle.audit_base.specs.declared.orders.Order.{Order}
use Rattle.audit_base.specs.declared.orders.Deal.{Deal}
use Rattle.audit_base.specs.declared.findings.Finding.{Finding}
use Rattle.audit_base.specs.Continuous.{cause}
use Rattle.audit_base.specs.Deals.{deal_at, deal_past_end, IsDealList}
use Rattle.audit_base.specs.Least.{least_answer}
use Rattle.audit_base.specs.Orders.{place_at, IsOrderList}
use Rattle.audit_base.proofs.LeastLemmas.{least-at, least-none}
use Rattle.audit_base.proofs.OffenceLemmas.{get_or-default}
use Rattle.continuous_audit.specs.declared.incoming_deals.IncomingDeal.{IncomingDeal}
use Rattle.continuous_audit.specs.IncomingDeals.{AreIncomingDeals, incoming_deal_of}
use Rattle.continuous_audit.specs.Scans.{IsSplitAt, deal_index_at, incoming_deal_past_end, incoming_order_at}
use Rattle.continuous_audit.proofs.RecordLemmas.{ends}
use Rattle.continuous_offences.specs.Scanning.{IsFirstFound}

module _ (orders : List Order) (list : IsOrderList orders) (deals : List Deal) (deal_list : IsDealList orders deals) (incoming_deals : List IncomingDeal) (are : AreIncomingDeals orders deals incoming_deals) (n : ℕ) (n_inside : n < length orders)
    (finding : ℕ → Option Finding) (away : (j : ℕ) → cause orders (deal_at deals j) ≢ place_at orders n → finding j ≡ None) (start : ℕ) (split : IsSplitAt incoming_deals n start) where
  -- a deal has no finding, or is one of the incoming deals of the order
  place-of : (j : ℕ) → j < length deals → (finding j ≡ None) ⊎ ((i : ℕ) × (start ≤ i) × (i < length incoming_deals) × (incoming_order_at incoming_deals i ≡ n) × (deal_index_at incoming_deals i ≡ j))
  place-of j lt = elim (cases_eq (cause orders (deal_at deals j)) (place_at orders n)) [
    | inr ne ↦ inl (away j ne)
    | inl here ↦
        let has = are.each j lt in
        let i = has.0 in
        let is : get_or incoming_deals i incoming_deal_past_end ≡ incoming_deal_of orders deals j = get_or-default incoming_deals i incoming_deal_past_end (incoming_deal_of orders deals j) has.1 ∙ has.2 in
        let e = ends orders list deals deal_list.named n n_inside (deal_at deals j) (deal_list.named j deal_past_end lt) here in
        let order_is : incoming_order_at incoming_deals i ≡ n = ap (λ (c : IncomingDeal). c.order) is ∙ e.1.incoming_is in
        let from : start ≤ i = elim (cases_lt i start) [ inr ok ↦ ok | inl early ↦ let l = split.early i early has.1 in absurd (omega arith) ] in
        inr (i, from, has.1, order_is, ap (λ (c : IncomingDeal). c.deal) is)
  ]

  pub found-least : (at : ℕ) → start ≤ at → at ≤ length incoming_deals → (at < length incoming_deals → incoming_order_at incoming_deals at ≢ n) → (first : Option Finding) → IsFirstFound finding incoming_deals n start at first → first ≡ least_answer finding (length deals)
  found-least at from within stop None clean = sym (least-none finding (length deals) (λ j lt. elim (place-of j lt) [
    | inl none ↦ none
    | inr found ↦
        let i = found.0 in
        elim (cases_lt i at) [
          | inl done ↦ subst (λ (m : ℕ). finding m ≡ None) found.4 (clean i found.1 done)
          | inr later ↦
              let inside : at < length incoming_deals = omega (arith, later, found.2) in
              let low = split.late at from inside in
              elim (cases_eq i at) [
                | inl e ↦ absurd (stop inside (ap (incoming_order_at incoming_deals) (sym e) ∙ found.3))
                | inr ne ↦ elim (are.rising at i incoming_deal_past_end (omega (arith, ne, later)) found.2) [
                  | inl less ↦ let same = found.3 in absurd (omega arith)
                  | inr tie ↦ absurd (stop inside (tie.0 ∙ found.3))
                ]
              ]
        ]
  ]))
  found-least at from within stop (Some f) is =
      let i0 = is.0 in
      let inside : i0 < length incoming_deals = omega (arith, is.2) in
      let k = deal_index_at incoming_deals i0 in
      let k_in : k < length deals = (are.only i0 incoming_deal_past_end inside).0 in
      sym (least-at finding (length deals) k f k_in (least-none finding k (λ j lt. elim (place-of j (omega arith)) [
        | inl none ↦ none
        | inr found ↦
            let i = found.0 in
            let d = found.4 in
            elim (cases_lt i i0) [
              | inl done ↦ subst (λ (m : ℕ). finding m ≡ None) found.4 (is.5 i found.1 done)
              | inr later ↦ elim (cases_eq i i0) [
                | inl e ↦ let same : k ≡ j = ap (deal_index_at incoming_deals) (sym e) ∙ found.4 in absurd (omega arith)
                | inr ne ↦ elim (are.rising i0 i incoming_deal_past_end (omega (arith, ne, later)) found.2) [
                  | inl less ↦ let o = found.3 in let m = is.3 in absurd (omega arith)
                  | inr tie ↦ let l = tie.1 in absurd (omega arith)
                ]
              ]
            ]
      ])) is.4)

-- One deal more.
module _ (finding : ℕ → Option Finding) (incoming_deals : List IncomingDeal) (n start : ℕ) where
  pub found-none : (at : ℕ) → at ≤ start → IsFirstFound finding incoming_deals n start at None
  found-none at le i from below = absurd (omega arith)

  pub found-more : (at : ℕ) → start ≤ at → incoming_order_at incoming_deals at ≡ n → (first later : Option Finding) → IsFirstFound finding incoming_deals n start at first → later ≡ finding (deal_index_at incoming_deals at) → IsFirstFound finding incoming_deals n start (at + 1) (option_or first later)
  found-more at from of (Some f) later is later_is = (is.0, is.1, omega (arith, is.2), is.3, is.4, is.5)
  found-more at from of None None is later_is = λ i le lt. elim (cases_eq i at) [
    | inl e ↦ subst (λ j. finding (deal_index_at incoming_deals j) ≡ None) (sym e) (sym later_is)
    | inr ne ↦ is i le (omega (arith, ne))
  ]
  found-more at from of None (Some f) is later_is = (at, from, omega arith, of, sym later_is, is)
