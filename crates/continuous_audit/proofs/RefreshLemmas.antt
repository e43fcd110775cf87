-- After the deals of a record the numbers that are left are those of the rule.
use Rattle.std.proofs.Common.{◌≡◌, ◌<◌, ◌≤◌, ℕ, suc, List, length, true, refl, ap, ◌∙◌, arith, inl, inr, subst}
use Rattle.std.specs.Prelude.{nat_lt, ◌==◌}
use Rattle.std.proofs.lemmas.Bool.{cases_lt, both_ways, eq-eqb, or_left, or_right, cond_both}
use Rattle.audit_base.specs.declared.orders.Order.{Order}
use Rattle.audit_base.specs.declared.orders.Deal.{Deal}
use Rattle.audit_base.specs.Orders.{place_at, IsOrderList}
use Rattle.audit_base.specs.Deals.{names_order, deal_at, IsDealList, number_at}
use Rattle.audit_base.specs.Continuous.{resting_order, traded_before, traded_at, size_of_order, left_before, left_after}
use Rattle.audit_base.proofs.ContinuousOffenceLemmas.{traded-more}
use Rattle.continuous_audit.specs.declared.incoming_deals.IncomingDeal.{IncomingDeal}
use Rattle.continuous_audit.specs.IncomingDeals.{AreIncomingDeals}
use Rattle.continuous_audit.specs.Scans.{IsLeftRefreshed, IsSplitAt, deal_index_at}
use Rattle.continuous_audit.proofs.RecordLemmas.{traded-resting}
use Rattle.continuous_audit.proofs.PassLemmas.{located}

-- a deal names its resting order
names-resting : (orders : List Order) (d : Deal) → names_order (resting_order orders d) d ≡ true
names-resting orders d = cond_both (nat_lt (place_at orders d.bid) (place_at orders d.ask)) d.bid d.ask (λ x. names_order x d ≡ true)
    (λ t. or_left (d.bid == d.bid) (d.ask == d.bid) (eq-eqb d.bid d.bid refl)) (λ t. or_right (d.bid == d.ask) (d.ask == d.ask) (eq-eqb d.ask d.ask refl))

module _ (orders : List Order) (list : IsOrderList orders) (deals : List Deal) (deal_list : IsDealList orders deals) (incoming_deals : List IncomingDeal) (are : AreIncomingDeals orders deals incoming_deals) (n : ℕ) (n_inside : n < length orders)
    (start end : ℕ) (within : end ≤ length incoming_deals) (split : IsSplitAt incoming_deals n start) (later : IsSplitAt incoming_deals (suc n) end) where
  abbrev p : ℕ
  p = place_at orders n

  pub refreshed-after : (sizes traded old new : List ℕ) → IsLeftRefreshed deals incoming_deals start end sizes traded old new
      → ((x : ℕ) → x < n → number_at sizes x ≡ size_of_order orders deals x) → ((x : ℕ) → x < length orders → number_at traded x ≡ traded_before orders deals (suc p) x) → ((x : ℕ) → x < n → number_at old x ≡ left_before orders deals p x)
      → (x : ℕ) → x < n → number_at new x ≡ left_after orders deals p x
  refreshed-after sizes traded old new is size_is traded_is old_is x lt = elim (is.each x) [
    | inl e ↦ let s = size_is x lt in let t = traded_is x (omega arith) in omega arith
    | inr kept ↦
        let o = old_is x lt in
        let k = kept.0 in
        elim (cases_lt 0 (traded_at orders deals p x)) [
          | inr none ↦ omega (arith, traded-more orders deals p x)
          | inl some ↦
              let t = traded-resting orders list deals deal_list.named n n_inside x (λ e. omega arith) some in
              let l = located orders list deals deal_list incoming_deals are n n_inside start end within split later t.0 t.1.inside t.1.at in
              let named : names_order x (deal_at deals (deal_index_at incoming_deals l.0)) ≡ true = ap (λ (j : ℕ). names_order x (deal_at deals j)) l.3 ∙ subst (λ (y : ℕ). names_order y (deal_at deals t.0) ≡ true) t.2 (names-resting orders (deal_at deals t.0)) in
              absurd (both_ways _ (kept.1 l.0 l.1 l.2) named)
        ]
  ]
