-- What an order brings at its own record, from what the earlier ones have traded and have left.
use Rattle.std.proofs.Common.{◌≡◌, ◌<◌, ℕ, List, length, Bool, true, false, None, Some, refl, sym, ap, ◌∙◌, inl, inr}
use Rattle.std.specs.Prelude.{◌&&◌, not}
use Rattle.audit_base.specs.declared.orders.Order.{Order}
use Rattle.audit_base.specs.declared.orders.Deal.{Deal}
use Rattle.audit_base.specs.Orders.{order_at, place_at, IsOrderList}
use Rattle.audit_base.specs.Continuous.{rests_before_in_ledger, traded_before, chain_traded_quantity, has_entered, is_cancelled_at_place}
use Rattle.audit_base.specs.Deals.{number_at}
use Rattle.audit_base.proofs.OrderLemmas.{place-rises}
use Rattle.audit_base.proofs.LeastLemmas.{cases_Option}
use Rattle.audit_base.proofs.ContinuousLemmas.{target-below, entered-none, entered-some, size-is}
use Rattle.continuous_audit.specs.declared.arrival.Arrival.{Arrival}
use Rattle.continuous_audit.specs.declared.order_numbers.OrderNumbers.{OrderNumbers}
use Rattle.continuous_audit.specs.DealFindings as by_deal
use Rattle.continuous_audit.specs.Chains.{IsKnownBeforeArrival}
use Rattle.continuous_audit.specs.OrderNumbers.{IsArrivalOfOrder}
use Rattle.continuous_audit.proofs.ScanLemmas.{waits-is}

and-true : (b c : Bool) → c ≡ true → (b && c) ≡ b
and-true true c e = e
and-true false c e = refl

module _ (orders : List Order) (list : IsOrderList orders) (deals : List Deal) (n : ℕ) (n_inside : n < length orders) (traded : List ℕ) (order_numbers : OrderNumbers) (is : IsKnownBeforeArrival orders deals n traded order_numbers) where
  abbrev past : ℕ → ℕ → ℕ
  past = traded_before orders deals

  pub entered-arrived : (r : Bool) → ((order_at orders n).target ≡ None → r ≡ true) → ((t : ℕ) → (order_at orders n).target ≡ Some t → r ≡ by_deal.waits_in orders order_numbers.left.items (place_at orders n) t)
      → by_deal.enters (order_at orders n) r ≡ has_entered orders deals n
  entered-arrived r none some = elim (cases_Option (order_at orders n).target) [
    | inl e ↦ and-true (not (is_cancelled_at_place (order_at orders n).cancelled (place_at orders n))) r (none e) ∙ sym (entered-none orders list past n e)
    | inr found ↦
        let t = found.0 in
        let e : (order_at orders n).target ≡ Some t = found.1 in
        let lower = target-below orders list n n_inside t e in
        let waits : by_deal.waits_in orders order_numbers.left.items (place_at orders n) t ≡ rests_before_in_ledger orders past (place_at orders n) t = waits-is orders past (place_at orders n) t (number_at order_numbers.left.items t) (place-rises orders list t n lower n_inside) (is.left_is t lower) in
        ap (λ (b : Bool). not (is_cancelled_at_place (order_at orders n).cancelled (place_at orders n)) && b) (some t e ∙ waits) ∙ sym (entered-some orders list past n t n_inside e)
  ]

  -- the same, in the words of the code: the order that it reads
  pub arrived : (o : Order) → o ≡ order_at orders n → (r : Bool) → (o.target ≡ None → r ≡ true) → ((t : ℕ) → o.target ≡ Some t → r ≡ by_deal.waits_in orders order_numbers.left.items o.place t)
      → (arrival : Arrival) → arrival.entered ≡ by_deal.enters o r → arrival.chain_traded ≡ chain_traded_quantity orders deals n → arrival.size ≡ by_deal.size_left arrival.entered o.quantity arrival.chain_traded
      → IsArrivalOfOrder orders deals n arrival
  arrived o o_is r none some arrival e_is b_is z_is =
      let target_is = ap (λ (x : Order). x.target) o_is in
      let place_is = ap (λ (x : Order). x.place) o_is in
      let entry : arrival.entered ≡ has_entered orders deals n = e_is ∙ ap (λ (x : Order). by_deal.enters x r) o_is ∙ entered-arrived r (λ f. none (target_is ∙ f)) (λ t f. some t (target_is ∙ f) ∙ ap (λ (p : ℕ). by_deal.waits_in orders order_numbers.left.items p t) place_is) in
      record {
        entered_is = entry;
        chain_traded_is = b_is;
        size_is = z_is ∙ (λ i. by_deal.size_left (entry i) (o_is i).quantity (b_is i)) ∙ sym (size-is orders list past n);
      }
