-- What the audit knows before an order comes, and what it answers.
use Rattle.std.proofs.Common.{◌≡◌, ◌<◌, ◌≤◌, ℕ, suc, List, length, true, Some, None, ap, arith, inl, inr, All}
use Rattle.std.proofs.lemmas.Bool.{cases_eq, cases_lt}
use Rattle.audit_base.specs.declared.orders.Order.{Order}
use Rattle.audit_base.specs.declared.orders.Deal.{Deal}
use Rattle.audit_base.specs.declared.findings.Finding.{Finding}
use Rattle.audit_base.specs.Orders.{place_at, IsOrderList}
use Rattle.audit_base.specs.Deals.{NamesOrders}
use Rattle.audit_base.specs.Continuous.{traded_before, rests_before_in_ledger}
use Rattle.audit_base.specs.ContinuousRules.{ConformsAt}
use Rattle.audit_base.specs.ContinuousOffences.{finding_at_place, IsContinuousOffence}
use Rattle.audit_base.proofs.OrderLemmas.{place-rises}
use Rattle.audit_base.proofs.ContinuousOffenceLemmas.{no_fault-conforms}
use Rattle.continuous_audit.specs.Holding.{IsUncrossedBefore}
use Rattle.continuous_audit.specs.Records.{ConformsAndIsUncrossed}
use Rattle.continuous_laws.proofs.StepLemmas.{rests-parts}
use Rattle.continuous_laws.proofs.ExistLemmas.{rests-from}
use Rattle.continuous_laws.proofs.PlaceLemmas.{traded-none}
use Rattle.continuous_audit.proofs.RestLemmas.{uncancelled-back, traded-gap}
use Rattle.continuous_audit.proofs.SpreadLemmas.{active-place}
use Rattle.continuous_audit.proofs.RecordLemmas.{quiet-until, no-cause}

-- a finding at the next place is the first offence
pub offence : (orders : List Order) (deals : List Deal) (p : ℕ) (f : Finding) → ConformsAndIsUncrossed orders deals p → finding_at_place orders deals p ≡ Some f → IsContinuousOffence orders deals f
offence orders deals p f calm e = record { place = p; before = calm.conforms; here = e }

-- before the first order
pub calm-first : (orders : List Order) (deals : List Deal) (q : ℕ) → All (NamesOrders orders) deals → ((x : ℕ) → x < length orders → q ≤ place_at orders x) → ConformsAndIsUncrossed orders deals q
calm-first orders deals q named none = record {
  conforms = λ i lt. record {
    conservation = record {
      limits = λ k d inside at. let b = none _ (named k d inside).bid_inside in absurd (omega arith);
      resting = λ k d inside at. let b = none _ (named k d inside).bid_inside in absurd (omega arith);
      within = λ x inside. let far = none x inside in let z = traded-none orders deals (suc i) x (omega arith) in omega arith;
    };
    priority = λ k d inside at. let b = none _ (named k d inside).bid_inside in absurd (omega arith);
    spread = λ b a hb ha sb sa active_b active_a. let far = none b hb in let at = active-place orders deals i b active_b in absurd (omega arith);
  };
  apart = λ b a hb ha sb sa rb ra. let at = (rests-parts orders (traded_before orders deals) q b rb).earlier in let far = none b hb in absurd (omega arith);
}

-- after a record without a finding, up to a place before which no other order comes
module _ (orders : List Order) (list : IsOrderList orders) (deals : List Deal) (named : All (NamesOrders orders) deals) (n : ℕ) (n_inside : n < length orders) where
  abbrev p : ℕ
  p = place_at orders n

  pub here-conforms : ConformsAndIsUncrossed orders deals p → finding_at_place orders deals p ≡ None → ConformsAt orders deals p
  here-conforms calm none = no_fault-conforms orders deals p calm.conforms none

  pub calm-next : (q : ℕ) → suc p ≤ q → ((k : ℕ) → k < length orders → n < k → q ≤ place_at orders k) → ConformsAndIsUncrossed orders deals p → finding_at_place orders deals p ≡ None → IsUncrossedBefore orders (traded_before orders deals) (suc p) → ConformsAndIsUncrossed orders deals q
  calm-next q le next calm none apart = record {
    conforms = λ i lt. elim (cases_lt i p) [
      | inl earlier ↦ calm.conforms i earlier
      | inr later ↦ quiet-until orders list deals named n n_inside q le next (here-conforms calm none) i later lt
    ];
    apart = λ b a hb ha sb sa rb ra. apart b a hb ha sb sa (back b hb rb) (back a ha ra);
  }
    where
      back : (x : ℕ) → x < length orders → rests_before_in_ledger orders (traded_before orders deals) q x ≡ true → rests_before_in_ledger orders (traded_before orders deals) (suc p) x ≡ true
      back x inside t =
          let at = rests-parts orders (traded_before orders deals) q x t in
          let earlier = at.earlier in
          let more = at.has_left in
          let same = traded-gap orders deals (suc p) q x le (no-cause orders list deals named n n_inside q le next) in
          rests-from orders (traded_before orders deals) (suc p) x (record {
            life = at.life;
            earlier = elim (cases_lt n x) [
              | inl later ↦ let far = next x inside later in absurd (omega arith)
              | inr no_later ↦ elim (cases_eq x n) [
                | inl e ↦ let f : place_at orders x ≡ p = ap (place_at orders) e in omega arith
                | inr ne ↦ let up = place-rises orders list x n (omega (arith, ne)) n_inside in omega arith
              ]
            ];
            stands_yet = uncancelled-back _ (suc p) q le at.stands_yet;
            has_left = omega arith;
          })
