-- Where the deals of an order end.
use Rattle.std.proofs.Common.{◌≡◌, ◌≢◌, ◌<◌, ◌≤◌, ℕ, suc, List, length, ap, arith, inl, inr}
use Rattle.std.proofs.lemmas.Bool.{cases_eq, cases_lt}
use Rattle.audit_base.specs.declared.orders.Order.{Order}
use Rattle.audit_base.specs.declared.orders.Deal.{Deal}
use Rattle.continuous_audit.specs.declared.incoming_deals.IncomingDeal.{IncomingDeal}
use Rattle.continuous_audit.specs.IncomingDeals.{AreIncomingDeals}
use Rattle.continuous_audit.specs.Scans.{IsSplitAt, incoming_deal_past_end, incoming_order_at}

-- where all deals of the order have been looked at, those before an index are those of the orders up to it
pub split-next : (orders : List Order) (deals : List Deal) (incoming_deals : List IncomingDeal) → AreIncomingDeals orders deals incoming_deals → (n start at : ℕ) → IsSplitAt incoming_deals n start → start ≤ at → ((i : ℕ) → start ≤ i → i < at → incoming_order_at incoming_deals i ≡ n) → (at < length incoming_deals → incoming_order_at incoming_deals at ≢ n) → IsSplitAt incoming_deals (suc n) at
split-next orders deals incoming_deals are n start at split from own stop = record {
  early = λ i lt inside. elim (cases_lt i start) [
    | inl before ↦ let less = split.early i before inside in omega arith
    | inr later ↦ let same = own i later lt in omega arith
  ];
  late = λ i le inside.
      let here : at < length incoming_deals = omega arith in
      let low = split.late at from here in
      let more : suc n ≤ incoming_order_at incoming_deals at = omega (arith, stop here) in
      elim (cases_eq i at) [
        | inl e ↦ let same = ap (incoming_order_at incoming_deals) e in omega arith
        | inr ne ↦ elim (are.rising at i incoming_deal_past_end (omega (arith, ne)) inside) [
          | inl less ↦ omega arith
          | inr tie ↦ let same = tie.0 in omega arith
        ]
      ];
}
