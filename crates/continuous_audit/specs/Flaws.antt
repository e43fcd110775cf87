-- What breaks the rule at the record of an order, with the numbers that are shown there, as a flaw.
use Rattle.std.specs.Prelude.{◌≡◌, ◌<◌, ◌+◌, ◌^◌, ℕ, List, Option, Some, IfSome, length, option_map}
use Rattle.audit_base.specs.declared.terms.Side.{Side}
use Rattle.audit_base.specs.declared.terms.Side.TheVariants.{Buy, Sell}
use Rattle.audit_base.specs.declared.orders.Order.{Order}
use Rattle.audit_base.specs.declared.orders.Deal.{Deal}
use Rattle.audit_base.specs.declared.findings.Finding.{Finding}
use Rattle.audit_base.specs.declared.flaws.TradedOrder.{TradedOrder}
use Rattle.audit_base.specs.declared.flaws.Evidence.{Evidence}
use Rattle.audit_base.specs.declared.flaws.Evidence.TheVariants.{Priority, Spread}
use Rattle.audit_base.specs.declared.flaws.Flaw.{Flaw}
use Rattle.audit_base.specs.Orders.{place_at, side_at}
use Rattle.audit_base.specs.Continuous.{resting_order}
use Rattle.audit_base.specs.ContinuousOffences.{finding_at_place, traded_shown_after}
use Rattle.audit_base.specs.Flaws.{IsEvidenceInside, finding_of}
use Rattle.audit_base.specs.Deals.{number_at}
use Rattle.continuous_audit.specs.declared.indexed_deals.IndexedDeals.{IndexedDeals}
use Rattle.continuous_audit.specs.declared.dealing_state.DealingState.{DealingState}

-- the number that is shown with an order: what it has traded, and its Before added
abbrev pub shown_number : DealingState → ℕ → ℕ
shown_number numbers order = number_at numbers.running.traded.items order
    + number_at numbers.order_numbers.chain_traded.items order

-- the two numbers are there for the order, and their sum fits 128 bits
pub record HasShownNumber (numbers : DealingState) (order : ℕ) : Type 0 where
  pub traded_inside : order < length numbers.running.traded.items
  pub chain_traded_inside : order < length numbers.order_numbers.chain_traded.items
  pub fits : shown_number numbers order < 2 ^ 128

-- an order with the number that is shown with it
abbrev pub order_with_shown : (ℕ → ℕ) → ℕ → TradedOrder
order_with_shown shown order = record { index = order; traded = shown order }

-- the flaw of a deal that passes over the order at an index
abbrev pub priority_flaw : List Order → (ℕ → ℕ) → Deal → ℕ → Flaw
priority_flaw orders shown deal over = record {
  place = deal.place;
  evidence = Priority (side_at orders (resting_order orders deal)) (order_with_shown shown over)
      (order_with_shown shown (resting_order orders deal));
}

-- the evidence that an order of a side and another one meet
abbrev pub spread_evidence : Side → TradedOrder → TradedOrder → Evidence
spread_evidence Buy own other = Spread own other
spread_evidence Sell own other = Spread other own

-- the flaw of an order that meets another one at its own record
abbrev pub spread_flaw : List Order → (ℕ → ℕ) → ℕ → ℕ → Flaw
spread_flaw orders shown order other = record {
  place = place_at orders order;
  evidence = spread_evidence (side_at orders order)
      (order_with_shown shown order) (order_with_shown shown other);
}

-- the flaw of the spread, with what the orders have traded after the deals of the record
abbrev pub spread_flaw_after : List Order → List Deal → ℕ → ℕ → Flaw
spread_flaw_after orders deals order =
    spread_flaw orders (traded_shown_after orders deals (place_at orders order)) order

-- the finding is that of the flaw, whose orders are in the list; there is none
-- where there is no flaw
pub record IsFindingOfFlaw (orders : List Order) (flaw : Option Flaw) (finding : Option Finding)
    : Type 0 where
  pub inside : IfSome flaw (λ f. IsEvidenceInside orders f.evidence)
  pub same : finding ≡ option_map (finding_of orders) flaw

-- the finding at the record of an order is that of this flaw
abbrev pub IsFlawAt : IndexedDeals → ℕ → Flaw → Type 0
IsFlawAt m order flaw = IsFindingOfFlaw m.orders.now (Some flaw)
    (finding_at_place m.orders.now m.deals.now (place_at m.orders.now order))
