-- The deals by their incoming orders.
use Rattle.std.specs.Prelude.{◌≡◌, ◌<◌, ◌⊎◌, ℕ, zero, suc, List, [], ◌∷◌, ◌++◌, All, AllPairs, Contains, length, sum_by, take}
use Rattle.std.specs.Ordering.{nat_cmp, ordering_then}
use Rattle.std.specs.declared.cmp.Ordering.{Ordering}
use Rattle.audit_base.specs.declared.orders.Order.{Order}
use Rattle.audit_base.specs.declared.orders.Deal.{Deal}
use Rattle.audit_base.specs.Deals.{deal_at, quantity_traded_by}
use Rattle.audit_base.specs.Continuous.{incoming_order}
use Rattle.continuous_audit.specs.declared.incoming_deals.IncomingDeal.{IncomingDeal}

-- how incoming deals compare: by the order, then by the deal
abbrev pub incoming_deal_cmp : IncomingDeal → IncomingDeal → Ordering
incoming_deal_cmp a b = ordering_then (nat_cmp a.order b.order) (nat_cmp a.deal b.deal)

-- the deal at an index, with its incoming order
abbrev pub incoming_deal_of : List Order → List Deal → ℕ → IncomingDeal
incoming_deal_of orders deals deal =
    record { order = incoming_order orders (deal_at deals deal); deal = deal }

-- the first n deals with their incoming orders, in log order
abbrev pub incoming_deals_below : List Order → List Deal → ℕ → List IncomingDeal
incoming_deals_below orders deals zero = []
incoming_deals_below orders deals (suc n) =
    incoming_deals_below orders deals n ++ incoming_deal_of orders deals n ∷ []

-- the first is before the second: an earlier order, or the same and an earlier deal
abbrev pub IncomingDealBefore : IncomingDeal → IncomingDeal → Type 0
IncomingDealBefore a b = (a.order < b.order) ⊎ ((a.order ≡ b.order) × (a.deal < b.deal))

-- each deal once, with its incoming order, those of earlier orders first
pub record AreIncomingDeals (orders : List Order) (deals : List Deal)
    (incoming_deals : List IncomingDeal) : Type 0 where
  pub only : All (λ c. (c.deal < length deals) × (c ≡ incoming_deal_of orders deals c.deal))
      incoming_deals
  pub each : (deal : ℕ) → deal < length deals
      → Contains incoming_deals (incoming_deal_of orders deals deal)
  pub rising : AllPairs IncomingDealBefore incoming_deals
  pub sums : (f : IncomingDeal → ℕ) → sum_by f incoming_deals
      ≡ sum_by f (incoming_deals_below orders deals (length deals))

-- what an order trades in the first of the incoming deals
abbrev pub running_total : List Deal → List IncomingDeal → ℕ → ℕ → ℕ
running_total deals incoming_deals added order =
    sum_by (λ c. quantity_traded_by order (deal_at deals c.deal)) (take added incoming_deals)
