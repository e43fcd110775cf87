-- The four rules of a call, in which all orders meet at once.
-- Only the orders that no record cancels take part.
use Rattle.std.specs.Prelude.{◌≡◌, ◌<◌, ◌≤◌, ℕ, List, All, EachIndex}
use Rattle.audit_base.specs.declared.terms.Side.{Side}
use Rattle.audit_base.specs.declared.terms.Side.TheVariants.{Buy, Sell}
use Rattle.audit_base.specs.declared.orders.Order.{Order}
use Rattle.audit_base.specs.declared.orders.Deal.{Deal}
use Rattle.audit_base.specs.Orders.{quantity_at, IsUncancelledOn}
use Rattle.audit_base.specs.Priority.{Better}
use Rattle.audit_base.specs.Deals.{traded, volume, KeepsLimits, DealsInRange}

-- a deal between a bid and an ask that no record cancels, which keeps their limits
pub record IsMatchingDeal (orders : List Order) (d : Deal) : Type 0 where
  pub bid_stands : IsUncancelledOn orders Buy d.bid
  pub ask_stands : IsUncancelledOn orders Sell d.ask
  pub limits : KeepsLimits orders d

-- Matching: each deal is such a deal, and no order trades more than its quantity
pub record Matching (orders : List Order) (deals : List Deal) : Type 0 where
  pub kept : All (IsMatchingDeal orders) deals
  pub within : EachIndex orders (λ order. traded deals order ≤ quantity_at orders order)

-- Fair: of the orders of a side that no record cancels, each that is better than one that trades is
-- fully traded
pub record Fair (orders : List Order) (deals : List Deal) : Type 0 where
  pub fills : (side : Side) (order other : ℕ) → IsUncancelledOn orders side order
      → IsUncancelledOn orders side other → Better orders order other → 0 < traded deals other
      → traded deals order ≡ quantity_at orders order

-- OnePrice: there is a price that every deal has. A list with no deals has one price
pub record OnePrice (deals : List Deal) : Type 0 where
  pub price : ℕ
  pub each : All (λ d. d.price ≡ price) deals

-- Greatest: no matching has a greater volume
abbrev pub Greatest : List Order → List Deal → Type 0
Greatest orders deals = (others : List Deal) → DealsInRange others → Matching orders others
    → volume others ≤ volume deals

-- GreatestUniform: no matching of one price has a greater volume
abbrev pub GreatestUniform : List Order → List Deal → Type 0
GreatestUniform orders deals = (others : List Deal) → DealsInRange others → Matching orders others
    → OnePrice others → volume others ≤ volume deals

-- a volume that some matching has, and none exceeds
pub record IsGreatestVolume (orders : List Order) (v : ℕ) : Type 0 where
  pub deals : List Deal
  pub ranges : DealsInRange deals
  pub matching : Matching orders deals
  pub greatest : Greatest orders deals
  pub reached : volume deals ≡ v

-- the same of the matchings of one price
pub record IsGreatestUniformVolume (orders : List Order) (v : ℕ) : Type 0 where
  pub deals : List Deal
  pub ranges : DealsInRange deals
  pub matching : Matching orders deals
  pub one_price : OnePrice deals
  pub greatest : GreatestUniform orders deals
  pub reached : volume deals ≡ v

-- the rule `fair`: a fair matching
pub record ConformsFair (orders : List Order) (deals : List Deal) : Type 0 where
  pub matching : Matching orders deals
  pub fair : Fair orders deals

-- the rule `uniform`: a fair matching of one price, and none of one price has a greater volume
pub record ConformsUniform (orders : List Order) (deals : List Deal) : Type 0 where
  pub matching : Matching orders deals
  pub fair : Fair orders deals
  pub one_price : OnePrice deals
  pub greatest : GreatestUniform orders deals

-- the rule `maximum`: a fair matching, and none has a greater volume
pub record ConformsMaximum (orders : List Order) (deals : List Deal) : Type 0 where
  pub matching : Matching orders deals
  pub fair : Fair orders deals
  pub greatest : Greatest orders deals
