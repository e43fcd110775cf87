-- Demand, supply and cut at a price, and the price that shows how great a volume can be.
use Rattle.std.specs.Prelude.{◌≡◌, ◌≤◌, ℕ, ◌+◌, min, ◌&&◌, nat_lt, nat_le, List, sum_by, if◌then◌else◌}
use Rattle.audit_base.specs.declared.terms.Side.TheVariants.{Buy, Sell}
use Rattle.audit_base.specs.declared.orders.Order.{Order}
use Rattle.audit_base.specs.declared.orders.Cut.{Cut}
use Rattle.audit_base.specs.declared.terms.VolumeRule.{VolumeRule}
use Rattle.audit_base.specs.declared.terms.VolumeRule.TheVariants as of_volume
use Rattle.audit_base.specs.Least.{IsLeast}
use Rattle.audit_base.specs.Orders.{is_uncancelled_on}
use Rattle.audit_base.specs.Numbers.{price_end}

-- what an order asks for at a price, if it is a bid that no record cancels
abbrev pub demand_of_order : ℕ → Order → ℕ
demand_of_order price o = if is_uncancelled_on Buy o && nat_le price o.limit then o.quantity else 0

-- what an order offers at a price, if it is an ask that no record cancels
abbrev pub supply_of_order : ℕ → Order → ℕ
supply_of_order price o = if is_uncancelled_on Sell o && nat_le o.limit price then o.quantity else 0

-- what an order offers below a price, if it is an ask that no record cancels
abbrev pub supply_below_of_order : ℕ → Order → ℕ
supply_below_of_order price o =
    if is_uncancelled_on Sell o && nat_lt o.limit price then o.quantity else 0

-- Demand: the quantity of the bids with limit at least the price
abbrev pub demand : List Order → ℕ → ℕ
demand orders price = sum_by (demand_of_order price) orders

-- Supply: the quantity of the asks with limit at most the price
abbrev pub supply : List Order → ℕ → ℕ
supply orders price = sum_by (supply_of_order price) orders

-- the quantity of the asks with limit below the price
abbrev pub supply_below : List Order → ℕ → ℕ
supply_below orders price = sum_by (supply_below_of_order price) orders

-- Cut: the demand at a price, and the quantity of the asks with limit below it
abbrev pub cut : List Order → ℕ → ℕ
cut orders price = demand orders price + supply_below orders price

-- executable volume: the smaller of demand and supply, which is what can trade at this one price
abbrev pub executable_volume : List Order → ℕ → ℕ
executable_volume orders price = min (demand orders price) (supply orders price)

-- the least cut over all prices from 0 to 10^18, and the least price that reaches it
pub record IsLeastCut (orders : List Order) (c : Cut) : Type 0 where
  pub reached : IsLeast (λ price. (price ≤ price_end) × (cut orders price ≡ c.volume)) c.price
  pub least : (price : ℕ) → price ≤ price_end → c.volume ≤ cut orders price

-- the greatest executable volume over these prices, and the least price that reaches it
pub record IsGreatestExecutableVolume (orders : List Order) (c : Cut) : Type 0 where
  pub reached : IsLeast (λ price. (price ≤ price_end)
      × (executable_volume orders price ≡ c.volume)) c.price
  pub greatest : (price : ℕ) → price ≤ price_end → executable_volume orders price ≤ c.volume

-- Bound: the least price from 0 to 10^18 at which the volume is the cut
-- (under `uniform`, the executable volume)
abbrev pub IsBoundPrice : VolumeRule → List Order → ℕ → ℕ → Type 0
IsBoundPrice of_volume.Maximum orders volume bound =
    IsLeast (λ price. (price ≤ price_end) × (cut orders price ≡ volume)) bound
IsBoundPrice of_volume.Uniform orders volume bound =
    IsLeast (λ price. (price ≤ price_end) × (executable_volume orders price ≡ volume)) bound
