-- The greatest volumes of a call, and the trades that reach them, as statements.
use Rattle.std.specs.Prelude.{◌≡◌, ◌≤◌, ℕ, List, All}
use Rattle.audit_base.specs.Numbers.{IsPrice, price_end}
use Rattle.audit_base.specs.declared.orders.Order.{Order}
use Rattle.audit_base.specs.declared.orders.Deal.{Deal}
use Rattle.audit_base.specs.declared.orders.Cut.{Cut}
use Rattle.audit_base.specs.declared.terms.VolumeRule.TheVariants as of_volume
use Rattle.audit_base.specs.Orders.{IsOrderList, OrdersInRange}
use Rattle.audit_base.specs.Deals.{volume, DealsInRange}
use Rattle.audit_base.specs.Calls.{Matching, ConformsUniform, ConformsMaximum, IsGreatestVolume, IsGreatestUniformVolume}
use Rattle.audit_base.specs.Bounds.{demand, supply, executable_volume, IsLeastCut, IsGreatestExecutableVolume, IsBoundPrice}
use Rattle.audit_base.specs.Expected.{uniform_deals, IsExpectedUniform, maximum_deals, IsExpectedMaximum}

-- a matching whose deals all have the price p has at most the executable volume at p
abbrev pub OnePriceIsBounded : Type 0
OnePriceIsBounded = (orders : List Order) (deals : List Deal) (p : ℕ)
    → Matching orders deals → All (λ d. d.price ≡ p) deals
    → volume deals ≤ executable_volume orders p

-- where the executable volume is greatest, the pairs of units conform to `uniform` and reach it
abbrev pub UniformOptimum : Type 0
UniformOptimum = (orders : List Order) (c : Cut)
    → IsOrderList orders → OrdersInRange orders → IsGreatestExecutableVolume orders c
    → ConformsUniform orders (uniform_deals orders c.volume c.price)
    × (volume (uniform_deals orders c.volume c.price) ≡ c.volume)
    × DealsInRange (uniform_deals orders c.volume c.price)

-- so these pairs are the Expected trades, this volume is the greatest of a matching of one
-- price, and the price its bound
abbrev pub UniformTradesAreExpected : Type 0
UniformTradesAreExpected = (orders : List Order) (c : Cut)
    → IsOrderList orders → OrdersInRange orders → IsGreatestExecutableVolume orders c
    → IsExpectedUniform orders (uniform_deals orders c.volume c.price)
    × IsGreatestUniformVolume orders c.volume
    × IsBoundPrice of_volume.Uniform orders c.volume c.price

-- the pairs of units conform to `maximum` and reach the least cut
abbrev pub MaximumReachesLeastCut : Type 0
MaximumReachesLeastCut = (orders : List Order) (c : Cut)
    → IsOrderList orders → OrdersInRange orders → IsLeastCut orders c
    → ConformsMaximum orders (maximum_deals orders c.volume)
    × (volume (maximum_deals orders c.volume) ≡ c.volume)
    × DealsInRange (maximum_deals orders c.volume)

-- so these pairs are the Expected trades, this volume is the greatest
-- of a matching, and the price its bound
abbrev pub MaximumTradesAreExpected : Type 0
MaximumTradesAreExpected = (orders : List Order) (c : Cut)
    → IsOrderList orders → OrdersInRange orders → IsLeastCut orders c
    → IsExpectedMaximum orders (maximum_deals orders c.volume)
    × IsGreatestVolume orders c.volume × IsBoundPrice of_volume.Maximum orders c.volume c.price

-- under `uniform` both sides have units enough for the greatest volume,
-- and its bound is below 10^18
abbrev pub UniformUnitsSuffice : Type 0
UniformUnitsSuffice =
    (orders : List Order) (c : Cut) → OrdersInRange orders → IsGreatestExecutableVolume orders c
    → (c.volume ≤ demand orders 0) × (c.volume ≤ supply orders price_end) × (IsPrice c.price)

-- under `maximum` both sides have units enough for the least cut
abbrev pub MaximumUnitsSuffice : Type 0
MaximumUnitsSuffice = (orders : List Order) (c : Cut) → OrdersInRange orders → IsLeastCut orders c
    → (c.volume ≤ demand orders 0) × (c.volume ≤ supply orders price_end)
