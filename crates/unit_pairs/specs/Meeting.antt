-- The pairs that two lists of lots make where their units meet in order.
use Rattle.std.specs.Prelude.{◌≡◌, ◌<◌, ◌≤◌, ◌+◌, ◌-◌, ◌^◌, ◌⊎◌, ℕ, min, max, List, All, Contains, length, map}
use Rattle.audit_base.specs.Numbers.{greatest_quantity}
use Rattle.unit_pairs.specs.declared.lots.Lot.{Lot}
use Rattle.unit_pairs.specs.declared.meeting.UnitPair.{UnitPair}
use Rattle.unit_pairs.specs.declared.meeting.Progress.{Progress}
use Rattle.unit_pairs.specs.Lots.{lot_at, lots_before, lots_total, AreLots}

-- the lots of two sides that meet: of one volume, and few enough that their pairs can be numbered
pub record AreLotSides (bids asks : List Lot) : Type 0 where
  pub bids_are : AreLots bids
  pub asks_are : AreLots asks
  pub same_volume : lots_total bids ≡ lots_total asks
  pub fits_indices : length bids + length asks < 2 ^ 32

-- how many units come before the first that the bid lot at k and the ask lot at l
-- could have in common
abbrev pub overlap_from : List Lot → List Lot → ℕ → ℕ → ℕ
overlap_from bids asks k l = max (lots_before bids k) (lots_before asks l)

-- how many they have in common, where unit n of the bids meets unit n of the asks
abbrev pub overlap : List Lot → List Lot → ℕ → ℕ → ℕ
overlap bids asks k l =
    min (lots_before bids (k + 1)) (lots_before asks (l + 1)) - overlap_from bids asks k l

-- the bid and the ask of a pair
abbrev pub unit_pair_orders : UnitPair → ℕ × ℕ
unit_pair_orders p = (p.bid, p.ask)

-- a pair of a bid lot and an ask lot that have units in common, with their number
pub record IsUnitPair (bids asks : List Lot) (p : UnitPair) : Type 0 where
  pub bid_lot : ℕ
  pub ask_lot : ℕ
  pub bid_inside : bid_lot < length bids
  pub ask_inside : ask_lot < length asks
  pub bid_is : p.bid ≡ (lot_at bids bid_lot).order
  pub ask_is : p.ask ≡ (lot_at asks ask_lot).order
  pub positive : 0 < p.quantity
  pub bounded : p.quantity ≤ greatest_quantity
  pub is : p.quantity ≡ overlap bids asks bid_lot ask_lot

-- each pair is of two lots that have units in common, and each two such lots are a pair
pub record AreUnitPairs (bids asks : List Lot) (pairs : List UnitPair) : Type 0 where
  pub each : All (IsUnitPair bids asks) pairs
  pub complete : (k l : ℕ) → k < length bids → l < length asks → 0 < overlap bids asks k l
      → Contains (map unit_pair_orders pairs) ((lot_at bids k).order, (lot_at asks l).order)

-- a pair is before another: by the bid, and then by the ask
abbrev pub UnitPairBefore : UnitPair → UnitPair → Type 0
UnitPairBefore p q = (p.bid < q.bid) ⊎ ((p.bid ≡ q.bid) × (p.ask < q.ask))

-- two pairs differ in the bid or in the ask
abbrev pub UnitPairsDiffer : UnitPair → UnitPair → Type 0
UnitPairsDiffer p q = (p.bid ≡ q.bid) → (p.ask ≡ q.ask) → ⊥

-- how many units of a side have met
abbrev pub units_met : List Lot → Progress → ℕ
units_met lots p = lots_before lots p.lot + p.met

-- some of the next lot has not met yet, unless all lots have
pub record IsProgress (lots : List Lot) (p : Progress) : Type 0 where
  pub inside : p.lot ≤ length lots
  pub within : p.lot < length lots → p.met < (lot_at lots p.lot).quantity
