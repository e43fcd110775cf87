-- Lots: what the orders of a side trade of a volume, in rank order.
use Rattle.std.specs.Prelude.{◌≡◌, ◌<◌, ◌≤◌, ◌-◌, ℕ, min, List, All, AllPairs, EachIndex, ◌≢◌, length, take, sum_by, slice_index, slice_index_or}
use Rattle.audit_base.specs.Numbers.{greatest_quantity}
use Rattle.audit_base.specs.declared.orders.Order.{Order}
use Rattle.audit_base.specs.Orders.{quantity_at}
use Rattle.unit_pairs.specs.declared.lots.Lot.{Lot}

-- what is given past the end of a list of lots, and the lot at an index
abbrev pub lot_past_end : Lot
lot_past_end = record { order = 0; quantity = 0 }

abbrev pub lot_at : List Lot → ℕ → Lot
lot_at lots k = slice_index_or lots k lot_past_end

-- the quantity of the first n lots
abbrev pub lots_before : List Lot → ℕ → ℕ
lots_before lots n = sum_by (λ l. l.quantity) (take n lots)

-- the quantity of all lots
abbrev pub lots_total : List Lot → ℕ
lots_total lots = sum_by (λ l. l.quantity) lots

-- the quantity of the first n of these orders
abbrev pub rank_quantity_before : List Order → List ℕ → ℕ → ℕ
rank_quantity_before orders ranks n = sum_by (quantity_at orders) (take n ranks)

-- what the order at a rank trades of a volume: what the better ones leave of it, up to its quantity
abbrev pub lot_of : List Order → List ℕ → ℕ → ℕ → Lot
lot_of orders ranks volume k = record {
  order = slice_index ranks k;
  quantity = min (quantity_at orders (slice_index ranks k))
      (volume - rank_quantity_before orders ranks k);
}

-- what the quantity of a lot may be: 1 to 10^12
pub record IsLot (l : Lot) : Type 0 where
  pub positive : 0 < l.quantity
  pub bounded : l.quantity ≤ greatest_quantity

-- each lot has a quantity that a lot may have, and no two are of one order
pub record AreLots (lots : List Lot) : Type 0 where
  pub each : All IsLot lots
  pub apart : AllPairs (λ l m. l.order ≢ m.order) lots

-- the lots are those of the first of these orders
pub record AreLotsOf (orders : List Order) (ranks : List ℕ) (volume : ℕ)
    (lots : List Lot) : Type 0 where
  pub bounded : length lots ≤ length ranks
  pub each : All IsLot lots
  pub first : EachIndex lots (λ k. lot_at lots k ≡ lot_of orders ranks volume k)
