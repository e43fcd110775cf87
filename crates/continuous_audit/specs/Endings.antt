-- The orders that a record ends, and the books without them.
use Rattle.std.specs.Prelude.{◌≡◌, ◌<◌, ◌≤◌, ℕ, zero, suc, Bool, ◌==◌, ◌&&◌, nat_le, List, [], ◌∷◌, ◌++◌, Option, None, Some, All, AllPairs, Contains, length, slice_index_or, if◌then◌else◌}
use Rattle.std.specs.Ordering.{nat_cmp, ordering_then}
use Rattle.std.specs.declared.cmp.Ordering.{Ordering}
use Rattle.audit_base.specs.declared.orders.Order.{Order}
use Rattle.audit_base.specs.Least.{any_below}
use Rattle.audit_base.specs.Orders.{order_at}
use Rattle.continuous_audit.specs.declared.endings.OrderEnd.{OrderEnd}

-- the order at an index, if a record ends it
abbrev pub ending_at : ℕ → Option ℕ → List OrderEnd
ending_at index None = []
ending_at index (Some place) = record { place = place; index = index } ∷ []

abbrev pub endings_of : ℕ → Order → List OrderEnd
endings_of index order = ending_at index order.cancelled

-- the endings of the first n orders
abbrev pub endings_below : List Order → ℕ → List OrderEnd
endings_below orders zero = []
endings_below orders (suc n) = endings_below orders n ++ endings_of n (order_at orders n)

-- how endings compare
abbrev pub ending_cmp : OrderEnd → OrderEnd → Ordering
ending_cmp a b = ordering_then (nat_cmp a.place b.place) (nat_cmp a.index b.index)

-- a record at this place ends the order at this index
pub record IsEnding (orders : List Order) (e : OrderEnd) : Type 0 where
  pub inside : e.index < length orders
  pub is : (order_at orders e.index).cancelled ≡ Some e.place

-- all endings of the orders, by the places of the records
pub record AreEndings (orders : List Order) (endings : List OrderEnd) : Type 0 where
  pub only : All (IsEnding orders) endings
  pub each : (order place : ℕ) → order < length orders → (order_at orders order).cancelled
      ≡ Some place
      → Contains endings (record { place = place; index = order })
  pub rising : AllPairs (λ a b. a.place ≤ b.place) endings

-- what is given for an ending past the end, and the place and the index of the ending at an index
abbrev pub ending_past_end : OrderEnd
ending_past_end = record { place = 0; index = 0 }

abbrev pub ending_place_at : List OrderEnd → ℕ → ℕ
ending_place_at endings index = (slice_index_or endings index ending_past_end).place

abbrev pub ending_index_at : List OrderEnd → ℕ → ℕ
ending_index_at endings index = (slice_index_or endings index ending_past_end).index

-- of the endings those before an index come before a place
pub record AreEndingsDropped (endings : List OrderEnd) (start place : ℕ) : Type 0 where
  pub inside : start ≤ length endings
  pub early : (i : ℕ) → i < start → i < length endings → ending_place_at endings i < place

-- those from one index on and below another come before a place, and the next one does not
pub record AreEndingsBelow (endings : List OrderEnd) (start end upto : ℕ) : Type 0 where
  pub from : start ≤ end
  pub inside : end ≤ length endings
  pub early : (i : ℕ) → start ≤ i → i < end → ending_place_at endings i < upto
  pub next : end < length endings → upto ≤ ending_place_at endings end

-- the order is one of those from an index on and below another
abbrev pub is_ended_between : List OrderEnd → ℕ → ℕ → ℕ → Bool
is_ended_between endings from end order =
    any_below (λ i. nat_le from i && (ending_index_at endings i == order)) end

-- nothing of these, and of others what there is
abbrev pub amount_without : List OrderEnd → ℕ → ℕ → (ℕ → ℕ) → ℕ → ℕ
amount_without endings from end amount order =
    if is_ended_between endings from end order then 0 else amount order
