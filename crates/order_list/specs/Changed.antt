-- Orders of a list, with other terms, in a list of their own.
use Rattle.std.specs.Prelude.{List, ◌∷◌, [], ◌++◌, ℕ, Option, Some}
use Rattle.std.specs.Option.{option_or}
use Rattle.audit_base.specs.declared.orders.Order.{Order}

-- the list that the orders are of, and the orders as they are in their own list
pub record ChangedList : Type 0 where
  pub source : List Order
  pub orders : List Order

-- an order with this quantity, this place of the record that ends it and this target
abbrev pub with_terms : ℕ → Option ℕ → Option ℕ → Order → Order
with_terms quantity cancelled target o =
    record o { quantity = quantity; cancelled = cancelled; target = target }

-- an order that a record at a place ends, unless an earlier one did
abbrev pub with_ending : ℕ → Order → Order
with_ending place o = record o { cancelled = option_or o.cancelled (Some place) }

-- the changed orders with one order more
abbrev pub with_changed_order : Order → ChangedList → ChangedList
with_changed_order o changed = record changed { orders = changed.orders ++ o ∷ [] }
