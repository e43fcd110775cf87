-- What is kept of an order, beside a table of keys that has its key.
use Rattle.std.specs.Prelude.{ℕ, ◌^◌, ◌&&◌, Bool, true, false, List, Option, None, Some, All, map, nat_lt, if◌then◌else◌}
use Rattle.audit_base.specs.Moments.{Moment, end_of_time}
use Rattle.audit_base.specs.declared.names.Key.{Key}
use Rattle.audit_base.specs.declared.orders.Order.{Order}
use Rattle.order_list.specs.declared.keys.Keys.{Keys}
use Rattle.order_list.specs.declared.keys.KeyNumber.{KeyNumber}
use Rattle.order_list.specs.declared.stored.StoredOrder.{StoredOrder}
use Rattle.order_list.specs.declared.stored.OrderParts.{OrderParts}
use Rattle.order_list.specs.Keys.{key_in, IsNumbered}

-- the number of its key
abbrev pub number_of : StoredOrder → KeyNumber
number_of s = record { index = s.key; is_short = s.is_short }

-- its time; numbers that are no time are read as the first time there is
abbrev pub time_from : ℕ → ℕ → Moment
time_from second nano = if nat_lt second end_of_time && nat_lt nano (10 ^ 9)
    then record { second = second; nano = nano } else record { second = 0; nano = 0 }

-- the place of the record that ends it, if one does
abbrev pub cancelled_from : Bool → ℕ → Option ℕ
cancelled_from true place = Some place
cancelled_from false place = None

-- the target that a number means: 2^32 - 1 is none
abbrev pub target_from : ℕ → Option ℕ
target_from target = if nat_lt target 4294967295 then Some target else None

-- the order that is kept so, with this key
abbrev pub order_of_stored_and_key : Key → StoredOrder → Order
order_of_stored_and_key key s = record {
  place = s.place;
  key = key;
  time = time_from s.second s.nano;
  side = s.side;
  quantity = s.quantity;
  limit = s.limit;
  cancelled = cancelled_from s.is_ended s.cancelled;
  target = target_from s.target;
  life = s.life;
}

-- the order, and the orders, beside a table of keys
abbrev pub order_of : Keys → StoredOrder → Order
order_of keys s = order_of_stored_and_key (key_in keys (number_of s)) s

abbrev pub orders_of : Keys → List StoredOrder → List Order
orders_of keys stored = map (order_of keys) stored

-- the order of these parts, with this key
abbrev pub order_with : Key → OrderParts → Order
order_with key parts = record {
  place = parts.place;
  key = key;
  time = parts.time;
  side = parts.side;
  quantity = parts.quantity;
  limit = parts.limit;
  cancelled = parts.cancelled;
  target = parts.target;
  life = parts.life;
}

-- each key has its number in the table
abbrev pub AreKeysNumbered : Keys → List StoredOrder → Type 0
AreKeysNumbered keys stored = All (λ s. IsNumbered keys (number_of s)) stored
