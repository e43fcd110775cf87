-- The history of a symbol, when it is well-formed, and its order list.
use Rattle.std.specs.Prelude.{◌≡◌, ⊤, ◌<◌, ◌≤◌, ℕ, zero, suc, Bool, true, false, ◌&&◌, not, List, [], ◌∷◌, Option, None, Some, is_some, is_none, option_map, filter, filter_map, count_by, take, length, slice_index_or, if◌then◌else◌}
use Rattle.std.specs.List.{enumerate_from}
use Rattle.audit_base.specs.Moments.{Moment, is_before}
use Rattle.audit_base.specs.declared.names.Key.{Key}
use Rattle.audit_base.specs.declared.terms.Side.{Side}
use Rattle.audit_base.specs.declared.terms.Which.TheVariants as which
use Rattle.audit_base.specs.declared.terms.Life.{Life}
use Rattle.audit_base.specs.declared.terms.Life.TheVariants.{Rests}
use Rattle.audit_base.specs.declared.records.OrderRecord.{OrderRecord}
use Rattle.audit_base.specs.declared.records.OrderRecord.TheVariants.{New, Cancel, Replace}
use Rattle.audit_base.specs.declared.orders.Order.{Order}
use Rattle.audit_base.specs.declared.findings.Property.TheVariants as property
use Rattle.audit_base.specs.declared.findings.Finding.{Finding}
use Rattle.audit_base.specs.Least.{least_answer, least_with, any_below, first_answer, only_if}
use Rattle.audit_base.specs.Orders.{same_name, same_key, same_side, order_at, place_at, side_at, may_rest, order_past_end, HasMarketPriceIfMarket}
use Rattle.audit_base.specs.Shows.{finding_at_record, show_place}

-- What one record says.

-- its key, its time and its symbol
abbrev pub key_of : OrderRecord → Key
key_of (New key time symbol side quantity price life) = key
key_of (Cancel key time symbol target) = key
key_of (Replace key time symbol target side quantity price) = key

abbrev pub time_of : OrderRecord → Moment
time_of (New key time symbol side quantity price life) = time
time_of (Cancel key time symbol target) = time
time_of (Replace key time symbol target side quantity price) = time

abbrev pub symbol_of : OrderRecord → List ℕ
symbol_of (New key time symbol side quantity price life) = symbol
symbol_of (Cancel key time symbol target) = symbol
symbol_of (Replace key time symbol target side quantity price) = symbol

-- the key that a cancel or a replacement names: its own firm, and the target's id
abbrev pub target_key : OrderRecord → Option Key
target_key (New key time symbol side quantity price life) = None
target_key (Cancel key time symbol target) = Some (record { firm = key.firm; id = target })
target_key (Replace key time symbol target side quantity price) =
    Some (record { firm = key.firm; id = target })

-- a new order or a replacement
abbrev pub is_order : OrderRecord → Bool
is_order (New key time symbol side quantity price life) = true
is_order (Cancel key time symbol target) = false
is_order (Replace key time symbol target side quantity price) = true

-- a record ends its target: a cancel or a replacement that names this key
abbrev pub ends_order : Key → OrderRecord → Bool
ends_order key (New own time symbol side quantity price life) = false
ends_order key (Cancel own time symbol target) =
    same_key (record { firm = own.firm; id = target }) key
ends_order key (Replace own time symbol target side quantity price) =
    same_key (record { firm = own.firm; id = target }) key

-- the side of a new order or a replacement
abbrev pub side_of : OrderRecord → Option Side
side_of (New key time symbol side quantity price life) = Some side
side_of (Cancel key time symbol target) = None
side_of (Replace key time symbol target side quantity price) = Some side

-- the life of the record's order: a replacement rests
abbrev pub life_of : OrderRecord → Life
life_of (New key time symbol side quantity price life) = life
life_of (Cancel key time symbol target) = Rests
life_of (Replace key time symbol target side quantity price) = Rests

-- a new order of life Market has the market price of its side; no other record is of that life
abbrev pub HasMarketPrice : OrderRecord → Type 0
HasMarketPrice (New key time symbol side quantity price life) =
    HasMarketPriceIfMarket life side price
HasMarketPrice (Cancel key time symbol target) = ⊤
HasMarketPrice (Replace key time symbol target side quantity price) = ⊤

-- the side that a record has, if it has one, is that of its target
abbrev pub fits_side : Option Side → Option Side → Bool
fits_side None target = true
fits_side (Some side) None = false
fits_side (Some side) (Some target) = same_side side target

-- The history of a symbol: its order records, each with its place in the log,
-- from 1 over all symbols.

abbrev pub history : List ℕ → List OrderRecord → List (ℕ × OrderRecord)
history symbol entries = filter (λ e. same_name (symbol_of e.1) symbol) (enumerate_from 1 entries)

-- what is read past the end of a history
abbrev pub entry_past_end : ℕ × OrderRecord
entry_past_end = (0, Cancel order_past_end.key order_past_end.time [] [])

-- the record at an index of the history, its place in the log, and its key
abbrev pub history_entry : List (ℕ × OrderRecord) → ℕ → OrderRecord
history_entry records k = (slice_index_or records k entry_past_end).1

abbrev pub history_entry_place : List (ℕ × OrderRecord) → ℕ → ℕ
history_entry_place records k = (slice_index_or records k entry_past_end).0

abbrev pub key_at : List (ℕ × OrderRecord) → ℕ → Key
key_at records k = key_of (history_entry records k)

-- Findings 1 to 3.

-- the earlier record that has the key of the one at k
abbrev pub earlier_entry_with_key : List (ℕ × OrderRecord) → ℕ → Option ℕ
earlier_entry_with_key records k =
    least_with (λ j. same_key (key_at records j) (key_at records k)) k

-- the earlier order that the record at k may name as its target
abbrev pub target_of : List (ℕ × OrderRecord) → ℕ → Option ℕ
target_of records k =
    least_with (λ j. is_order (history_entry records j)
    && ends_order (key_at records j) (history_entry records k)
    && fits_side (side_of (history_entry records k)) (side_of (history_entry records j))) k

-- finding 1: the key is that of an earlier record, cancels and replacements included
abbrev pub duplicate_id_finding : List (ℕ × OrderRecord) → ℕ → Option Finding
duplicate_id_finding records k =
    option_map (λ j. finding_at_record property.DuplicateId which.Orders
    (history_entry_place records k)
    (show_place which.Orders (history_entry_place records j)) None)
    (earlier_entry_with_key records k)

-- finding 2: the time is earlier than that of the history's record before it
abbrev pub time_back_finding : List (ℕ × OrderRecord) → ℕ → Option Finding
time_back_finding records zero = None
time_back_finding records (suc j) =
    only_if (is_before (time_of (history_entry records (suc j)))
    (time_of (history_entry records j)))
    (finding_at_record property.TimeBack which.Orders (history_entry_place records (suc j))
    (show_place which.Orders (history_entry_place records j)) None)

-- finding 3: a cancel's target is no earlier order of its firm,
-- or a replacement's is none of its firm and side
abbrev pub unknown_target_finding : List (ℕ × OrderRecord) → ℕ → Option Finding
unknown_target_finding records k =
    only_if (is_some (target_key (history_entry records k)) && is_none (target_of records k))
    (finding_at_record property.UnknownTarget which.Orders
    (history_entry_place records k) None None)

-- the first of the three at the record at k
abbrev pub entry_finding : List (ℕ × OrderRecord) → ℕ → Option Finding
entry_finding records k =
    first_answer (duplicate_id_finding records k ∷ time_back_finding records k
    ∷ unknown_target_finding records k ∷ [])

-- the finding at the least place of the history that has one
abbrev pub history_finding : List ℕ → List OrderRecord → Option Finding
history_finding symbol entries =
    least_answer (entry_finding (history symbol entries)) (length (history symbol entries))

-- WellFormed: no record of the history has one of the three
abbrev pub WellFormed : List ℕ → List OrderRecord → Type 0
WellFormed symbol entries = history_finding symbol entries ≡ None

-- The order list.

-- the target of a replacement; a new order and a cancel replace nothing
abbrev pub replaced_order_at : List (ℕ × OrderRecord) → ℕ → Option ℕ
replaced_order_at records k =
    if is_order (history_entry records k) then target_of records k else None

-- a record before k ends the order at t
abbrev pub is_ended_before : List (ℕ × OrderRecord) → ℕ → ℕ → Bool
is_ended_before records k t =
    any_below (λ j. ends_order (key_at records t) (history_entry records j)) k

-- placed: a new order always, a replacement where its target is placed and no record before it ends
-- the target. Targets are earlier, so at most n steps lead back from the record at an index below n
abbrev pub is_placed_within : ℕ → List (ℕ × OrderRecord) → ℕ → Option ℕ → Bool
is_placed_within zero records k target = false
is_placed_within (suc n) records k None = true
is_placed_within (suc n) records k (Some t) =
    not (is_ended_before records k t) && is_placed_within n records t (replaced_order_at records t)

-- the record at k is placed; k + 1 steps are enough to go back over all its targets
abbrev pub is_placed : List (ℕ × OrderRecord) → ℕ → Bool
is_placed records k = is_placed_within (suc k) records k (replaced_order_at records k)

-- `cancelled`: of a replacement that is not placed its own place, of every other order the least
-- place of a record that ends it
abbrev pub cancelled_of : List (ℕ × OrderRecord) → ℕ → Option ℕ
cancelled_of records k = if is_placed records k
    then option_map (history_entry_place records)
    (least_with (λ j. ends_order (key_at records k) (history_entry records j)) (length records))
    else Some (history_entry_place records k)

-- how many orders come before the record at k: the index that it has in the order list
abbrev pub order_index : List (ℕ × OrderRecord) → ℕ → ℕ
order_index records k = count_by (λ e. is_order e.1) (take k records)

-- the order of the record at k
abbrev pub order_of_entry : List (ℕ × OrderRecord) → ℕ × ℕ × OrderRecord → Option Order
order_of_entry records (k, place, New key time symbol side quantity price life) =
    Some (record {
      place = place;
      key = key;
      time = time;
      side = side;
      quantity = quantity;
      limit = price;
      cancelled = cancelled_of records k;
      target = None;
      life = life;
    })
order_of_entry records (k, place, Replace key time symbol target side quantity price) =
    Some (record {
      place = place;
      key = key;
      time = time;
      side = side;
      quantity = quantity;
      limit = price;
      cancelled = cancelled_of records k;
      target = option_map (order_index records) (replaced_order_at records k);
      life = Rests;
    })
order_of_entry records (k, place, Cancel key time symbol target) = None

-- the new orders and replacements of the history, in log order
abbrev pub order_list : List ℕ → List OrderRecord → List Order
order_list symbol entries = let records = history symbol entries in
    filter_map (λ e. order_of_entry records (e.0, e.1.0, e.1.1)) (enumerate_from 0 records)

-- Regular: no `cancelled` is below the order's own place or is the place of an order of the other
-- side, and each target has a `cancelled` that is at most the place of the order that names it
pub record Regular (orders : List Order) : Type 0 where
  pub own : (order place : ℕ) → order < length orders
      → (order_at orders order).cancelled ≡ Some place
      → place_at orders order ≤ place
  pub same_sides : (order other : ℕ) → order < length orders → other < length orders
      → (order_at orders order).cancelled ≡ Some (place_at orders other)
      → side_at orders other ≡ side_at orders order
  pub targets : (order target : ℕ) → order < length orders
      → (order_at orders order).target ≡ Some target
      → (place : ℕ) × ((order_at orders target).cancelled ≡ Some place)
      × (place ≤ place_at orders order)

-- finding 16: the least order of the history whose life is not Rests
abbrev pub instant_order_finding : List Order → Option Finding
instant_order_finding orders =
    option_map (λ order. finding_at_record property.InstantOrder which.Orders
    (place_at orders order) None None)
    (least_with (λ order. not (may_rest (order_at orders order).life)) (length orders))
