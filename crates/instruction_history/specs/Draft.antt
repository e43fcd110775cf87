-- A history record by record: what is known after some of its records, and what one
-- record more changes.
use Rattle.std.specs.Prelude.{◌≡◌, ℕ, zero, suc, ◌&&◌, List, [], ◌∷◌, ◌++◌, Option, None, Some, is_some, is_none, option_map, option_and_then, filter_map, length, slice_get, slice_set, if◌then◌else◌}
use Rattle.std.specs.List.{enumerate_from}
use Rattle.audit_base.specs.Moments.{Moment, is_before}
use Rattle.audit_base.specs.declared.names.Key.{Key}
use Rattle.audit_base.specs.declared.terms.Life.TheVariants.{Rests}
use Rattle.audit_base.specs.declared.records.OrderRecord.{OrderRecord}
use Rattle.audit_base.specs.declared.records.OrderRecord.TheVariants.{New, Cancel, Replace}
use Rattle.audit_base.specs.declared.orders.Order.{Order}
use Rattle.audit_base.specs.declared.findings.Finding.{Finding}
use Rattle.audit_base.specs.declared.flaws.Evidence.{Evidence}
use Rattle.audit_base.specs.declared.flaws.Evidence.TheVariants.{DuplicateId, TimeBack, UnknownTarget}
use Rattle.audit_base.specs.Histories.{symbol_of, time_of, history_entry, history_entry_place, key_at, is_order, target_key, side_of, fits_side, order_index, order_of_entry, entry_finding}
use Rattle.audit_base.specs.Least.{least_answer, least_with, first_answer, only_if}
use Rattle.audit_base.specs.Orders.{same_name, same_key, order_at}
use Rattle.instruction_history.specs.declared.history_so_far.HistorySoFar.{HistorySoFar}
use Rattle.instruction_history.specs.declared.findings.LastRecord.{LastRecord}
use Rattle.order_list.specs.declared.keys.SeenRecord.{SeenRecord}
use Rattle.order_list.specs.Changed.{with_ending}
use Rattle.order_list.specs.Keys.{record_seen_in}
use Rattle.order_list.specs.Stored.{orders_of, AreKeysNumbered}

-- What is known after some records of a history.

-- the first finding of a history, and its order list
abbrev pub finding_in_history : List (ℕ × OrderRecord) → Option Finding
finding_in_history h = least_answer (entry_finding h) (length h)

abbrev pub orders_in : List (ℕ × OrderRecord) → List Order
orders_in h = filter_map (λ e. order_of_entry h (e.0, e.1.0, e.1.1)) (enumerate_from 0 h)

-- what a record is seen as: its place, its side, and where it is an order its
-- index in the order list
abbrev pub seen_at : List (ℕ × OrderRecord) → ℕ → SeenRecord
seen_at h k = record {
  place = history_entry_place h k;
  side = side_of (history_entry h k);
  index = if is_order (history_entry h k) then Some (order_index h k) else None;
}

-- what a key names: the first record that has it
abbrev pub seen_by_key : List (ℕ × OrderRecord) → Key → Option SeenRecord
seen_by_key h key = option_map (seen_at h) (least_with (λ k. same_key (key_at h k) key) (length h))

-- the record before the next one
abbrev pub last_record : List (ℕ × OrderRecord) → ℕ → Option LastRecord
last_record h zero = None
last_record h (suc k) =
    Some (record { place = history_entry_place h k; time = time_of (history_entry h k) })

-- the orders that are kept
abbrev pub kept_orders : HistorySoFar → List Order
kept_orders d = orders_of d.keys d.orders.items

-- what is kept is that of a history without a finding
pub record IsHistorySoFar (h : List (ℕ × OrderRecord)) (d : HistorySoFar) : Type 0 where
  pub clean : finding_in_history h ≡ None
  pub orders : kept_orders d ≡ orders_in h
  pub numbered : AreKeysNumbered d.keys d.orders.items
  pub keys : (key : Key) → record_seen_in d.keys key ≡ seen_by_key h key
  pub last : d.last ≡ last_record h (length h)

-- what is kept is that of the history, or the finding is its first one
abbrev pub IsHistoryKnown : List (ℕ × OrderRecord) → HistorySoFar → Option Finding → Type 0
IsHistoryKnown h d None = IsHistorySoFar h d
IsHistoryKnown h d (Some finding) = finding_in_history h ≡ Some finding

-- whatever history was known, it is known with one record more, at its place
abbrev pub KnowsNextRecord : HistorySoFar → HistorySoFar → ℕ → OrderRecord → Option Finding → Type 0
KnowsNextRecord old new place entry finding =
    (h : List (ℕ × OrderRecord)) → IsHistorySoFar h old
    → IsHistoryKnown (h ++ (place, entry) ∷ []) new finding

-- a record at a place, if it is one of the symbol
abbrev pub record_of_symbol : List ℕ → ℕ → OrderRecord → List (ℕ × OrderRecord)
record_of_symbol symbol place entry =
    if same_name (symbol_of entry) symbol then (place, entry) ∷ [] else []

-- One record more: what becomes of an order list and its keys.

-- an index, if the order there may be the target of the record
abbrev pub fitting_target : List Order → OrderRecord → ℕ → Option ℕ
fitting_target orders entry index =
    option_and_then (λ o. only_if (fits_side (side_of entry) (Some o.side)) index)
    (slice_get orders index)

-- the index of what a key names, if it may be the target of the record
abbrev pub seen_target : List Order → OrderRecord → Option SeenRecord → Option ℕ
seen_target orders entry seen =
    option_and_then (λ s. option_and_then (fitting_target orders entry) s.index) seen

-- the index of the target of the record, by what its target's key names
abbrev pub target_among : List Order → (Key → Option SeenRecord) → OrderRecord → Option ℕ
target_among orders seen entry =
    option_and_then (λ key. seen_target orders entry (seen key)) (target_key entry)

-- 1, 2 and 3 of a record, as what is wrong with it
abbrev pub duplicate_evidence : Option SeenRecord → Option Evidence
duplicate_evidence earlier = option_map (λ s. DuplicateId s.place) earlier

abbrev pub time_back_evidence : Option LastRecord → Moment → Option Evidence
time_back_evidence last time =
    option_and_then (λ l. only_if (is_before time l.time) (TimeBack l.place)) last

abbrev pub unknown_target_evidence : Option Key → Option ℕ → Option Evidence
unknown_target_evidence named target = only_if (is_some named && is_none target) UnknownTarget

-- the first of these, by what the record's key named, the record before and the record's target
abbrev pub record_evidence : Option SeenRecord → Option LastRecord → OrderRecord
    → Option ℕ → Option Evidence
record_evidence earlier last entry target =
    first_answer (duplicate_evidence earlier ∷ time_back_evidence last (time_of entry)
    ∷ unknown_target_evidence (target_key entry) target ∷ [])

-- the orders, their target ended
abbrev pub with_target_ended : List Order → Option ℕ → ℕ → List Order
with_target_ended orders None place = orders
with_target_ended orders (Some t) place = slice_set orders t (with_ending place (order_at orders t))

-- the own place of a replacement, where its target is not there any more
abbrev pub own_end : List Order → Option ℕ → ℕ → Option ℕ
own_end orders None place = None
own_end orders (Some t) place = if is_none (order_at orders t).cancelled then None else Some place

-- the order of a record, by its target, of which a new order has none
abbrev pub order_by_target : List Order → OrderRecord → Option ℕ → ℕ → Option Order
order_by_target orders (New key time symbol side quantity price life) target place =
    Some (record {
      place = place;
      key = key;
      time = time;
      side = side;
      quantity = quantity;
      limit = price;
      cancelled = own_end orders target place;
      target = target;
      life = life;
    })
order_by_target orders (Cancel key time symbol named) target place = None
order_by_target orders (Replace key time symbol named side quantity price) target place =
    Some (record {
      place = place;
      key = key;
      time = time;
      side = side;
      quantity = quantity;
      limit = price;
      cancelled = own_end orders target place;
      target = target;
      life = Rests;
    })

-- the orders and one more, if there is one
abbrev pub orders_with_own : List Order → Option Order → List Order
orders_with_own orders None = orders
orders_with_own orders (Some o) = orders ++ o ∷ []

-- the orders after a record at a place: its target is ended, and its own order comes last
abbrev pub orders_after : List Order → OrderRecord → Option ℕ → ℕ → List Order
orders_after orders entry target place =
    orders_with_own (with_target_ended orders target place)
    (order_by_target orders entry target place)

-- what a record is remembered as, where this many orders came before it
abbrev pub seen_as : OrderRecord → ℕ → ℕ → SeenRecord
seen_as entry place orders = record {
  place = place;
  side = side_of entry;
  index = if is_order entry then Some orders else None;
}

-- what is kept after a record that has no finding, where its key was added before
pub record AddsRecord (old new : HistorySoFar) (place : ℕ) (entry : OrderRecord)
    (target : Option ℕ) : Type 0 where
  pub orders : kept_orders new ≡ orders_after (kept_orders old) entry target place
  pub numbered : AreKeysNumbered old.keys old.orders.items
      → AreKeysNumbered new.keys new.orders.items
  pub keys : new.keys ≡ old.keys
  pub last : new.last ≡ Some (record { place = place; time = time_of entry })
