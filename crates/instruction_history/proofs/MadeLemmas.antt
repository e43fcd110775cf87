-- The order of a record, and where it is in the order list.
use Rattle.std.proofs.Common.{◌≡◌, ◌<◌, ℕ, true, Option, None, Some, List, length, get_or, take, refl, sym, ap, ◌∙◌, arith, zero-add}
use Rattle.std.specs.Prelude.{is_some, option_map, filter_map, slice_get}
use Rattle.std.specs.List.{enumerate_from}
use Rattle.std.proofs.lemmas.List.{take_all}
use Rattle.std.proofs.lemmas.List.FromFn.{get_or-enumerate_from, length-enumerate_from}
use Rattle.std.proofs.lemmas.Option.{slice_get-get_or}
use Rattle.audit_base.specs.declared.orders.Order.{Order}
use Rattle.audit_base.specs.declared.records.OrderRecord.{OrderRecord}
use Rattle.audit_base.specs.declared.records.OrderRecord.TheVariants.{New, Cancel, Replace}
use Rattle.audit_base.specs.declared.terms.Life.TheVariants.{Rests}
use Rattle.audit_base.specs.Orders.{order_past_end, order_at}
use Rattle.audit_base.specs.Histories.{key_of, side_of, is_order, entry_past_end, history_entry, history_entry_place, cancelled_of, replaced_order_at, order_index, order_of_entry}
use Rattle.instruction_history.specs.Draft.{orders_in}
use Rattle.instruction_history.proofs.PlaceLemmas.{filter_map-at, kept_before, kept_before-count}
use Rattle.instruction_history.proofs.RecordLemmas.{Records}

-- the order of a numbered record
abbrev pub order_in : Records → ℕ × (ℕ × OrderRecord) → Option Order
order_in h e = order_of_entry h (e.0, e.1.0, e.1.1)

abbrev pub numbered : Records → List (ℕ × (ℕ × OrderRecord))
numbered h = enumerate_from 0 h

abbrev pub any_numbered : ℕ × (ℕ × OrderRecord)
any_numbered = (0, entry_past_end)

pub numbered-at : (h : Records) (k : ℕ) → k < length h → get_or (numbered h) k any_numbered ≡ (k, get_or h k entry_past_end)
numbered-at h k lt = get_or-enumerate_from 0 h k any_numbered lt ∙ ap (λ (n : ℕ). (n, get_or h k entry_past_end)) (zero-add k)

-- the order that a record makes
pub record IsMade (h : Records) (k at : ℕ) (r : OrderRecord) (o : Order) : Type 0 where
  pub made : order_of_entry h (k, at, r) ≡ Some o
  pub key : o.key ≡ key_of r
  pub side : Some o.side ≡ side_of r
  pub place : o.place ≡ at
  pub cancelled : o.cancelled ≡ cancelled_of h k

pub making : (h : Records) (k at : ℕ) (r : OrderRecord) → is_order r ≡ true → (o : Order) × IsMade h k at r o
making h k at (New key time symbol side quantity price life) e = (
  record { place = at; key = key; time = time; side = side; quantity = quantity; limit = price; cancelled = cancelled_of h k; target = None; life = life },
  record { made = refl; key = refl; side = refl; place = refl; cancelled = refl },
)
making h k at (Cancel key time symbol target) e = cc
making h k at (Replace key time symbol target side quantity price) e = (
  record { place = at; key = key; time = time; side = side; quantity = quantity; limit = price; cancelled = cancelled_of h k; target = option_map (order_index h) (replaced_order_at h k); life = Rests },
  record { made = refl; key = refl; side = refl; place = refl; cancelled = refl },
)

pub is_some-order_of : (h : Records) (k at : ℕ) (r : OrderRecord) → is_some (order_of_entry h (k, at, r)) ≡ is_order r
is_some-order_of h k at (New key time symbol side quantity price life) = refl
is_some-order_of h k at (Cancel key time symbol target) = refl
is_some-order_of h k at (Replace key time symbol target side quantity price) = refl

pub order_index-kept : (h : Records) (k : ℕ) → kept_before (order_in h) (numbered h) k ≡ order_index h k
order_index-kept h k = kept_before-count (order_in h) (λ e. is_order e.1) (λ i x. is_some-order_of h i x.0 x.1) h 0 k

pub length-orders_in : (h : Records) → length (orders_in h) ≡ order_index h (length h)
length-orders_in h =
    let numbers : length (numbered h) ≡ length h = length-enumerate_from 0 h in
    let whole : take (length h) (numbered h) ≡ numbered h = take_all (length h) (numbered h) (omega arith) in
    ap (λ (zs : List (ℕ × (ℕ × OrderRecord))). length (filter_map (order_in h) zs)) (sym whole) ∙ order_index-kept h (length h)

-- where the order of a record is
pub record IsAt (h : Records) (k : ℕ) (o : Order) : Type 0 where
  pub made : IsMade h k (history_entry_place h k) (history_entry h k) o
  pub at : order_at (orders_in h) (order_index h k) ≡ o
  pub got : slice_get (orders_in h) (order_index h k) ≡ Some o
  pub within : order_index h k < length (orders_in h)

pub standing : (h : Records) (k : ℕ) → k < length h → is_order (history_entry h k) ≡ true → (o : Order) × IsAt h k o
standing h k lt e =
    let maker = making h k (history_entry_place h k) (history_entry h k) e in
    let o : Order = maker.0 in
    let made : IsMade h k (history_entry_place h k) (history_entry h k) o = maker.1 in
    let numbers : length (numbered h) ≡ length h = length-enumerate_from 0 h in
    let kept : order_in h (get_or (numbered h) k any_numbered) ≡ Some o = ap (order_in h) (numbered-at h k lt) ∙ made.made in
    let found = filter_map-at (order_in h) (numbered h) any_numbered k o order_past_end (omega arith) kept in
    let index : kept_before (order_in h) (numbered h) k ≡ order_index h k = order_index-kept h k in
    let there : order_at (orders_in h) (order_index h k) ≡ o = ap (order_at (orders_in h)) (sym index) ∙ found.0 in
    let inside : order_index h k < length (orders_in h) = omega (arith, found.1, index) in
    (o, record { made = made; at = there; got = slice_get-get_or (orders_in h) (order_index h k) order_past_end inside ∙ ap (λ (x : Order). Some x) there; within = inside })
