-- The order of a side that has a key, by what the key names.
use Rattle.std.proofs.Common.{◌≡◌, ◌<◌, ℕ, zero, suc, Bool, true, false, Option, None, Some, List, [], ◌∷◌, length, refl, sym, ap, ◌∙◌, arith, inl, inr}
use Rattle.std.specs.Prelude.{◌&&◌, option_map, option_and_then, slice_get, if◌then◌else◌}
use Rattle.std.proofs.lemmas.Bool.{cases_Bool}
use Rattle.std.proofs.lemmas.Map.Entries.{option_filter}
use Rattle.audit_base.specs.declared.names.Key.{Key}
use Rattle.audit_base.specs.declared.terms.Side.{Side}
use Rattle.audit_base.specs.declared.terms.Side.TheVariants.{Buy, Sell}
use Rattle.audit_base.specs.declared.orders.Order.{Order}
use Rattle.audit_base.specs.declared.records.OrderRecord.{OrderRecord}
use Rattle.audit_base.specs.declared.records.OrderRecord.TheVariants.{New, Cancel, Replace}
use Rattle.audit_base.specs.Least.{least_with, only_if}
use Rattle.audit_base.specs.Orders.{same_key, same_side, order_at, side_at, order_past_end, order_with_key, order_on_side_with_key, HaveOwnKeys}
use Rattle.audit_base.specs.Histories.{side_of, is_order, history_entry, key_at, order_index}
use Rattle.instruction_history.specs.Draft.{orders_in, seen_at, seen_by_key}
use Rattle.order_list.specs.Keys.{index_on}
use Rattle.instruction_history.proofs.FirstLemmas.{least_with-same, least_with-some, least_with-both}
use Rattle.audit_base.proofs.HistoryLemmas.{same_key-is}
use Rattle.instruction_history.proofs.MadeLemmas.{IsAt, standing}
use Rattle.instruction_history.proofs.RecordLemmas.{Records}

-- an index, if the order there is of the side
abbrev pub of_side : List Order → Side → ℕ → Option ℕ
of_side orders side index = option_and_then (λ o. only_if (same_side side o.side) index) (slice_get orders index)

side-filter : (orders : List Order) (side : Side) (o : Option ℕ) → ((i : ℕ) → o ≡ Some i → i < length orders) → option_and_then (of_side orders side) o ≡ option_filter (λ i. same_side side (side_at orders i)) o
side-filter orders side None inside = refl
side-filter orders side (Some i) inside = at orders i (inside i refl)
  where
    at : (orders : List Order) (i : ℕ) → i < length orders → of_side orders side i ≡ option_filter (λ i. same_side side (side_at orders i)) (Some i)
    at orders i lt = ap (option_and_then (λ (o : Order). only_if (same_side side o.side) i)) (got orders i lt)
      where
        got : (orders : List Order) (i : ℕ) → i < length orders → slice_get orders i ≡ Some (order_at orders i)
        got [] i lt = absurd (omega arith)
        got (o ∷ orders) zero lt = refl
        got (o ∷ orders) (suc i) lt = got orders i (omega arith)

and-swap : (a b : Bool) → (a && b) ≡ (b && a)
and-swap true true = refl
and-swap true false = refl
and-swap false true = refl
and-swap false false = refl

-- the key's order of a side, where no two orders have one key
side-of_key : (orders : List Order) (side : Side) (key : Key) → HaveOwnKeys orders → option_and_then (of_side orders side) (order_with_key orders key) ≡ order_on_side_with_key orders side key
side-of_key orders side key distinct =
    let first = least_with (λ i. same_key (order_at orders i).key key) (length orders) in
    side-filter orders side first (λ i e. (least_with-some _ (length orders) i e).within)
    ∙ sym (least_with-both (λ i. same_key (order_at orders i).key key) (λ i. same_side side (side_at orders i)) (length orders) apart)
    ∙ least_with-same _ _ (length orders) (λ i lt. and-swap (same_key (order_at orders i).key key) (same_side side (side_at orders i)))
  where
    apart : (i j : ℕ) → i < j → j < length orders → same_key (order_at orders i).key key ≡ true → same_key (order_at orders j).key key ≡ true → ⊥
    apart i j less lt one two =
        distinct i j order_past_end less lt (same_key-is _ _ one ∙ sym (same_key-is _ _ two))

-- which of two sides is asked for does not matter
sides-swap : (a b : Side) → same_side a b ≡ same_side b a
sides-swap Buy Buy = refl
sides-swap Buy Sell = refl
sides-swap Sell Buy = refl
sides-swap Sell Sell = refl

-- an index for a side, given the side of what is seen
abbrev index_by : Side → Option Side → Option ℕ → Option ℕ
index_by side own index = option_and_then (λ s. if same_side s side then index else None) own

-- a record that is no order has no side
sideless : (r : OrderRecord) → is_order r ≡ false → side_of r ≡ None
sideless (New key time symbol side quantity price life) e = cc
sideless (Cancel key time symbol target) e = refl
sideless (Replace key time symbol target side quantity price) e = cc

-- what a record is seen as has the side of its order
seen-side : (h : Records) (side : Side) (k : ℕ) → k < length h → index_on side (seen_at h k) ≡ option_and_then (of_side (orders_in h) side) (seen_at h k).index
seen-side h side k lt = elim (cases_Bool (is_order (history_entry h k))) [
  | inl ordered ↦
      let stands = standing h k lt ordered in
      let o : Order = stands.0 in
      let at : IsAt h k o = stands.1 in
      rw (ordered, at.got) (ap (λ (own : Option Side). index_by side own (Some (order_index h k))) (sym at.made.side) ∙ ap (λ (b : Bool). only_if b (order_index h k)) (sides-swap o.side side))
  | inr other ↦ rw (other, sideless (history_entry h k) other) refl
]

named-side : (h : Records) (side : Side) (o : Option ℕ) → ((k : ℕ) → o ≡ Some k → k < length h) →
    option_and_then (index_on side) (option_map (seen_at h) o) ≡ option_and_then (of_side (orders_in h) side) (option_and_then (λ s. s.index) (option_map (seen_at h) o))
named-side h side None within = refl
named-side h side (Some k) within = seen-side h side k (within k refl)

-- the order of a side with the key, by what the key names
pub sided : (h : Records) (side : Side) (key : Key) → HaveOwnKeys (orders_in h) → option_and_then (λ s. s.index) (seen_by_key h key) ≡ order_with_key (orders_in h) key
    → option_and_then (index_on side) (seen_by_key h key) ≡ order_on_side_with_key (orders_in h) side key
sided h side key distinct named =
    named-side h side (least_with (λ k. same_key (key_at h k) key) (length h)) (λ k found. (least_with-some _ (length h) k found).within)
    ∙ ap (option_and_then (of_side (orders_in h) side)) named
    ∙ side-of_key (orders_in h) side key distinct
