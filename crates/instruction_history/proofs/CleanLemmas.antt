-- What holds of a history without a finding: keys are distinct, and each record that
-- names a target has one.
use Rattle.std.proofs.Common.{◌≡◌, ◌<◌, ℕ, Bool, true, false, Option, None, Some, length, refl, sym, ap, ◌∙◌, arith, inl, inr}
use Rattle.std.specs.Prelude.{is_some, is_none, option_map, ◌&&◌}
use Rattle.std.proofs.lemmas.Bool.{cases_order, and_parts}
use Rattle.std.proofs.lemmas.Option.{same_Some}
use Rattle.audit_base.specs.declared.names.Key.{Key}
use Rattle.audit_base.specs.declared.records.OrderRecord.{OrderRecord}
use Rattle.audit_base.specs.declared.records.OrderRecord.TheVariants.{New, Cancel, Replace}
use Rattle.audit_base.specs.Least.{only_if}
use Rattle.audit_base.specs.Orders.{same_key}
use Rattle.audit_base.specs.Histories.{target_key, ends_order, history_entry, key_at, earlier_entry_with_key, target_of, duplicate_id_finding, time_back_finding, unknown_target_finding, entry_finding}
use Rattle.instruction_history.specs.Draft.{finding_in_history}
use Rattle.instruction_history.proofs.FirstLemmas.{least_answer-none, least_with-none, least_with-some, option_or-parts}
use Rattle.audit_base.proofs.HistoryLemmas.{same_key-is, is-same_key}
use Rattle.instruction_history.proofs.RecordLemmas.{Records, target-before}

pub option_map-none : {A B : Type 0} (f : A → B) (o : Option A) → option_map f o ≡ None → o ≡ None
option_map-none f None e = refl
option_map-none f (Some a) e = cc

only_if-none : {A : Type 0} (b : Bool) (a : A) → only_if b a ≡ None → b ≡ false
only_if-none true a e = cc
only_if-none false a e = refl

-- the three findings are not there
pub record IsClean (h : Records) (k : ℕ) : Type 0 where
  pub duplicate : duplicate_id_finding h k ≡ None
  pub back : time_back_finding h k ≡ None
  pub unknown : unknown_target_finding h k ≡ None

pub clean-at : (h : Records) → finding_in_history h ≡ None → (k : ℕ) → k < length h → IsClean h k
clean-at h clean k lt =
    let none = least_answer-none (entry_finding h) (length h) k clean lt in
    let one = option_or-parts (duplicate_id_finding h k) _ none in
    let two = option_or-parts (time_back_finding h k) _ one.1 in
    let three = option_or-parts (unknown_target_finding h k) None two.1 in
    record { duplicate = one.0; back = two.0; unknown = three.0 }

pub clean-distinct : (h : Records) → finding_in_history h ≡ None → (i j : ℕ) → i < j → j < length h → same_key (key_at h i) (key_at h j) ≡ false
clean-distinct h clean i j less lt =
    least_with-none (λ k. same_key (key_at h k) (key_at h j)) j (option_map-none _ (earlier_entry_with_key h j) (clean-at h clean j lt).duplicate) i less

both_keys : (a b : Key) → a ≡ b → same_key a b ≡ false → ⊥
both_keys a b e apart = let itself : same_key b b ≡ true = is-same_key b b refl in let other : same_key b b ≡ false = rw e at apart in cc

-- two records of one key are one record
pub clean-one : (h : Records) → finding_in_history h ≡ None → (i j : ℕ) → i < length h → j < length h → key_at h i ≡ key_at h j → i ≡ j
clean-one h clean i j in_i in_j e = elim (cases_order i j) [
  | inl same ↦ same
  | inr apart ↦ elim apart [
    | inl less ↦ absurd (both_keys (key_at h i) (key_at h j) e (clean-distinct h clean i j less in_j))
    | inr more ↦ absurd (both_keys (key_at h j) (key_at h i) (sym e) (clean-distinct h clean j i more in_i))
  ]
]

-- a record ends the order whose key it names
pub ends-named : (key : Key) (r : OrderRecord) → ends_order key r ≡ true → target_key r ≡ Some key
ends-named key (New own time symbol side quantity price life) e = cc
ends-named key (Cancel own time symbol target) e = ap (λ (k : Key). Some k) (same_key-is _ key e)
ends-named key (Replace own time symbol target side quantity price) e = ap (λ (k : Key). Some k) (same_key-is _ key e)

pub named-ends : (key named : Key) (r : OrderRecord) → target_key r ≡ Some named → ends_order key r ≡ same_key named key
named-ends key named (New own time symbol side quantity price life) e = cc
named-ends key named (Cancel own time symbol target) e = ap (λ (k : Key). same_key k key) (same_Some _ named e)
named-ends key named (Replace own time symbol target side quantity price) e = ap (λ (k : Key). same_key k key) (same_Some _ named e)

pub nameless-ends : (key : Key) (r : OrderRecord) → target_key r ≡ None → ends_order key r ≡ false
nameless-ends key (New own time symbol side quantity price life) e = refl
nameless-ends key (Cancel own time symbol target) e = cc
nameless-ends key (Replace own time symbol target side quantity price) e = cc

targeted : (o : Option ℕ) (named : Option Key) (key : Key) → named ≡ Some key → (is_some named && is_none o) ≡ false → (t : ℕ) × (o ≡ Some t)
targeted None None key e fails = cc
targeted None (Some k) key e fails = cc
targeted (Some t) named key e fails = (t, refl)

-- a record that names a target has one
pub clean-target : (h : Records) → finding_in_history h ≡ None → (j : ℕ) (named : Key) → j < length h → target_key (history_entry h j) ≡ Some named → (t : ℕ) × (target_of h j ≡ Some t)
clean-target h clean j named lt e =
    targeted (target_of h j) (target_key (history_entry h j)) named e (only_if-none _ _ (clean-at h clean j lt).unknown)

-- the target has the key that is named
pub target-ends : (h : Records) (j t : ℕ) → target_of h j ≡ Some t → ends_order (key_at h t) (history_entry h j) ≡ true
target-ends h j t e = let first = least_with-some _ j t e in let sides = and_parts _ _ first.passes in (and_parts _ _ sides.0).1

-- only its target has a key that a record ends
pub clean-ender : (h : Records) → finding_in_history h ≡ None → (j k : ℕ) → j < length h → k < length h → ends_order (key_at h k) (history_entry h j) ≡ true → target_of h j ≡ Some k
clean-ender h clean j k in_j in_k ending =
    let named : target_key (history_entry h j) ≡ Some (key_at h k) = ends-named (key_at h k) (history_entry h j) ending in
    let found = clean-target h clean j (key_at h k) in_j named in
    let t = found.0 in
    let is : target_of h j ≡ Some t = found.1 in
    let before : t < j = target-before h j t is in
    let other : target_key (history_entry h j) ≡ Some (key_at h t) = ends-named (key_at h t) (history_entry h j) (target-ends h j t is) in
    let keys : key_at h t ≡ key_at h k = same_Some _ _ (sym other ∙ named) in
    let one : t ≡ k = clean-one h clean t k (omega arith) in_k keys in
    is ∙ ap (λ (i : ℕ). Some i) one
