-- What the definitions say of a record of a history depends on the records up to it alone.
use Rattle.std.proofs.Common.{◌≡◌, ◌<◌, ◌≤◌, ℕ, zero, suc, Bool, Option, None, Some, List, get_or, refl, ap, ◌∙◌, arith}
use Rattle.std.specs.Prelude.{is_some, is_none, option_map, ◌&&◌, if◌then◌else◌}
use Rattle.audit_base.specs.declared.names.Key.{Key}
use Rattle.audit_base.specs.declared.findings.Finding.{Finding}
use Rattle.audit_base.specs.declared.records.OrderRecord.{OrderRecord}
use Rattle.audit_base.specs.Least.{only_if}
use Rattle.audit_base.specs.Orders.{same_key}
use Rattle.audit_base.specs.Histories.{key_of, time_of, target_key, is_order, ends_order, side_of, fits_side, entry_past_end, history_entry, history_entry_place, key_at, earlier_entry_with_key, target_of, duplicate_id_finding, time_back_finding, unknown_target_finding, entry_finding, replaced_order_at, is_ended_before, is_placed_within, is_placed}
use Rattle.audit_base.specs.Moments.{is_before}
use Rattle.audit_base.specs.declared.findings.Property.TheVariants as property
use Rattle.audit_base.specs.declared.terms.Which.TheVariants as which
use Rattle.audit_base.specs.Shows.{finding_at_record, show_place}
use Rattle.audit_base.proofs.PlacedLemmas.{replaced-before}
use Rattle.instruction_history.proofs.FirstLemmas.{least_with-same, least_with-some, any_below-same}

abbrev pub Records : Type 0
Records = List (ℕ × OrderRecord)

-- two histories have the same first n records
pub record SameBelow (h g : Records) (n : ℕ) : Type 0 where
  pub at : (j : ℕ) → j < n → get_or h j entry_past_end ≡ get_or g j entry_past_end

pub key_at-same : {n : ℕ} (h g : Records) → SameBelow h g n → (j : ℕ) → j < n → key_at h j ≡ key_at g j
key_at-same h g same j lt = ap (λ (e : ℕ × OrderRecord). key_of e.1) (same.at j lt)

pub record_at-same : {n : ℕ} (h g : Records) → SameBelow h g n → (j : ℕ) → j < n → history_entry h j ≡ history_entry g j
record_at-same h g same j lt = ap (λ (e : ℕ × OrderRecord). e.1) (same.at j lt)

pub record_place-same : {n : ℕ} (h g : Records) → SameBelow h g n → (j : ℕ) → j < n → history_entry_place h j ≡ history_entry_place g j
record_place-same h g same j lt = ap (λ (e : ℕ × OrderRecord). e.0) (same.at j lt)

pub earlier-same : (n : ℕ) (h g : Records) → SameBelow h g n → (k : ℕ) → k < n → earlier_entry_with_key h k ≡ earlier_entry_with_key g k
earlier-same n h g same k lt =
    least_with-same (λ j. same_key (key_at h j) (key_at h k)) (λ j. same_key (key_at g j) (key_at g k)) k
    (λ j less. let here : j < n = omega arith in rw (key_at-same h g same j here, key_at-same h g same k lt) refl)

-- a record may be the target of another
abbrev pub may_target : ℕ × OrderRecord → ℕ × OrderRecord → Bool
may_target e f = is_order e.1 && ends_order (key_of e.1) f.1 && fits_side (side_of f.1) (side_of e.1)

pub target-same : (n : ℕ) (h g : Records) → SameBelow h g n → (k : ℕ) → k < n → target_of h k ≡ target_of g k
target-same n h g same k lt =
    least_with-same (λ j. may_target (get_or h j entry_past_end) (get_or h k entry_past_end)) (λ j. may_target (get_or g j entry_past_end) (get_or g k entry_past_end)) k
    (λ j less. let here : j < n = omega arith in
    ap (λ (e : ℕ × OrderRecord). may_target e (get_or h k entry_past_end)) (same.at j here) ∙ ap (may_target (get_or g j entry_past_end)) (same.at k lt))

-- the target of a record is an earlier one
pub target-before : (h : Records) (k t : ℕ) → target_of h k ≡ Some t → t < k
target-before h k t e = (least_with-some _ k t e).within

pub option_map-same : {A B : Type 0} (f g : A → B) (o : Option A) → ((a : A) → o ≡ Some a → f a ≡ g a) → option_map f o ≡ option_map g o
option_map-same f g None same = refl
option_map-same {B = B} f g (Some a) same = ap (λ (b : B). Some b) (same a refl)

-- the finding that a record has the key of an earlier one, by their places
abbrev pub repeats : ℕ → ℕ → Finding
repeats place earlier = finding_at_record property.DuplicateId which.Orders place (show_place which.Orders earlier) None

pub duplicate-same : (n : ℕ) (h g : Records) → SameBelow h g n → (k : ℕ) → k < n → duplicate_id_finding h k ≡ duplicate_id_finding g k
duplicate-same n h g same k lt =
    let shows : option_map (λ j. repeats (history_entry_place h k) (history_entry_place h j)) (earlier_entry_with_key h k) ≡ option_map (λ j. repeats (history_entry_place g k) (history_entry_place g j)) (earlier_entry_with_key h k) =
    option_map-same _ _ (earlier_entry_with_key h k)
    (λ j e. let first = least_with-some _ k j e in let here : j < n = omega (arith, first.within) in
    ap (λ (p : ℕ). repeats p (history_entry_place h j)) (record_place-same h g same k lt) ∙ ap (repeats (history_entry_place g k)) (record_place-same h g same j here)) in
    shows ∙ ap (option_map (λ j. repeats (history_entry_place g k) (history_entry_place g j))) (earlier-same n h g same k lt)

-- the finding that a record is before the one at the index before it
abbrev pub back_finding : ℕ × OrderRecord → ℕ × OrderRecord → Option Finding
back_finding e before = only_if (is_before (time_of e.1) (time_of before.1)) (finding_at_record property.TimeBack which.Orders e.0 (show_place which.Orders before.0) None)

pub time_back-same : (n : ℕ) (h g : Records) → SameBelow h g n → (k : ℕ) → k < n → time_back_finding h k ≡ time_back_finding g k
time_back-same n h g same zero lt = refl
time_back-same n h g same (suc j) lt =
    let less : j < n = omega arith in
    ap (λ (e : ℕ × OrderRecord). back_finding e (get_or h j entry_past_end)) (same.at (suc j) lt) ∙ ap (back_finding (get_or g (suc j) entry_past_end)) (same.at j less)

-- the finding that a record names no target
abbrev pub targetless : ℕ × OrderRecord → Option ℕ → Option Finding
targetless e target = only_if (is_some (target_key e.1) && is_none target) (finding_at_record property.UnknownTarget which.Orders e.0 None None)

pub unknown-same : (n : ℕ) (h g : Records) → SameBelow h g n → (k : ℕ) → k < n → unknown_target_finding h k ≡ unknown_target_finding g k
unknown-same n h g same k lt =
    ap (λ (e : ℕ × OrderRecord). targetless e (target_of h k)) (same.at k lt) ∙ ap (targetless (get_or g k entry_past_end)) (target-same n h g same k lt)

pub record_finding-same : (n : ℕ) (h g : Records) → SameBelow h g n → (k : ℕ) → k < n → entry_finding h k ≡ entry_finding g k
record_finding-same n h g same k lt =
    let one = duplicate-same n h g same k lt in
    let two = time_back-same n h g same k lt in
    let three = unknown-same n h g same k lt in
    rw (one, two, three) refl

pub replaced-same : (n : ℕ) (h g : Records) → SameBelow h g n → (k : ℕ) → k < n → replaced_order_at h k ≡ replaced_order_at g k
replaced-same n h g same k lt =
    ap (λ (e : ℕ × OrderRecord). if is_order e.1 then target_of h k else None) (same.at k lt) ∙ ap (λ (o : Option ℕ). if is_order (history_entry g k) then o else None) (target-same n h g same k lt)

pub ended_before-same : (n : ℕ) (h g : Records) → SameBelow h g n → (k t : ℕ) → k ≤ n → t < n → is_ended_before h k t ≡ is_ended_before g k t
ended_before-same n h g same k t lt in_t =
    any_below-same (λ j. ends_order (key_at h t) (history_entry h j)) (λ j. ends_order (key_at g t) (history_entry g j)) k
    (λ j less. let here : j < n = omega arith in
    ap (λ (key : Key). ends_order key (history_entry h j)) (key_at-same h g same t in_t) ∙ ap (ends_order (key_at g t)) (record_at-same h g same j here))

pub placed-same : (n : ℕ) (h g : Records) → SameBelow h g n → (m k : ℕ) (o : Option ℕ) → k < n → ((t : ℕ) → o ≡ Some t → t < k) → is_placed_within m h k o ≡ is_placed_within m g k o
placed-same n h g same zero k o lt back = refl
placed-same n h g same (suc m) k None lt back = refl
placed-same n h g same (suc m) k (Some t) lt back =
    let less : t < k = back t refl in
    let in_t : t < n = omega arith in
    let ended = ended_before-same n h g same k t (omega arith) in_t in
    let target = placed-same n h g same m t (replaced_order_at h t) in_t (λ u e. replaced-before h t u e) in
    let next = replaced-same n h g same t in_t in
    rw (ended, target, next) refl

pub is_placed-same : (n : ℕ) (h g : Records) → SameBelow h g n → (k : ℕ) → k < n → is_placed h k ≡ is_placed g k
is_placed-same n h g same k lt =
    placed-same n h g same (suc k) k (replaced_order_at h k) lt (λ t e. replaced-before h k t e) ∙ ap (is_placed_within (suc k) g k) (replaced-same n h g same k lt)
