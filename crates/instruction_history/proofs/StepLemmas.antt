-- The target, the finding and what is seen of one record more, by what is known of the
-- records before it.
use Rattle.std.proofs.Common.{◌≡◌, ◌<◌, ℕ, zero, suc, Bool, true, false, cond, Option, None, Some, [], ◌∷◌, ◌++◌, length, get_or, refl, sym, ap, ◌∙◌, arith, inl, inr}
use Rattle.std.specs.Prelude.{is_some, is_none, option_map, option_and_then, ◌&&◌, if◌then◌else◌}
use Rattle.std.proofs.lemmas.Bool.{cases_Bool}
use Rattle.std.proofs.lemmas.Cmp.{nat_list_eq_equiv}
use Rattle.std.proofs.lemmas.Map.Entries.{option_filter}
use Rattle.audit_base.specs.declared.names.Key.{Key}
use Rattle.audit_base.specs.declared.orders.Order.{Order}
use Rattle.audit_base.specs.declared.findings.Finding.{Finding}
use Rattle.audit_base.specs.declared.records.OrderRecord.{OrderRecord}
use Rattle.audit_base.specs.declared.findings.Property.TheVariants as property
use Rattle.audit_base.specs.declared.terms.Which.TheVariants as which
use Rattle.audit_base.specs.Shows.{finding_at_record}
use Rattle.audit_base.specs.Least.{least_with, first_answer, only_if}
use Rattle.audit_base.specs.Orders.{same_name, same_key}
use Rattle.audit_base.specs.Histories.{key_of, time_of, target_key, is_order, ends_order, side_of, fits_side, entry_past_end, history_entry, history_entry_place, key_at, target_of, earlier_entry_with_key, duplicate_id_finding, time_back_finding, unknown_target_finding, entry_finding, order_index}
use Rattle.audit_base.specs.Moments.{is_before}
use Rattle.instruction_history.specs.declared.findings.LastRecord.{LastRecord}
use Rattle.order_list.specs.declared.keys.SeenRecord.{SeenRecord}
use Rattle.instruction_history.specs.Draft.{finding_in_history, orders_in, seen_at, seen_by_key, last_record}
use Rattle.audit_base.specs.declared.flaws.Evidence.{Evidence}
use Rattle.audit_base.specs.declared.flaws.Evidence.TheVariants.{TimeBack, UnknownTarget}
use Rattle.instruction_history.specs.Draft.{fitting_target, target_among, duplicate_evidence, time_back_evidence, unknown_target_evidence, record_evidence}
use Rattle.instruction_history.specs.Flaws.{finding_at}
use Rattle.instruction_history.proofs.FirstLemmas.{least_with-same, least_with-some, least_with-from_none, least_with-both}
use Rattle.instruction_history.proofs.CleanLemmas.{clean-distinct, named-ends, nameless-ends}
use Rattle.audit_base.proofs.HistoryLemmas.{same_key-is, is-same_key}
use Rattle.instruction_history.proofs.MadeLemmas.{IsAt, standing, length-orders_in}
use Rattle.instruction_history.proofs.PushLemmas.{length-push, pushed-same, pushed-at, order_index-push}
use Rattle.instruction_history.proofs.RecordLemmas.{Records, SameBelow, may_target, key_at-same, record_place-same, repeats, back_finding, targetless}

same_key-symm : (a b : Key) → same_key a b ≡ same_key b a
same_key-symm a b =
    let firm : same_name a.firm b.firm ≡ same_name b.firm a.firm = nat_list_eq_equiv.symm a.firm b.firm in
    let id : same_name a.id b.id ≡ same_name b.id a.id = nat_list_eq_equiv.symm a.id b.id in
    ap (λ (x : Bool). x && same_name a.id b.id) firm ∙ ap (λ (x : Bool). same_name b.firm a.firm && x) id

fails-between : (a b c : Bool) → b ≡ false → (a && b && c) ≡ false
fails-between true b c e = ap (λ (x : Bool). x && c) e
fails-between false b c e = refl

between-first : (a b c : Bool) → (a && b && c) ≡ (b && (a && c))
between-first true true c = refl
between-first true false c = refl
between-first false true c = refl
between-first false false c = refl

-- a record fits the side of another, and is an order
abbrev fits : OrderRecord → OrderRecord → Bool
fits r named = is_order named && fits_side (side_of r) (side_of named)

may_target-named : (x e : ℕ × OrderRecord) (named : Key) → target_key e.1 ≡ Some named → may_target x e ≡ (same_key (key_of x.1) named && fits e.1 x.1)
may_target-named x e named is =
    let by_key : ends_order (key_of x.1) e.1 ≡ same_key (key_of x.1) named = named-ends (key_of x.1) named e.1 is ∙ same_key-symm named (key_of x.1) in
    ap (λ (b : Bool). is_order x.1 && b && fits_side (side_of e.1) (side_of x.1)) by_key ∙ between-first (is_order x.1) (same_key (key_of x.1) named) (fits_side (side_of e.1) (side_of x.1))

-- the target of the record, where it names a key
target-named : (h : Records) (e : ℕ × OrderRecord) (named : Key) → finding_in_history h ≡ None → target_key e.1 ≡ Some named → target_of (h ++ e ∷ []) (length h) ≡ option_filter (λ k. fits e.1 (history_entry h k)) (least_with (λ k. same_key (key_at h k) named) (length h))
target-named h e named clean is =
    let longer : Records = h ++ e ∷ [] in
    let same = pushed-same h e in
    least_with-same (λ k. may_target (get_or longer k entry_past_end) (get_or longer (length h) entry_past_end)) (λ k. same_key (key_at h k) named && fits e.1 (history_entry h k)) (length h)
    (λ k lt. ap (λ (x : ℕ × OrderRecord). may_target x (get_or longer (length h) entry_past_end)) (same.at k lt) ∙ ap (may_target (get_or h k entry_past_end)) (pushed-at h e) ∙ may_target-named (get_or h k entry_past_end) e named is)
    ∙ least_with-both (λ k. same_key (key_at h k) named) (λ k. fits e.1 (history_entry h k)) (length h)
    (λ i j less lt one two.
    let keys : key_at h i ≡ key_at h j = same_key-is _ _ one ∙ sym (same_key-is _ _ two) in
    let apart : same_key (key_at h i) (key_at h j) ≡ false = clean-distinct h clean i j less lt in
    let itself : same_key (key_at h j) (key_at h j) ≡ true = is-same_key (key_at h j) (key_at h j) refl in
    let other : same_key (key_at h j) (key_at h j) ≡ false = ap (λ (key : Key). same_key key (key_at h j)) (sym keys) ∙ apart in cc)

pub target-nameless : (h : Records) (e : ℕ × OrderRecord) → target_key e.1 ≡ None → target_of (h ++ e ∷ []) (length h) ≡ None
target-nameless h e is =
    let longer : Records = h ++ e ∷ [] in
    least_with-from_none _ (length h)
    (λ k lt. ap (may_target (get_or longer k entry_past_end)) (pushed-at h e) ∙ fails-between _ _ _ (nameless-ends (key_at longer k) e.1 is))

kept-if : {A B : Type 0} (b : Bool) (k : A) (f : A → B) → only_if b (f k) ≡ option_map f (cond b (Some k) None)
kept-if true k f = refl
kept-if false k f = refl

-- the order that a key names, if it fits
fitting-seen : (h : Records) (r : OrderRecord) (o : Option ℕ) → ((k : ℕ) → o ≡ Some k → k < length h) →
    option_and_then (λ s. option_and_then (fitting_target (orders_in h) r) s.index) (option_map (seen_at h) o) ≡ option_map (order_index h) (option_filter (λ k. fits r (history_entry h k)) o)
fitting-seen h r None within = refl
fitting-seen h r (Some k) within = elim (cases_Bool (is_order (history_entry h k))) [
  | inl ordered ↦
      let stands = standing h k (within k refl) ordered in
      let o : Order = stands.0 in
      let at : IsAt h k o = stands.1 in
      let made = at.made in
      rw (ordered, at.got, made.side) (kept-if (fits_side (side_of r) (side_of (history_entry h k))) k (order_index h))
  | inr other ↦ rw other refl
]

-- the target is found by what its key names
pub target-step : (h : Records) (e : ℕ × OrderRecord) → finding_in_history h ≡ None → target_among (orders_in h) (seen_by_key h) e.1 ≡ option_map (order_index h) (target_of (h ++ e ∷ []) (length h))
target-step h e clean = go (target_key e.1) refl
  where
    go : (named : Option Key) → target_key e.1 ≡ named → option_and_then (λ key. option_and_then (λ s. option_and_then (fitting_target (orders_in h) e.1) s.index) (seen_by_key h key)) named ≡ option_map (order_index h) (target_of (h ++ e ∷ []) (length h))
    go None is = ap (option_map (order_index h)) (sym (target-nameless h e is))
    go (Some named) is =
        fitting-seen h e.1 (least_with (λ k. same_key (key_at h k) named) (length h)) (λ k finding_at_record. (least_with-some _ (length h) k finding_at_record).within)
        ∙ ap (option_map (order_index h)) (sym (target-named h e named clean is))

repeats-seen : (h longer : Records) (e : ℕ × OrderRecord) (place : ℕ) (o : Option ℕ) → SameBelow longer h (length h) → place ≡ e.0 → ((k : ℕ) → o ≡ Some k → k < length h) →
    option_map (λ k. repeats place (history_entry_place longer k)) o ≡ option_map (finding_at e.0) (duplicate_evidence (option_map (seen_at h) o))
repeats-seen h longer e place None same is within = refl
repeats-seen h longer e place (Some k) same is within =
    let earlier : history_entry_place longer k ≡ history_entry_place h k = record_place-same longer h same k (within k refl) in
    ap (λ (f : Finding). Some f) (ap (λ (p : ℕ). repeats p (history_entry_place longer k)) is ∙ ap (repeats e.0) earlier)

pub duplicate-step : (h : Records) (e : ℕ × OrderRecord) → duplicate_id_finding (h ++ e ∷ []) (length h) ≡ option_map (finding_at e.0) (duplicate_evidence (seen_by_key h (key_of e.1)))
duplicate-step h e =
    let longer : Records = h ++ e ∷ [] in
    let same = pushed-same h e in
    let own : key_at longer (length h) ≡ key_of e.1 = ap (λ (x : ℕ × OrderRecord). key_of x.1) (pushed-at h e) in
    let place : history_entry_place longer (length h) ≡ e.0 = ap (λ (x : ℕ × OrderRecord). x.0) (pushed-at h e) in
    let earlier : earlier_entry_with_key longer (length h) ≡ least_with (λ k. same_key (key_at h k) (key_of e.1)) (length h) =
    least_with-same _ _ (length h) (λ k lt. ap (λ (key : Key). same_key key (key_at longer (length h))) (key_at-same longer h same k lt) ∙ ap (same_key (key_at h k)) own) in
    ap (option_map (λ k. repeats (history_entry_place longer (length h)) (history_entry_place longer k))) earlier
    ∙ repeats-seen h longer e (history_entry_place longer (length h)) (least_with (λ k. same_key (key_at h k) (key_of e.1)) (length h)) same place (λ k finding_at_record. (least_with-some _ (length h) k finding_at_record).within)

back-step : (h : Records) (e : ℕ × OrderRecord) → time_back_finding (h ++ e ∷ []) (length h) ≡ option_map (finding_at e.0) (time_back_evidence (last_record h (length h)) (time_of e.1))
back-step h e = go (length h) refl
  where
    go : (n : ℕ) → n ≡ length h → time_back_finding (h ++ e ∷ []) n ≡ option_map (finding_at e.0) (time_back_evidence (last_record h n) (time_of e.1))
    go zero is = refl
    go (suc k) is =
        let longer : Records = h ++ e ∷ [] in
        let here : get_or longer (suc k) entry_past_end ≡ e = ap (λ (n : ℕ). get_or longer n entry_past_end) is ∙ pushed-at h e in
        let before : get_or longer k entry_past_end ≡ get_or h k entry_past_end = (pushed-same h e).at k (omega arith) in
        ap (λ (x : ℕ × OrderRecord). back_finding x (get_or longer k entry_past_end)) here
        ∙ ap (back_finding e) before
        ∙ kept-if (is_before (time_of e.1) (time_of (history_entry h k))) (TimeBack (history_entry_place h k)) (finding_at e.0)

is_none-option_map : {A B : Type 0} (f : A → B) (o : Option A) → is_none (option_map f o) ≡ is_none o
is_none-option_map f None = refl
is_none-option_map f (Some a) = refl

unknown-step : (h : Records) (e : ℕ × OrderRecord) → unknown_target_finding (h ++ e ∷ []) (length h) ≡ option_map (finding_at e.0) (unknown_target_evidence (target_key e.1) (option_map (order_index h) (target_of (h ++ e ∷ []) (length h))))
unknown-step h e =
    let target : Option ℕ = target_of (h ++ e ∷ []) (length h) in
    ap (λ (x : ℕ × OrderRecord). targetless x target) (pushed-at h e)
    ∙ ap (λ (b : Bool). only_if (is_some (target_key e.1) && b) (finding_at_record property.UnknownTarget which.Orders e.0 None None)) (sym (is_none-option_map (order_index h) target))
    ∙ kept-if (is_some (target_key e.1) && is_none (option_map (order_index h) target)) UnknownTarget (finding_at e.0)

-- the first of three answers, each of them mapped
first-mapped : {A B : Type 0} (f : A → B) (one two three : Option A) → first_answer (option_map f one ∷ option_map f two ∷ option_map f three ∷ []) ≡ option_map f (first_answer (one ∷ two ∷ three ∷ []))
first-mapped f (Some a) two three = refl
first-mapped f None (Some a) three = refl
first-mapped f None None (Some a) = refl
first-mapped f None None None = refl

-- the finding at the record
pub finding-step : (h : Records) (e : ℕ × OrderRecord) → entry_finding (h ++ e ∷ []) (length h) ≡
    option_map (finding_at e.0) (record_evidence (seen_by_key h (key_of e.1)) (last_record h (length h)) e.1 (option_map (order_index h) (target_of (h ++ e ∷ []) (length h))))
finding-step h e =
    let longer : Records = h ++ e ∷ [] in
    let one : Option Evidence = duplicate_evidence (seen_by_key h (key_of e.1)) in
    let two : Option Evidence = time_back_evidence (last_record h (length h)) (time_of e.1) in
    let three : Option Evidence = unknown_target_evidence (target_key e.1) (option_map (order_index h) (target_of longer (length h))) in
    ap (λ (o : Option Finding). first_answer (o ∷ time_back_finding longer (length h) ∷ unknown_target_finding longer (length h) ∷ [])) (duplicate-step h e)
    ∙ ap (λ (o : Option Finding). first_answer (option_map (finding_at e.0) one ∷ o ∷ unknown_target_finding longer (length h) ∷ [])) (back-step h e)
    ∙ ap (λ (o : Option Finding). first_answer (option_map (finding_at e.0) one ∷ option_map (finding_at e.0) two ∷ o ∷ [])) (unknown-step h e)
    ∙ first-mapped (finding_at e.0) one two three

-- what the record is seen as
pub seen-step : (h : Records) (e : ℕ × OrderRecord) → seen_at (h ++ e ∷ []) (length h) ≡ record { place = e.0; side = side_of e.1; index = if is_order e.1 then Some (length (orders_in h)) else None }
seen-step h e =
    let index : order_index (h ++ e ∷ []) (length h) ≡ length (orders_in h) = order_index-push h e (length h) (omega arith) ∙ sym (length-orders_in h) in
    let shown : (ℕ × OrderRecord) → ℕ → SeenRecord = λ x i. record { place = x.0; side = side_of x.1; index = if is_order x.1 then Some i else None } in
    ap (λ (x : ℕ × OrderRecord). shown x (order_index (h ++ e ∷ []) (length h))) (pushed-at h e) ∙ ap (shown e) index

-- the record is the last one
pub last-step : (h : Records) (e : ℕ × OrderRecord) → last_record (h ++ e ∷ []) (length (h ++ e ∷ [])) ≡ Some (record { place = e.0; time = time_of e.1 })
last-step h e =
    let last : (ℕ × OrderRecord) → Option LastRecord = λ x. Some (record { place = x.0; time = time_of x.1 }) in
    ap (last_record (h ++ e ∷ [])) (length-push h e) ∙ ap last (pushed-at h e)
