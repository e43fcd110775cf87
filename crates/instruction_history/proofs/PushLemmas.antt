-- One record more at the end of a history.
use Rattle.std.proofs.Common.{◌≡◌, ◌<◌, ◌≤◌, ℕ, suc, Bool, true, false, Option, None, Some, List, [], ◌∷◌, ◌++◌, length, get_or, refl, sym, ap, ◌∙◌, arith}
use Rattle.std.specs.Prelude.{option_map, if◌then◌else◌}
use Rattle.std.specs.Option.{option_or}
use Rattle.std.proofs.lemmas.List.{get_or_append_left, get_or_at, take-append-le}
use Rattle.audit_base.specs.declared.names.Key.{Key}
use Rattle.audit_base.specs.declared.findings.Finding.{Finding}
use Rattle.audit_base.specs.declared.records.OrderRecord.{OrderRecord}
use Rattle.audit_base.specs.Least.{least_answer, least_with, only_if}
use Rattle.audit_base.specs.Orders.{same_key}
use Rattle.audit_base.specs.Histories.{key_of, is_order, side_of, ends_order, entry_past_end, history_entry, history_entry_place, key_at, entry_finding, is_placed, cancelled_of, order_index, replaced_order_at}
use Rattle.instruction_history.specs.Draft.{finding_in_history, seen_at, seen_by_key}
use Rattle.order_list.specs.declared.keys.SeenRecord.{SeenRecord}
use Rattle.instruction_history.proofs.FirstLemmas.{least_answer-same, least_with-same, least_with-some, option_or-parts}
use Rattle.audit_base.proofs.PlacedLemmas.{replaced-before}
use Rattle.instruction_history.proofs.RecordLemmas.{Records, SameBelow, key_at-same, record_at-same, record_place-same, record_finding-same, is_placed-same, replaced-same, option_map-same}

pub length-push : {A : Type 0} (xs : List A) (x : A) → length (xs ++ x ∷ []) ≡ suc (length xs)
length-push [] x = refl
length-push (y ∷ xs) x = ap suc (length-push xs x)

pub pushed-same : (h : Records) (e : ℕ × OrderRecord) → SameBelow (h ++ e ∷ []) h (length h)
pushed-same h e = record { at = λ j lt. get_or_append_left h (e ∷ []) entry_past_end j lt }

pub pushed-at : (h : Records) (e : ℕ × OrderRecord) → get_or (h ++ e ∷ []) (length h) entry_past_end ≡ e
pushed-at h e = get_or_at h e [] entry_past_end (length h) refl

-- the first finding is that of the records before, or else that of the record
pub finding_in-push : (h : Records) (e : ℕ × OrderRecord) → finding_in_history (h ++ e ∷ []) ≡ option_or (finding_in_history h) (entry_finding (h ++ e ∷ []) (length h))
finding_in-push h e =
    let before : least_answer (entry_finding (h ++ e ∷ [])) (length h) ≡ finding_in_history h =
    least_answer-same (entry_finding (h ++ e ∷ [])) (entry_finding h) (length h) (λ k lt. record_finding-same (length h) (h ++ e ∷ []) h (pushed-same h e) k lt) in
    ap (least_answer (entry_finding (h ++ e ∷ []))) (length-push h e) ∙ ap (λ (o : Option Finding). option_or o (entry_finding (h ++ e ∷ []) (length h))) before

pub clean-before : (h : Records) (e : ℕ × OrderRecord) → finding_in_history (h ++ e ∷ []) ≡ None → finding_in_history h ≡ None
clean-before h e clean = (option_or-parts (finding_in_history h) _ (sym (finding_in-push h e) ∙ clean)).0

-- an earlier record keeps its index in the order list
pub order_index-push : (h : Records) (e : ℕ × OrderRecord) (k : ℕ) → k ≤ length h → order_index (h ++ e ∷ []) k ≡ order_index h k
order_index-push h e k le = rw (take-append-le k h (e ∷ []) le) refl

pub seen_at-push : (h : Records) (e : ℕ × OrderRecord) (k : ℕ) → k < length h → seen_at (h ++ e ∷ []) k ≡ seen_at h k
seen_at-push h e k lt =
    let entry : get_or (h ++ e ∷ []) k entry_past_end ≡ get_or h k entry_past_end = get_or_append_left h (e ∷ []) entry_past_end k lt in
    let index : order_index (h ++ e ∷ []) k ≡ order_index h k = order_index-push h e k (omega arith) in
    let shown : (ℕ × OrderRecord) → ℕ → SeenRecord = λ x i. record { place = x.0; side = side_of x.1; index = if is_order x.1 then Some i else None } in
    ap (λ (x : ℕ × OrderRecord). shown x (order_index (h ++ e ∷ []) k)) entry ∙ ap (shown (get_or h k entry_past_end)) index

-- a first number below n, or else n
mapped-or : {A : Type 0} (f g : ℕ → A) (o : Option ℕ) (b : Bool) (n : ℕ) (a : A) → ((j : ℕ) → o ≡ Some j → f j ≡ g j) → f n ≡ a → option_map f (option_or o (if b then Some n else None)) ≡ option_or (option_map g o) (only_if b a)
mapped-or {A = A} f g (Some j) b n a same here = ap (λ (x : A). Some x) (same j refl)
mapped-or {A = A} f g None true n a same here = ap (λ (x : A). Some x) here
mapped-or f g None false n a same here = refl

-- a key names what it named before, or else the record
pub named_in-push : (h : Records) (e : ℕ × OrderRecord) (key : Key) → seen_by_key (h ++ e ∷ []) key ≡ option_or (seen_by_key h key) (only_if (same_key (key_of e.1) key) (seen_at (h ++ e ∷ []) (length h)))
named_in-push h e key =
    let longer : Records = h ++ e ∷ [] in
    let same = pushed-same h e in
    let before : least_with (λ k. same_key (key_at longer k) key) (length h) ≡ least_with (λ k. same_key (key_at h k) key) (length h) =
    least_with-same _ _ (length h) (λ k lt. ap (λ (own : Key). same_key own key) (key_at-same longer h same k lt)) in
    let here : same_key (key_at longer (length h)) key ≡ same_key (key_of e.1) key = ap (λ (x : ℕ × OrderRecord). same_key (key_of x.1) key) (pushed-at h e) in
    ap (λ (n : ℕ). option_map (seen_at longer) (least_with (λ k. same_key (key_at longer k) key) n)) (length-push h e)
    ∙ ap (λ (o : Option ℕ). option_map (seen_at longer) (option_or o (if same_key (key_at longer (length h)) key then Some (length h) else None))) before
    ∙ ap (λ (b : Bool). option_map (seen_at longer) (option_or (least_with (λ k. same_key (key_at h k) key) (length h)) (if b then Some (length h) else None))) here
    ∙ mapped-or (seen_at longer) (seen_at h) (least_with (λ k. same_key (key_at h k) key) (length h)) (same_key (key_of e.1) key) (length h) (seen_at longer (length h))
    (λ j is. seen_at-push h e j (least_with-some _ (length h) j is).within) refl

chosen-or : {A : Type 0} (placed : Bool) (o p more : Option A) (own : A) → o ≡ option_or p more → (if placed then o else Some own) ≡ option_or (if placed then p else Some own) more
chosen-or true o p more own e = e
chosen-or false o p more own e = refl

-- an order is cancelled where it was, or else by the record
pub cancelled-push : (h : Records) (e : ℕ × OrderRecord) (k : ℕ) → k < length h → cancelled_of (h ++ e ∷ []) k ≡ option_or (cancelled_of h k) (only_if (ends_order (key_at h k) e.1) e.0)
cancelled-push h e k lt =
    let longer : Records = h ++ e ∷ [] in
    let same = pushed-same h e in
    let key : key_at longer k ≡ key_at h k = key_at-same longer h same k lt in
    let before : least_with (λ j. ends_order (key_at longer k) (history_entry longer j)) (length h) ≡ least_with (λ j. ends_order (key_at h k) (history_entry h j)) (length h) =
    least_with-same _ _ (length h) (λ j less. ap (λ (own : Key). ends_order own (history_entry longer j)) key ∙ ap (ends_order (key_at h k)) (record_at-same longer h same j less)) in
    let here : ends_order (key_at longer k) (history_entry longer (length h)) ≡ ends_order (key_at h k) e.1 =
    ap (λ (own : Key). ends_order own (history_entry longer (length h))) key ∙ ap (λ (x : ℕ × OrderRecord). ends_order (key_at h k) x.1) (pushed-at h e) in
    let ending : option_map (history_entry_place longer) (least_with (λ j. ends_order (key_at longer k) (history_entry longer j)) (length longer)) ≡ option_or (option_map (history_entry_place h) (least_with (λ j. ends_order (key_at h k) (history_entry h j)) (length h))) (only_if (ends_order (key_at h k) e.1) e.0) =
    ap (λ (n : ℕ). option_map (history_entry_place longer) (least_with (λ j. ends_order (key_at longer k) (history_entry longer j)) n)) (length-push h e)
    ∙ ap (λ (o : Option ℕ). option_map (history_entry_place longer) (option_or o (if ends_order (key_at longer k) (history_entry longer (length h)) then Some (length h) else None))) before
    ∙ ap (λ (b : Bool). option_map (history_entry_place longer) (option_or (least_with (λ j. ends_order (key_at h k) (history_entry h j)) (length h)) (if b then Some (length h) else None))) here
    ∙ mapped-or (history_entry_place longer) (history_entry_place h) (least_with (λ j. ends_order (key_at h k) (history_entry h j)) (length h)) (ends_order (key_at h k) e.1) (length h) e.0
    (λ j is. record_place-same longer h same j (least_with-some _ (length h) j is).within) (ap (λ (x : ℕ × OrderRecord). x.0) (pushed-at h e)) in
    let placed : is_placed longer k ≡ is_placed h k = is_placed-same (length h) longer h same k lt in
    let place : history_entry_place longer k ≡ history_entry_place h k = record_place-same longer h same k lt in
    rw (placed, place) (chosen-or (is_placed h k) _ _ _ (history_entry_place h k) ending)

-- the target of an order stays
pub target_index-push : (h : Records) (e : ℕ × OrderRecord) (k : ℕ) → k < length h → option_map (order_index (h ++ e ∷ [])) (replaced_order_at (h ++ e ∷ []) k) ≡ option_map (order_index h) (replaced_order_at h k)
target_index-push h e k lt =
    ap (option_map (order_index (h ++ e ∷ []))) (replaced-same (length h) (h ++ e ∷ []) h (pushed-same h e) k lt)
    ∙ option_map-same _ _ (replaced_order_at h k) (λ t is. order_index-push h e t (let less = replaced-before h k t is in omega arith))
