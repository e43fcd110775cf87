-- What becomes of the order list with one record more.
use Rattle.std.proofs.Common.{◌≡◌, ◌≢◌, ◌<◌, ℕ, suc, Bool, true, false, Option, None, Some, List, [], ◌∷◌, ◌++◌, length, get_or, set, refl, sym, ap, ◌∙◌, arith, zero-add, append-nil}
use Rattle.std.specs.Prelude.{is_some, is_none, option_map, filter_map, ◌&&◌, not, if◌then◌else◌}
use Rattle.std.specs.Option.{option_or}
use Rattle.std.specs.List.{cons_option}
use Rattle.std.proofs.lemmas.Bool.{and_parts, false_from_ne_true}
use Rattle.std.proofs.lemmas.Option.{same_Some}
use Rattle.std.proofs.lemmas.List.Elements.{filter_map-append}
use Rattle.std.proofs.lemmas.List.FromFn.{length-enumerate_from}
use Rattle.audit_base.specs.declared.names.Key.{Key}
use Rattle.audit_base.specs.declared.orders.Order.{Order}
use Rattle.audit_base.specs.declared.records.OrderRecord.{OrderRecord}
use Rattle.audit_base.specs.declared.records.OrderRecord.TheVariants.{New, Cancel, Replace}
use Rattle.audit_base.specs.Least.{least_with, only_if}
use Rattle.audit_base.specs.Histories.{target_key, is_order, ends_order, side_of, fits_side, entry_past_end, history_entry, history_entry_place, key_at, target_of, replaced_order_at, is_ended_before, is_placed, cancelled_of, order_index, order_of_entry}
use Rattle.instruction_history.specs.Draft.{finding_in_history, orders_in}
use Rattle.order_list.specs.Changed.{with_ending}
use Rattle.instruction_history.specs.Draft.{with_target_ended, own_end, order_by_target, orders_with_own}
use Rattle.instruction_history.proofs.FirstLemmas.{least_with-from_none, least_with-some, any_below-is, option_or-nothing}
use Rattle.instruction_history.proofs.CleanLemmas.{clean-ender, clean-target, nameless-ends}
use Rattle.instruction_history.proofs.MadeLemmas.{order_in, numbered, any_numbered, numbered-at, IsAt, standing, order_index-kept}
use Rattle.instruction_history.proofs.PlaceLemmas.{filter_map-same, filter_map-set, enumerate_from-push}
use Rattle.instruction_history.proofs.PushLemmas.{length-push, pushed-same, pushed-at, order_index-push, cancelled-push, target_index-push}
use Rattle.instruction_history.proofs.StepLemmas.{target-nameless}
use Rattle.audit_base.proofs.PlacedLemmas.{replaced-before, is_placed-new, is_placed-replacement}
use Rattle.instruction_history.proofs.RecordLemmas.{Records, key_at-same, record_at-same, target-before, is_placed-same, ended_before-same}

-- the orders of the earlier records, and that of the record
parted : (h : Records) (e : ℕ × OrderRecord) → orders_in (h ++ e ∷ []) ≡ filter_map (order_in (h ++ e ∷ [])) (numbered h) ++ cons_option (order_of_entry (h ++ e ∷ []) (length h, e.0, e.1)) []
parted h e =
    let longer : Records = h ++ e ∷ [] in
    ap (filter_map (order_in longer)) (enumerate_from-push 0 h e ∙ ap (λ (n : ℕ). numbered h ++ (n, e) ∷ []) (zero-add (length h)))
    ∙ filter_map-append (order_in longer) (numbered h) ((length h, e) ∷ [])

-- an order, cancelled by a record at a place if by any
abbrev stopped : Option ℕ → Order → Order
stopped c o = record o { cancelled = option_or o.cancelled c }

made-stopped : (h g : Records) (k at : ℕ) (r : OrderRecord) (c : Option ℕ) → cancelled_of g k ≡ option_or (cancelled_of h k) c → option_map (order_index g) (replaced_order_at g k) ≡ option_map (order_index h) (replaced_order_at h k) →
    order_of_entry g (k, at, r) ≡ option_map (stopped c) (order_of_entry h (k, at, r))
made-stopped h g k at (New key time symbol side quantity price life) c cancels targets = rw cancels refl
made-stopped h g k at (Cancel key time symbol target) c cancels targets = refl
made-stopped h g k at (Replace key time symbol target side quantity price) c cancels targets = rw (cancels, targets) refl

-- an earlier order, cancelled if the record ends it
earlier : (h : Records) (e : ℕ × OrderRecord) (k : ℕ) → k < length h →
    order_in (h ++ e ∷ []) (get_or (numbered h) k any_numbered) ≡ option_map (stopped (only_if (ends_order (key_at h k) e.1) e.0)) (order_in h (get_or (numbered h) k any_numbered))
earlier h e k lt =
    let x : ℕ × OrderRecord = get_or h k entry_past_end in
    ap (order_in (h ++ e ∷ [])) (numbered-at h k lt)
    ∙ made-stopped h (h ++ e ∷ []) k x.0 x.1 (only_if (ends_order (key_at h k) e.1) e.0) (cancelled-push h e k lt) (target_index-push h e k lt)
    ∙ ap (λ (z : ℕ × (ℕ × OrderRecord)). option_map (stopped (only_if (ends_order (key_at h k) e.1) e.0)) (order_in h z)) (sym (numbered-at h k lt))

stopped-nothing : (o : Option Order) (b : Bool) (place : ℕ) → b ≡ false → option_map (stopped (only_if b place)) o ≡ o
stopped-nothing None b place e = refl
stopped-nothing (Some o) b place e = rw e (ap (λ (c : Option ℕ). Some (record o { cancelled = c })) (option_or-nothing o.cancelled))

-- an order that the record doesn't end stays
stays : (h : Records) (e : ℕ × OrderRecord) (k : ℕ) → k < length h → ends_order (key_at h k) e.1 ≡ false → order_in (h ++ e ∷ []) (get_or (numbered h) k any_numbered) ≡ order_in h (get_or (numbered h) k any_numbered)
stays h e k lt apart = earlier h e k lt ∙ stopped-nothing (order_in h (get_or (numbered h) k any_numbered)) _ e.0 apart

-- where the record ends nothing, the earlier orders stay
earlier-stay : (h : Records) (e : ℕ × OrderRecord) → target_key e.1 ≡ None → filter_map (order_in (h ++ e ∷ [])) (numbered h) ≡ orders_in h
earlier-stay h e nameless =
    let numbers : length (numbered h) ≡ length h = length-enumerate_from 0 h in
    filter_map-same _ _ (numbered h) any_numbered (λ k lt. stays h e k (omega arith) (nameless-ends (key_at h k) e.1 nameless))

-- what the record ends, said of the longer history
ends-push : (h : Records) (e : ℕ × OrderRecord) (k : ℕ) → k < length h → ends_order (key_at (h ++ e ∷ []) k) (history_entry (h ++ e ∷ []) (length h)) ≡ ends_order (key_at h k) e.1
ends-push h e k lt =
    ap (λ (key : Key). ends_order key (history_entry (h ++ e ∷ []) (length h))) (key_at-same (h ++ e ∷ []) h (pushed-same h e) k lt)
    ∙ ap (λ (x : ℕ × OrderRecord). ends_order (key_at h k) x.1) (pushed-at h e)

-- the target of the record: an order of the history that it ends
pub record IsEnded (h : Records) (e : ℕ × OrderRecord) (t : ℕ) : Type 0 where
  pub within : t < length h
  pub ordered : is_order (history_entry h t) ≡ true
  pub ending : ends_order (key_at h t) e.1 ≡ true
  pub fits : fits_side (side_of e.1) (side_of (history_entry h t)) ≡ true
  pub others : (k : ℕ) → k < length h → k ≢ t → ends_order (key_at h k) e.1 ≡ false

pub is-ended : (h : Records) (e : ℕ × OrderRecord) (t : ℕ) → finding_in_history (h ++ e ∷ []) ≡ None → target_of (h ++ e ∷ []) (length h) ≡ Some t → IsEnded h e t
is-ended h e t clean is =
    let longer : Records = h ++ e ∷ [] in
    let lengths : length longer ≡ suc (length h) = length-push h e in
    let within : t < length h = target-before longer (length h) t is in
    let all = and_parts _ _ (least_with-some _ (length h) t is).passes in
    let passes = and_parts _ _ all.0 in
    let same_record : history_entry longer t ≡ history_entry h t = record_at-same longer h (pushed-same h e) t within in
    let ordered : is_order (history_entry h t) ≡ true = ap is_order (sym same_record) ∙ passes.0 in
    let ending : ends_order (key_at h t) e.1 ≡ true = sym (ends-push h e t within) ∙ passes.1 in
    record {
      within = within;
      ordered = ordered;
      ending = ending;
      fits = ap (λ (r : OrderRecord). fits_side (side_of e.1) (side_of r)) (sym same_record) ∙ ap (λ (x : ℕ × OrderRecord). fits_side (side_of x.1) (side_of (history_entry longer t))) (sym (pushed-at h e)) ∙ all.1;
      others = λ k lt apart. false_from_ne_true (ends_order (key_at h k) e.1)
          (λ also. let one : target_of longer (length h) ≡ Some k = clean-ender longer clean (length h) k (omega arith) (omega arith) (ends-push h e k lt ∙ also) in
          apart (same_Some k t (sym one ∙ is)));
    }

-- the earlier orders, where the record has a target
earlier-ended : (h : Records) (e : ℕ × OrderRecord) (t : ℕ) → IsEnded h e t → filter_map (order_in (h ++ e ∷ [])) (numbered h) ≡ with_target_ended (orders_in h) (Some (order_index h t)) e.0
earlier-ended h e t is =
    let longer : Records = h ++ e ∷ [] in
    let numbers : length (numbered h) ≡ length h = length-enumerate_from 0 h in
    let within : t < length h = is.within in
    let stands = standing h t is.within is.ordered in
    let o : Order = stands.0 in
    let at : IsAt h t o = stands.1 in
    let before : order_in h (get_or (numbered h) t any_numbered) ≡ Some o = ap (order_in h) (numbered-at h t is.within) ∙ at.made.made in
    let after : order_in longer (get_or (numbered h) t any_numbered) ≡ Some (with_ending e.0 o) =
    earlier h e t is.within ∙ ap (option_map (stopped (only_if (ends_order (key_at h t) e.1) e.0))) before ∙ ap (λ (b : Bool). Some (stopped (only_if b e.0) o)) is.ending in
    filter_map-set (order_in h) (order_in longer) (numbered h) any_numbered t o (with_ending e.0 o) (omega arith) before after
    (λ k lt apart. sym (stays h e k (omega arith) (is.others k (omega arith) apart)))
    ∙ ap (λ (i : ℕ). set (orders_in h) i (with_ending e.0 o)) (order_index-kept h t)
    ∙ ap (λ (x : Order). set (orders_in h) (order_index h t) (with_ending e.0 x)) (sym at.at)

-- no record up to it ends the new one
unended : (h : Records) (e : ℕ × OrderRecord) → finding_in_history (h ++ e ∷ []) ≡ None → least_with (λ j. ends_order (key_at (h ++ e ∷ []) (length h)) (history_entry (h ++ e ∷ []) j)) (length (h ++ e ∷ [])) ≡ None
unended h e clean =
    let longer : Records = h ++ e ∷ [] in
    let lengths : length longer ≡ suc (length h) = length-push h e in
    least_with-from_none _ (length longer)
    (λ j lt. false_from_ne_true _
    (λ also. let before : length h < j = target-before longer j (length h) (clean-ender longer clean j (length h) lt (omega arith) also) in omega arith))

cancelled-new : (h : Records) (e : ℕ × OrderRecord) → finding_in_history (h ++ e ∷ []) ≡ None → cancelled_of (h ++ e ∷ []) (length h) ≡ (if is_placed (h ++ e ∷ []) (length h) then None else Some e.0)
cancelled-new h e clean =
    let longer : Records = h ++ e ∷ [] in
    ap (λ (o : Option ℕ). if is_placed longer (length h) then option_map (history_entry_place longer) o else Some (history_entry_place longer (length h))) (unended h e clean)
    ∙ ap (λ (x : ℕ × OrderRecord). if is_placed longer (length h) then None else Some x.0) (pushed-at h e)

-- a target that is there: placed, and ended by no record so far
there : {A : Type 0} (first : Option ℕ) (placed : Bool) (f : ℕ → A) (own : A) → (not (is_some first) && placed) ≡ is_none (if placed then option_map f first else Some own)
there None true f own = refl
there None false f own = refl
there (Some k) true f own = refl
there (Some k) false f own = refl

placed-push : (h : Records) (e : ℕ × OrderRecord) (t : ℕ) → replaced_order_at (h ++ e ∷ []) (length h) ≡ Some t → is_placed (h ++ e ∷ []) (length h) ≡ is_none (cancelled_of h t)
placed-push h e t is =
    let longer : Records = h ++ e ∷ [] in
    let same = pushed-same h e in
    let within : t < length h = replaced-before longer (length h) t is in
    is_placed-replacement longer (length h) t is
    ∙ ap (λ (b : Bool). not b && is_placed longer t) (ended_before-same (length h) longer h same (length h) t (omega arith) within)
    ∙ ap (λ (b : Bool). not (is_ended_before h (length h) t) && b) (is_placed-same (length h) longer h same t within)
    ∙ ap (λ (b : Bool). not b && is_placed h t) (any_below-is (λ j. ends_order (key_at h t) (history_entry h j)) (length h))
    ∙ there (least_with (λ j. ends_order (key_at h t) (history_entry h j)) (length h)) (is_placed h t) (history_entry_place h) (history_entry_place h t)

replaced-push : (h : Records) (e : ℕ × OrderRecord) → is_order e.1 ≡ true → replaced_order_at (h ++ e ∷ []) (length h) ≡ target_of (h ++ e ∷ []) (length h)
replaced-push h e ordered =
    ap (λ (x : ℕ × OrderRecord). if is_order x.1 then target_of (h ++ e ∷ []) (length h) else None) (pushed-at h e)
    ∙ ap (λ (b : Bool). if b then target_of (h ++ e ∷ []) (length h) else None) ordered

-- a replacement ends at its own place, unless its target is there
own_end-push : (h : Records) (e : ℕ × OrderRecord) (t : ℕ) → finding_in_history (h ++ e ∷ []) ≡ None → is_order e.1 ≡ true → target_of (h ++ e ∷ []) (length h) ≡ Some t →
    cancelled_of (h ++ e ∷ []) (length h) ≡ own_end (orders_in h) (Some (order_index h t)) e.0
own_end-push h e t clean ordered is =
    let longer : Records = h ++ e ∷ [] in
    let ending : IsEnded h e t = is-ended h e t clean is in
    let stands = standing h t ending.within ending.ordered in
    let o : Order = stands.0 in
    let at : IsAt h t o = stands.1 in
    cancelled-new h e clean
    ∙ ap (λ (b : Bool). if b then None else Some e.0) (placed-push h e t (replaced-push h e ordered ∙ is))
    ∙ ap (λ (c : Option ℕ). if is_none c then None else Some e.0) (sym at.made.cancelled)
    ∙ ap (λ (x : Order). if is_none x.cancelled then None else Some e.0) (sym at.at)

-- a new order is placed and has no target
new-cancelled : (h : Records) (e : ℕ × OrderRecord) → finding_in_history (h ++ e ∷ []) ≡ None → is_order e.1 ≡ true → target_of (h ++ e ∷ []) (length h) ≡ None → cancelled_of (h ++ e ∷ []) (length h) ≡ None
new-cancelled h e clean ordered none =
    cancelled-new h e clean
    ∙ ap (λ (b : Bool). if b then None else Some e.0) (is_placed-new (h ++ e ∷ []) (length h) (replaced-push h e ordered ∙ none))

-- the record's target, as an index in the order list
abbrev pub target_index : Records → ℕ × OrderRecord → Option ℕ
target_index h e = option_map (order_index h) (target_of (h ++ e ∷ []) (length h))

replaced-index : (h : Records) (e : ℕ × OrderRecord) (t : ℕ) → is_order e.1 ≡ true → target_of (h ++ e ∷ []) (length h) ≡ Some t → option_map (order_index (h ++ e ∷ [])) (replaced_order_at (h ++ e ∷ []) (length h)) ≡ Some (order_index h t)
replaced-index h e t ordered is =
    let within : t < length h = target-before (h ++ e ∷ []) (length h) t is in
    ap (option_map (order_index (h ++ e ∷ []))) (replaced-push h e ordered ∙ is) ∙ ap (λ (i : ℕ). Some i) (order_index-push h e t (omega arith))

-- the order of the record
new-order : (h : Records) (e : ℕ × OrderRecord) → finding_in_history (h ++ e ∷ []) ≡ None → order_of_entry (h ++ e ∷ []) (length h, e.0, e.1) ≡ order_by_target (orders_in h) e.1 (target_index h e) e.0
new-order h (place, New key time symbol side quantity price life) clean =
    let none = target-nameless h (place, New key time symbol side quantity price life) refl in
    let live = new-cancelled h (place, New key time symbol side quantity price life) clean refl none in
    let targetless : target_index h (place, New key time symbol side quantity price life) ≡ None = ap (option_map (order_index h)) none in
    rw (live, targetless) refl
new-order h (place, Cancel key time symbol target) clean = refl
new-order h (place, Replace key time symbol target side quantity price) clean =
    let e : ℕ × OrderRecord = (place, Replace key time symbol target side quantity price) in
    let found = clean-target (h ++ e ∷ []) clean (length h) (record { firm = key.firm; id = target }) (let lengths = length-push h e in omega arith) (ap (λ (x : ℕ × OrderRecord). target_key x.1) (pushed-at h e)) in
    let is : target_of (h ++ e ∷ []) (length h) ≡ Some found.0 = found.1 in
    let ending = own_end-push h e found.0 clean refl is in
    let index = replaced-index h e found.0 refl is in
    let target : target_index h e ≡ Some (order_index h found.0) = ap (option_map (order_index h)) is in
    rw (ending, index, target) refl

pushed-is : (orders : List Order) (o : Option Order) → (orders ++ cons_option o []) ≡ orders_with_own orders o
pushed-is orders None = append-nil orders
pushed-is orders (Some o) = refl

earlier-step : (h : Records) (e : ℕ × OrderRecord) → finding_in_history (h ++ e ∷ []) ≡ None → filter_map (order_in (h ++ e ∷ [])) (numbered h) ≡ with_target_ended (orders_in h) (target_index h e) e.0
earlier-step h e clean = go (target_key e.1) refl
  where
    go : (named : Option Key) → target_key e.1 ≡ named → filter_map (order_in (h ++ e ∷ [])) (numbered h) ≡ with_target_ended (orders_in h) (target_index h e) e.0
    go None is = earlier-stay h e is ∙ ap (λ (o : Option ℕ). with_target_ended (orders_in h) (option_map (order_index h) o) e.0) (sym (target-nameless h e is))
    go (Some named) is =
        let found = clean-target (h ++ e ∷ []) clean (length h) named (let lengths = length-push h e in omega arith) (ap (λ (x : ℕ × OrderRecord). target_key x.1) (pushed-at h e) ∙ is) in
        earlier-ended h e found.0 (is-ended h e found.0 clean found.1) ∙ ap (λ (o : Option ℕ). with_target_ended (orders_in h) (option_map (order_index h) o) e.0) (sym found.1)

-- the orders with one record more: the target ended, and the record's order at the end
pub orders-step : (h : Records) (e : ℕ × OrderRecord) → finding_in_history (h ++ e ∷ []) ≡ None → orders_in (h ++ e ∷ []) ≡ orders_with_own (with_target_ended (orders_in h) (target_index h e) e.0) (order_by_target (orders_in h) e.1 (target_index h e) e.0)
orders-step h e clean =
    parted h e
    ∙ ap (λ (front : List Order). front ++ cons_option (order_of_entry (h ++ e ∷ []) (length h, e.0, e.1)) []) (earlier-step h e clean)
    ∙ pushed-is (with_target_ended (orders_in h) (target_index h e) e.0) (order_of_entry (h ++ e ∷ []) (length h, e.0, e.1))
    ∙ ap (orders_with_own (with_target_ended (orders_in h) (target_index h e) e.0)) (new-order h e clean)
