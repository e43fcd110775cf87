-- A draft of a history, with one record more.
use Rattle.std.proofs.Common.{◌≡◌, ℕ, Bool, true, false, Option, None, Some, List, [], ◌∷◌, ◌++◌, length, refl, sym, ap, subst, ◌∙◌}
use Rattle.std.specs.Prelude.{option_map, option_and_then, if◌then◌else◌}
use Rattle.std.specs.Option.{option_or}
use Rattle.audit_base.specs.declared.names.Key.{Key}
use Rattle.audit_base.specs.declared.orders.Order.{Order}
use Rattle.audit_base.specs.declared.records.OrderRecord.{OrderRecord}
use Rattle.audit_base.specs.Least.{only_if}
use Rattle.audit_base.specs.Orders.{same_key}
use Rattle.audit_base.specs.Histories.{key_of, target_key, entry_finding}
use Rattle.instruction_history.specs.declared.history_so_far.HistorySoFar.{HistorySoFar}
use Rattle.instruction_history.specs.declared.findings.LastRecord.{LastRecord}
use Rattle.audit_base.specs.declared.flaws.Evidence.{Evidence}
use Rattle.order_list.specs.declared.keys.SeenRecord.{SeenRecord}
use Rattle.instruction_history.specs.Draft.{IsHistorySoFar, kept_orders, finding_in_history, orders_in, seen_at, seen_by_key, last_record}
use Rattle.order_list.specs.declared.keys.Keys.{Keys}
use Rattle.std.proofs.lemmas.List.{length-map}
use Rattle.order_list.specs.declared.keys.KeyNumber.{KeyNumber}
use Rattle.order_list.specs.Keys.{record_seen_in, AddsKey, AddsNumber}
use Rattle.order_list.specs.Stored.{order_of}
use Rattle.order_list.proofs.StoredLemmas.{stored-kept, numbered-kept}
use Rattle.instruction_history.specs.Draft.{fitting_target, target_among, duplicate_evidence, record_evidence, with_target_ended, order_by_target, orders_with_own, seen_as, AddsRecord}
use Rattle.instruction_history.specs.Flaws.{finding_at}
use Rattle.instruction_history.proofs.CleanLemmas.{option_map-none}
use Rattle.instruction_history.proofs.FirstLemmas.{option_or-none, option_or-nothing, option_or-parts}
use Rattle.audit_base.proofs.HistoryLemmas.{same_key-is}
use Rattle.instruction_history.proofs.OrderLemmas.{target_index, orders-step}
use Rattle.instruction_history.proofs.PushLemmas.{finding_in-push, named_in-push}
use Rattle.instruction_history.proofs.RecordLemmas.{Records}
use Rattle.instruction_history.proofs.StepLemmas.{target-step, finding-step, seen-step, last-step}

and_then-same : {A B : Type 0} (f g : A → Option B) (o : Option A) → ((a : A) → f a ≡ g a) → option_and_then f o ≡ option_and_then g o
and_then-same f g None same = refl
and_then-same f g (Some a) same = same a

-- the target by what a draft holds
abbrev pub target_by : HistorySoFar → OrderRecord → Option ℕ
target_by d r = target_among (kept_orders d) (record_seen_in d.keys) r

target-by : (h : Records) (d : HistorySoFar) (e : ℕ × OrderRecord) → IsHistorySoFar h d → target_by d e.1 ≡ target_index h e
target-by h d e is =
    and_then-same _ _ (target_key e.1) (λ key. ap (option_and_then (λ s. option_and_then (fitting_target (kept_orders d) e.1) s.index)) (is.keys key))
    ∙ ap (λ (orders : List Order). target_among orders (seen_by_key h) e.1) is.orders
    ∙ target-step h e is.clean

-- what is wrong with a record by what is kept
abbrev pub evidence_so_far : HistorySoFar → OrderRecord → Option ℕ → Option Evidence
evidence_so_far d r target = record_evidence (record_seen_in d.keys (key_of r)) d.last r target

finding-by : (h : Records) (d : HistorySoFar) (e : ℕ × OrderRecord) (target : Option ℕ) → IsHistorySoFar h d → target ≡ target_by d e.1 → option_map (finding_at e.0) (evidence_so_far d e.1 target) ≡ finding_in_history (h ++ e ∷ [])
finding-by h d e target is by =
    ap (λ (s : Option SeenRecord). option_map (finding_at e.0) (record_evidence s d.last e.1 target)) (is.keys (key_of e.1))
    ∙ ap (λ (l : Option LastRecord). option_map (finding_at e.0) (record_evidence (seen_by_key h (key_of e.1)) l e.1 target)) is.last
    ∙ ap (λ (t : Option ℕ). option_map (finding_at e.0) (record_evidence (seen_by_key h (key_of e.1)) (last_record h (length h)) e.1 t)) (by ∙ target-by h d e is)
    ∙ sym (finding-step h e)
    ∙ sym (option_or-none (finding_in_history h) (entry_finding (h ++ e ∷ []) (length h)) is.clean)
    ∙ sym (finding_in-push h e)

-- what is wrong with it where this is what its key named
evidence-with : (d : HistorySoFar) (r : OrderRecord) (target : Option ℕ) (key : Key) (earlier : Option SeenRecord) → key ≡ key_of r → earlier ≡ record_seen_in d.keys key → record_evidence earlier d.last r target ≡ evidence_so_far d r target
evidence-with d r target key earlier own is = ap (λ (s : Option SeenRecord). record_evidence s d.last r target) (is ∙ ap (record_seen_in d.keys) own)

-- the finding of what is wrong by what a draft holds is that of the history
pub draft-found : (h : Records) (d : HistorySoFar) (place : ℕ) (r : OrderRecord) (target : Option ℕ) (key : Key) (earlier : Option SeenRecord) (evidence : Evidence) → IsHistorySoFar h d → target ≡ target_by d r → key ≡ key_of r → earlier ≡ record_seen_in d.keys key
    → Some evidence ≡ record_evidence earlier d.last r target → finding_in_history (h ++ (place, r) ∷ []) ≡ Some (finding_at place evidence)
draft-found h d place r target key earlier evidence is by own named found =
    sym (finding-by h d (place, r) target is by) ∙ ap (option_map (finding_at place)) (sym (evidence-with d r target key earlier own named) ∙ sym found)

-- what is kept once a record's key was added
abbrev pub with_key_of : HistorySoFar → Keys → HistorySoFar
with_key_of d keys = record { orders = d.orders; keys = keys; last = d.last }

-- the orders stay
same-orders : (h : Records) (d : HistorySoFar) (keys : Keys) (key : Key) (number : KeyNumber) → IsHistorySoFar h d → AddsNumber d.keys keys key number → kept_orders (with_key_of d keys) ≡ kept_orders d
same-orders h d keys key number is adds = stored-kept d.keys keys d.orders.items adds.keeps is.numbered

orders-by : (h : Records) (d new : HistorySoFar) (keys : Keys) (place : ℕ) (r : OrderRecord) (target : Option ℕ) (key : Key) (number : KeyNumber) → IsHistorySoFar h d → AddsNumber d.keys keys key number → target ≡ target_by d r → finding_in_history (h ++ (place, r) ∷ []) ≡ None
    → AddsRecord (with_key_of d keys) new place r target → kept_orders new ≡ orders_in (h ++ (place, r) ∷ [])
orders-by h d new keys place r target key number is adds by clean takes =
    takes.orders
    ∙ ap (λ (orders : List Order). orders_with_own (with_target_ended orders target place) (order_by_target orders r target place)) (same-orders h d keys key number is adds ∙ is.orders)
    ∙ ap (λ (t : Option ℕ). orders_with_own (with_target_ended (orders_in h) t place) (order_by_target (orders_in h) r t place)) (by ∙ target-by h d (place, r) is)
    ∙ sym (orders-step h (place, r) clean)

-- as many orders are kept as there are
count-kept : (d : HistorySoFar) → length d.orders.items ≡ length (kept_orders d)
count-kept d = sym (length-map d.orders.items (order_of d.keys))

keys-by : (h : Records) (d : HistorySoFar) (keys : Keys) (place : ℕ) (r : OrderRecord) (target : Option ℕ) → IsHistorySoFar h d → None ≡ evidence_so_far d r target → AddsKey d.keys keys (key_of r) (seen_as r place (length d.orders.items)) → (key : Key) → record_seen_in keys key ≡ seen_by_key (h ++ (place, r) ∷ []) key
keys-by h d keys place r target is none adds key = adds key ∙ go (same_key (key_of r) key) refl ∙ sym (named_in-push h (place, r) key)
  where
    go : (b : Bool) → same_key (key_of r) key ≡ b → (if b then Some (seen_as r place (length d.orders.items)) else record_seen_in d.keys key) ≡ option_or (seen_by_key h key) (only_if b (seen_at (h ++ (place, r) ∷ []) (length h)))
    go true e =
        let own : key_of r ≡ key = same_key-is (key_of r) key e in
        let unseen : record_seen_in d.keys (key_of r) ≡ None = option_map-none _ _ (option_or-parts (duplicate_evidence (record_seen_in d.keys (key_of r))) _ (sym none)).0 in
        let unnamed : seen_by_key h key ≡ None = sym (is.keys key) ∙ ap (record_seen_in d.keys) (sym own) ∙ unseen in
        ap (λ (n : ℕ). Some (seen_as r place n)) (count-kept d ∙ ap length is.orders)
        ∙ ap (λ (s : SeenRecord). Some s) (sym (seen-step h (place, r)))
        ∙ sym (option_or-none (seen_by_key h key) _ unnamed)
    go false e = is.keys key ∙ sym (option_or-nothing (seen_by_key h key))

-- where nothing is wrong with a record, its key named nothing before
pub clear-unseen : (earlier : Option SeenRecord) (last : Option LastRecord) (r : OrderRecord) (target : Option ℕ) → None ≡ record_evidence earlier last r target → earlier ≡ None
clear-unseen earlier last r target clear = option_map-none _ _ (option_or-parts (duplicate_evidence earlier) _ (sym clear)).0

pub draft-takes : (h : Records) (d new : HistorySoFar) (keys : Keys) (place : ℕ) (r : OrderRecord) (target : Option ℕ) (key : Key) (earlier : Option SeenRecord) (number : KeyNumber) → IsHistorySoFar h d → target ≡ target_by d r → key ≡ key_of r → earlier ≡ record_seen_in d.keys key
    → None ≡ record_evidence earlier d.last r target → AddsNumber d.keys keys key number
    → AddsKey d.keys keys key (seen_as r place (length d.orders.items)) → AddsRecord (with_key_of d keys) new place r target → IsHistorySoFar (h ++ (place, r) ∷ []) new
draft-takes h d new keys place r target key earlier number is by own named clear has adds takes =
    let none : None ≡ evidence_so_far d r target = clear ∙ evidence-with d r target key earlier own named in
    let clean : finding_in_history (h ++ (place, r) ∷ []) ≡ None = sym (finding-by h d (place, r) target is by) ∙ ap (option_map (finding_at place)) (sym none) in
    let added : AddsKey d.keys keys (key_of r) (seen_as r place (length d.orders.items)) = subst (λ (k : Key). AddsKey d.keys keys k (seen_as r place (length d.orders.items))) own adds in
    record {
      clean = clean;
      orders = orders-by h d new keys place r target key number is has by clean takes;
      numbered = takes.numbered (numbered-kept d.keys keys d.orders.items has.keeps is.numbered);
      keys = λ k. ap (λ (m : Keys). record_seen_in m k) takes.keys ∙ keys-by h d keys place r target is none added k;
      last = takes.last ∙ sym (last-step h (place, r));
    }
