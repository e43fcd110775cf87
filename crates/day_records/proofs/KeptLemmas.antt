-- Where the names of kept records lie.
use Rattle.std.proofs.Common.{◌≡◌, ◌+◌, ◌∙◌, ℕ, List, [], ◌∷◌, ◌++◌, IsTrue, length, take, refl, sym, ap, arith}
use Rattle.std.proofs.lemmas.List.{length-append, take_all, append_assoc, map-append}
use Rattle.std.proofs.Math.Seq.{drop-append_seam}
use Rattle.std.proofs.lemmas.List.Elements.{All-weaker, All-head, All-tail, All-push}
use Rattle.audit_base.specs.Names.{is_name}
use Rattle.audit_base.specs.Histories.{key_of, symbol_of}
use Rattle.audit_base.specs.declared.records.OrderRecord.{OrderRecord}
use Rattle.audit_base.specs.declared.records.OrderRecord.TheVariants as entry_of
use Rattle.day_records.specs.declared.kept_orders.KeptOrder.{KeptOrder}
use Rattle.day_records.specs.NameRows.{part_of, name_at}
use Rattle.day_records.proofs.NameRowLemmas.{name-kept, part-between, is-name}
use Rattle.day_records.specs.KeptOrders.{record_of, with_names, kept_order, names_of, target_text, HasNames, IsInside, AreInside, entries_of}

-- Bytes behind the others change nothing.

pub record-kept : (symbol bytes more : List ℕ) (kept : KeptOrder) → IsInside bytes kept → record_of symbol (bytes ++ more) kept ≡ record_of symbol bytes kept
record-kept symbol bytes more kept inside =
    let firm = name-kept bytes more kept.start kept.firm_size (omega (arith, inside)) in
    let id = name-kept bytes more (kept.start + kept.firm_size) kept.id_size (omega (arith, inside)) in
    let target = name-kept bytes more (kept.start + kept.firm_size + kept.id_size) kept.target_size (omega (arith, inside)) in
    λ i. with_names kept.terms (record { firm = firm i; id = id i }) kept.time symbol (target i)

pub entries-kept : (symbol bytes more : List ℕ) (orders : List KeptOrder) → AreInside bytes orders → entries_of symbol (bytes ++ more) orders ≡ entries_of symbol bytes orders
entries-kept symbol bytes more [] inside = refl
entries-kept symbol bytes more (own ∷ orders) inside =
    let here = record-kept symbol bytes more own (All-head (IsInside bytes) own orders inside) in
    let rest = entries-kept symbol bytes more orders (All-tail (IsInside bytes) own orders inside) in
    λ i. (own.place, here i) ∷ rest i

pub inside-kept : (bytes more : List ℕ) (orders : List KeptOrder) → AreInside bytes orders → AreInside (bytes ++ more) orders
inside-kept bytes more orders inside =
    All-weaker (IsInside bytes) (IsInside (bytes ++ more)) (λ own in_bytes. omega (arith, in_bytes, length-append bytes more)) orders inside

-- The names of one more.

first-name : (bytes firm id target : List ℕ) → IsTrue (is_name firm) → name_at (bytes ++ (firm ++ (id ++ target))) (length bytes) (length firm) ≡ firm
first-name bytes firm id target named = is-name firm _ (part-between bytes firm (id ++ target) (length bytes) refl) named

second-name : (bytes firm id target : List ℕ) → IsTrue (is_name id) → name_at (bytes ++ (firm ++ (id ++ target))) (length bytes + length firm) (length id) ≡ id
second-name bytes firm id target named =
    is-name id _
    (ap (λ (xs : List ℕ). part_of xs (length bytes + length firm) (length id)) (sym (append_assoc bytes firm (id ++ target)))
    ∙ part-between (bytes ++ firm) id target (length bytes + length firm) (sym (length-append bytes firm)))
    named

third-name : (bytes firm id target : List ℕ) → IsTrue (is_name target) → name_at (bytes ++ (firm ++ (id ++ target))) (length bytes + length firm + length id) (length target) ≡ target
third-name bytes firm id target named =
    let front : length bytes + length firm + length id ≡ length ((bytes ++ firm) ++ id) = omega (arith, length-append (bytes ++ firm) id, length-append bytes firm) in
    let parts : bytes ++ (firm ++ (id ++ target)) ≡ ((bytes ++ firm) ++ id) ++ target = sym (append_assoc (bytes ++ firm) id target ∙ append_assoc bytes firm (id ++ target)) in
    is-name target _
    (ap (λ (xs : List ℕ). part_of xs (length bytes + length firm + length id) (length target)) parts
    ∙ ap (λ (n : ℕ). part_of (((bytes ++ firm) ++ id) ++ target) n (length target)) front
    ∙ ap (take (length target)) (drop-append_seam ((bytes ++ firm) ++ id) target)
    ∙ take_all (length target) target (omega arith))
    named

-- one more is the record that it was made of
pub own-record : (bytes : List ℕ) (entry : OrderRecord) (place : ℕ) → HasNames entry → record_of (symbol_of entry) (bytes ++ names_of entry) (kept_order entry (length bytes) place) ≡ entry
own-record bytes (entry_of.New key time symbol side quantity price life) place named =
    let firm = first-name bytes key.firm key.id [] named.0 in
    let id = second-name bytes key.firm key.id [] named.1 in
    λ i. entry_of.New (record { firm = firm i; id = id i }) time symbol side quantity price life
own-record bytes (entry_of.Cancel key time symbol target) place named =
    let firm = first-name bytes key.firm key.id target named.0 in
    let id = second-name bytes key.firm key.id target named.1 in
    let ends = third-name bytes key.firm key.id target named.2 in
    λ i. entry_of.Cancel (record { firm = firm i; id = id i }) time symbol (ends i)
own-record bytes (entry_of.Replace key time symbol target side quantity price) place named =
    let firm = first-name bytes key.firm key.id target named.0 in
    let id = second-name bytes key.firm key.id target named.1 in
    let ends = third-name bytes key.firm key.id target named.2 in
    λ i. entry_of.Replace (record { firm = firm i; id = id i }) time symbol (ends i) side quantity price

pub entries-push : (bytes : List ℕ) (orders : List KeptOrder) (entry : OrderRecord) (place : ℕ) → AreInside bytes orders → HasNames entry
    → entries_of (symbol_of entry) (bytes ++ names_of entry) (orders ++ kept_order entry (length bytes) place ∷ []) ≡ entries_of (symbol_of entry) bytes orders ++ (place, entry) ∷ []
entries-push bytes orders entry place inside named =
    let own = own-record bytes entry place named in
    map-append (λ (kept : KeptOrder). (kept.place, record_of (symbol_of entry) (bytes ++ names_of entry) kept)) orders (kept_order entry (length bytes) place ∷ [])
    ∙ (λ i. entries-kept (symbol_of entry) bytes (names_of entry) orders inside i ++ (place, own i) ∷ [])

pub inside-push : (bytes : List ℕ) (orders : List KeptOrder) (entry : OrderRecord) (place : ℕ) → AreInside bytes orders → AreInside (bytes ++ names_of entry) (orders ++ kept_order entry (length bytes) place ∷ [])
inside-push bytes orders entry place inside =
    let firm = (key_of entry).firm in
    let id = (key_of entry).id in
    let target = target_text entry in
    All-push (IsInside (bytes ++ names_of entry)) orders (kept_order entry (length bytes) place) (inside-kept bytes (names_of entry) orders inside)
    (omega (arith, length-append bytes (firm ++ (id ++ target)), length-append firm (id ++ target), length-append id target))
