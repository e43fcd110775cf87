-- A history that is gathered record by record.
use Rattle.std.proofs.Common.{◌≡◌, ◌≤◌, ◌+◌, ℕ, true, false, Option, None, Some, length-append, refl, List, [], ◌∷◌, ◌++◌, length, sym, ap, ◌∙◌, arith, subst}
use Rattle.std.proofs.lemmas.List.{append-nil, length-map}
use Rattle.audit_base.specs.declared.findings.Finding.{Finding}
use Rattle.audit_base.specs.declared.records.OrderRecord.{OrderRecord}
use Rattle.audit_base.specs.Orders.{same_name}
use Rattle.audit_base.specs.Histories.{symbol_of, history}
use Rattle.instruction_history.specs.declared.history_so_far.HistorySoFar.{HistorySoFar}
use Rattle.instruction_history.specs.Draft.{IsHistorySoFar, IsHistoryKnown, finding_in_history, record_of_symbol}
use Rattle.order_list.specs.Stored.{order_of}
use Rattle.instruction_history.proofs.HistoryLemmas.{finding_in-append, history-push, length-orders}
use Rattle.instruction_history.proofs.RecordLemmas.{Records}

-- the history of one record more, at its place
pushed : (symbol : List ℕ) (entries : List OrderRecord) (x : OrderRecord) (place : ℕ) → place ≡ length entries + 1 → history symbol (entries ++ x ∷ []) ≡ history symbol entries ++ record_of_symbol symbol place x
pushed symbol entries x place at = history-push symbol entries x ∙ ap (λ (n : ℕ). history symbol entries ++ record_of_symbol symbol n x) (sym at)

of-it : (symbol : List ℕ) (place : ℕ) (x : OrderRecord) → same_name (symbol_of x) symbol ≡ true → record_of_symbol symbol place x ≡ (place, x) ∷ []
of-it symbol place x same = rw same refl

not-of-it : (symbol : List ℕ) (place : ℕ) (x : OrderRecord) → same_name (symbol_of x) symbol ≡ false → record_of_symbol symbol place x ≡ []
not-of-it symbol place x other = rw other refl

-- a record of the symbol
pub known-of : (symbol : List ℕ) (entries : List OrderRecord) (x : OrderRecord) (place : ℕ) (new : HistorySoFar) (found : Option Finding) → place ≡ length entries + 1 → same_name (symbol_of x) symbol ≡ true
    → IsHistoryKnown (history symbol entries ++ (place, x) ∷ []) new found → IsHistoryKnown (history symbol (entries ++ x ∷ [])) new found
known-of symbol entries x place new found at same known =
    subst (λ (h : Records). IsHistoryKnown h new found) (sym (pushed symbol entries x place at ∙ ap (λ (h : Records). history symbol entries ++ h) (of-it symbol place x same))) known

-- a record of another symbol
pub known-other : (symbol : List ℕ) (entries : List OrderRecord) (x : OrderRecord) (draft : HistorySoFar) (found : Option Finding) → same_name (symbol_of x) symbol ≡ false
    → IsHistoryKnown (history symbol entries) draft found → IsHistoryKnown (history symbol (entries ++ x ∷ [])) draft found
known-other symbol entries x draft found other known =
    subst (λ (h : Records). IsHistoryKnown h draft found) (sym (history-push symbol entries x ∙ ap (λ (h : Records). history symbol entries ++ h) (not-of-it symbol (length entries + 1) x other) ∙ append-nil (history symbol entries))) known

-- after a finding
pub still-known : (symbol : List ℕ) (entries : List OrderRecord) (x : OrderRecord) (d : HistorySoFar) (found : Option Finding) (f : Finding) → found ≡ Some f
    → IsHistoryKnown (history symbol entries) d found → IsHistoryKnown (history symbol (entries ++ x ∷ [])) d found
still-known symbol entries x d None f is known = absurd (cc is)
still-known symbol entries x d (Some g) f is known =
    ap finding_in_history (history-push symbol entries x) ∙ finding_in-append (history symbol entries) (record_of_symbol symbol (length entries + 1) x) g known

-- where there is no finding the records so far are known
pub so_far-known : (h : Records) (d : HistorySoFar) (found : Option Finding) → found ≡ None → IsHistoryKnown h d found → IsHistorySoFar h d
so_far-known h d None none known = known
so_far-known h d (Some f) none known = absurd (cc none)

-- a draft has at most as many orders as there were records
pub few-known : (symbol : List ℕ) (entries : List OrderRecord) (d : HistorySoFar) (found : Option Finding) → found ≡ None → IsHistoryKnown (history symbol entries) d found → length d.orders.items ≤ length entries
few-known symbol entries d found none known = omega (arith, length-orders symbol entries, ap length (so_far-known (history symbol entries) d found none known).orders, length-map d.orders.items (order_of d.keys))

pub size-more : (count : ℕ) (entries : List OrderRecord) (x : OrderRecord) → count ≡ length entries → count + 1 ≡ length (entries ++ x ∷ [])
size-more count entries x is = simp length-append (omega (arith, is))
