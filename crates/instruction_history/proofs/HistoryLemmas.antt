-- The history of the first records of a log, and of one record more.
use Rattle.std.proofs.Common.{◌≡◌, ◌<◌, ◌≤◌, ◌+◌, ℕ, suc, Bool, Some, List, [], ◌∷◌, ◌++◌, length, get_or, take, refl, ap, ◌∙◌, arith, length-append}
use Rattle.std.specs.Prelude.{filter}
use Rattle.std.specs.List.{enumerate_from}
use Rattle.std.proofs.lemmas.List.{get_or_append_left, take_more, length-take-le, take_all}
use Rattle.std.proofs.lemmas.List.Elements.{filter-append}
use Rattle.std.proofs.lemmas.List.Sums.{count_by-le-length, length-filter}
use Rattle.std.proofs.lemmas.List.FromFn.{length-enumerate_from}
use Rattle.audit_base.specs.declared.findings.Finding.{Finding}
use Rattle.audit_base.specs.declared.records.OrderRecord.{OrderRecord}
use Rattle.audit_base.specs.Least.{least_answer}
use Rattle.audit_base.specs.Orders.{same_name}
use Rattle.audit_base.specs.Histories.{symbol_of, history, entry_past_end, entry_finding, order_index, is_order}
use Rattle.instruction_history.specs.Draft.{finding_in_history, orders_in, record_of_symbol}
use Rattle.instruction_history.proofs.FirstLemmas.{least_answer-same, least_answer-stays}
use Rattle.instruction_history.proofs.MadeLemmas.{length-orders_in}
use Rattle.instruction_history.proofs.RecordLemmas.{Records, SameBelow, record_finding-same}

pub enumerate_from-append : {X : Type 0} (b : ℕ) (xs ys : List X) → enumerate_from b (xs ++ ys) ≡ enumerate_from b xs ++ enumerate_from (b + length xs) ys
enumerate_from-append b [] ys = let number : b ≡ b + 0 = omega arith in ap (λ (n : ℕ). enumerate_from n ys) number
enumerate_from-append b (x ∷ xs) ys =
    let rest : enumerate_from (b + 1) (xs ++ ys) ≡ enumerate_from (b + 1) xs ++ enumerate_from (b + 1 + length xs) ys = enumerate_from-append (b + 1) xs ys in
    let number : b + 1 + length xs ≡ b + suc (length xs) = omega arith in
    rw (rest, number) refl

-- the records of the symbol
abbrev of_symbol : List ℕ → ℕ × OrderRecord → Bool
of_symbol symbol e = same_name (symbol_of e.1) symbol

history-append : (symbol : List ℕ) (xs ys : List OrderRecord) → history symbol (xs ++ ys) ≡ history symbol xs ++ filter (of_symbol symbol) (enumerate_from (1 + length xs) ys)
history-append symbol xs ys = ap (filter (of_symbol symbol)) (enumerate_from-append 1 xs ys) ∙ filter-append (of_symbol symbol) (enumerate_from 1 xs) (enumerate_from (1 + length xs) ys)

pub history-push : (symbol : List ℕ) (xs : List OrderRecord) (x : OrderRecord) → history symbol (xs ++ x ∷ []) ≡ history symbol xs ++ record_of_symbol symbol (length xs + 1) x
history-push symbol xs x =
    let number : 1 + length xs ≡ length xs + 1 = omega arith in
    history-append symbol xs (x ∷ []) ∙ ap (λ (n : ℕ). history symbol xs ++ record_of_symbol symbol n x) number

-- the history of one record more
pub history-more : (symbol : List ℕ) (entries : List OrderRecord) (i : ℕ) (d : OrderRecord) → i < length entries → history symbol (take (i + 1) entries) ≡ history symbol (take i entries) ++ record_of_symbol symbol (i + 1) (get_or entries i d)
history-more symbol entries i d lt =
    let size : length (take i entries) ≡ i = length-take-le i entries (omega arith) in
    ap (history symbol) (take_more entries i d lt) ∙ history-push symbol (take i entries) (get_or entries i d)
    ∙ ap (λ (n : ℕ). history symbol (take i entries) ++ record_of_symbol symbol (n + 1) (get_or entries i d)) size

-- a finding of the first records is that of all
pub finding_in-append : (h r : Records) (f : Finding) → finding_in_history h ≡ Some f → finding_in_history (h ++ r) ≡ Some f
finding_in-append h r f is =
    let same : SameBelow (h ++ r) h (length h) = record { at = λ j lt. get_or_append_left h r entry_past_end j lt } in
    let early : least_answer (entry_finding (h ++ r)) (length h) ≡ Some f =
    least_answer-same (entry_finding (h ++ r)) (entry_finding h) (length h) (λ k lt. record_finding-same (length h) (h ++ r) h same k lt) ∙ is in
    least_answer-stays (entry_finding (h ++ r)) (length h) (length (h ++ r)) f early (omega (arith, length-append h r))

length-history : (symbol : List ℕ) (entries : List OrderRecord) → length (history symbol entries) ≤ length entries
length-history symbol entries =
    omega (arith, length-filter (of_symbol symbol) (enumerate_from 1 entries), count_by-le-length (of_symbol symbol) (enumerate_from 1 entries), length-enumerate_from 1 entries)

-- there are at most as many orders as records
pub length-orders : (symbol : List ℕ) (entries : List OrderRecord) → length (orders_in (history symbol entries)) ≤ length entries
length-orders symbol entries =
    let h : Records = history symbol entries in
    let count : order_index h (length h) ≤ length (take (length h) h) = count_by-le-length (λ e. is_order e.1) (take (length h) h) in
    let whole : take (length h) h ≡ h = take_all (length h) h (omega arith) in
    let size : length (take (length h) h) ≡ length h = ap length whole in
    omega (arith, length-orders_in h, length-history symbol entries)
