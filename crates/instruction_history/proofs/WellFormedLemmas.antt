-- What holds of the order list of a well-formed history.
use Rattle.std.proofs.Common.{◌≡◌, ◌<◌, ◌≤◌, ◌+◌, ◌^◌, ℕ, zero, suc, Bool, true, false, None, List, [], ◌∷◌, ◌++◌, length, get_or, take, refl, sym, ap, ◌∙◌, subst, arith, append-nil}
use Rattle.std.specs.Prelude.{if◌then◌else◌, option_and_then}
use Rattle.std.proofs.lemmas.List.{take_all}
use Rattle.audit_base.specs.declared.orders.Order.{Order}
use Rattle.audit_base.specs.declared.records.OrderRecord.{OrderRecord}
use Rattle.audit_base.specs.Orders.{same_name, order_with_key, order_on_side_with_key, IsOrderList, OrdersInRange, HaveOwnKeys}
use Rattle.audit_base.specs.Histories.{symbol_of, history, order_list, entry_past_end, WellFormed, Regular}
use Rattle.audit_base.proofs.HistoryLemmas.{order_list-regular, order_list-is, order_list-keys}
use Rattle.instruction_history.specs.declared.history_so_far.HistorySoFar.{HistorySoFar}
use Rattle.instruction_history.specs.Draft.{IsHistorySoFar, kept_orders, finding_in_history, record_of_symbol}
use Rattle.instruction_history.specs.History.{IsHistory}
use Rattle.order_list.specs.Keys.{index_on}
use Rattle.instruction_history.proofs.SideLemmas.{sided}
use Rattle.instruction_history.proofs.NameLemmas.{IsNamed, named-none, named-push}
use Rattle.instruction_history.proofs.HistoryLemmas.{history-more}
use Rattle.instruction_history.proofs.PushLemmas.{clean-before}
use Rattle.instruction_history.proofs.RecordLemmas.{Records}

-- a record of the symbol, or none
named-entry : (h : Records) (symbol : List ℕ) (place : ℕ) (r : OrderRecord) (b : Bool) → same_name (symbol_of r) symbol ≡ b →
    (finding_in_history h ≡ None → IsNamed h) → finding_in_history (h ++ record_of_symbol symbol place r) ≡ None → IsNamed (h ++ record_of_symbol symbol place r)
named-entry h symbol place r true is before clean =
    let entry : record_of_symbol symbol place r ≡ (place, r) ∷ [] = ap (λ (b : Bool). if b then (place, r) ∷ [] else []) is in
    let pushed : finding_in_history (h ++ (place, r) ∷ []) ≡ None = ap (λ (x : Records). finding_in_history (h ++ x)) (sym entry) ∙ clean in
    subst (λ (x : Records). IsNamed (h ++ x)) (sym entry) (named-push h (place, r) (before (clean-before h (place, r) pushed)) pushed)
named-entry h symbol place r false is before clean =
    let entry : h ++ record_of_symbol symbol place r ≡ h = ap (λ (b : Bool). h ++ (if b then (place, r) ∷ [] else [])) is ∙ append-nil h in
    subst (λ (x : Records). IsNamed x) (sym entry) (before (sym (ap finding_in_history entry) ∙ clean))

named-first : (symbol : List ℕ) (entries : List OrderRecord) (n : ℕ) → n ≤ length entries → finding_in_history (history symbol (take n entries)) ≡ None → IsNamed (history symbol (take n entries))
named-first symbol entries zero le clean = named-none
named-first symbol entries (suc n) le clean =
    let next : suc n ≡ n + 1 = omega arith in
    let r : OrderRecord = get_or entries n entry_past_end.1 in
    let more : history symbol (take (suc n) entries) ≡ history symbol (take n entries) ++ record_of_symbol symbol (n + 1) r =
    ap (λ (k : ℕ). history symbol (take k entries)) next ∙ history-more symbol entries n entry_past_end.1 (omega arith) in
    subst (λ (x : Records). IsNamed x) (sym more)
    (named-entry (history symbol (take n entries)) symbol (n + 1) r (same_name (symbol_of r) symbol) refl (named-first symbol entries n (omega arith)) (sym (ap finding_in_history more) ∙ clean))

named-all : (symbol : List ℕ) (entries : List OrderRecord) → WellFormed symbol entries → IsNamed (history symbol entries)
named-all symbol entries clean =
    let whole : take (length entries) entries ≡ entries = take_all (length entries) entries (omega arith) in
    subst (λ (xs : List OrderRecord). IsNamed (history symbol xs)) whole
    (named-first symbol entries (length entries) (omega arith) (ap (λ (xs : List OrderRecord). finding_in_history (history symbol xs)) whole ∙ clean))

-- what a history keeps, once all records are read
pub history-is : (symbol : List ℕ) (entries : List OrderRecord) (d : HistorySoFar) → length entries < 2 ^ 32 → IsHistorySoFar (history symbol entries) d → OrdersInRange (kept_orders d) → IsHistory (kept_orders d) d.keys
history-is symbol entries d few is numbers =
    let same : kept_orders d ≡ order_list symbol entries = is.orders in
    record {
      order_list = subst (λ (orders : List Order). IsOrderList orders) (sym same) (order_list-is symbol entries few);
      regular = subst (λ (orders : List Order). Regular orders) (sym same) (order_list-regular symbol entries is.clean);
      numbers = numbers;
      own_keys = subst (λ (orders : List Order). HaveOwnKeys orders) (sym same) (order_list-keys symbol entries is.clean);
      sided = λ side key.
          ap (option_and_then (index_on side)) (is.keys key)
          ∙ sided (history symbol entries) side key (order_list-keys symbol entries is.clean) ((named-all symbol entries is.clean).named key)
          ∙ ap (λ (orders : List Order). order_on_side_with_key orders side key) (sym same);
      named = λ key. ap (option_and_then (λ s. s.index)) (is.keys key) ∙ (named-all symbol entries is.clean).named key ∙ ap (λ (orders : List Order). order_with_key orders key) (sym same);
    }
