-- An absent symbol has nothing: no finding before the rule, no order and no deal.
use Rattle.std.proofs.Common.{◌≡◌, refl, sym, arith, ℕ, Bool, true, false, List, [], ◌∷◌, Option, Some, None, Result, Ok, Err, length}
use Rattle.std.specs.Prelude.{◌&&◌, filter_map, map}
use Rattle.std.specs.List.{enumerate_from}
use Rattle.audit_base.specs.declared.findings.Finding.{Finding}
use Rattle.audit_base.specs.declared.orders.Order.{Order}
use Rattle.audit_base.specs.declared.records.OrderRecord.{OrderRecord}
use Rattle.audit_base.specs.declared.records.OrderRecord.TheVariants.{New, Cancel, Replace}
use Rattle.audit_base.specs.declared.records.TradeRecord.{TradeRecord}
use Rattle.audit_base.specs.Histories.{entry_finding, history, history_finding, order_list, order_of_entry}
use Rattle.audit_base.specs.Least.{first_answer, least_answer}
use Rattle.audit_base.specs.Trades.{deal_of_trade, deals_of_symbol, trades_finding, trades_of_symbol}
use Rattle.audit_base.specs.Verdicts.{paired_trades, pairing_finding}
use Rattle.audit_base.proofs.LeastLemmas.{none-below, none_some}
use Rattle.record_verdict.specs.declared.scopes.Admission.{Admission}
use Rattle.record_verdict.specs.declared.scopes.Admission.TheVariants as admission
use Rattle.record_verdict.specs.declared.scopes.Scope.{Scope}
use Rattle.record_verdict.specs.Scopes.{finding_before_rule_in_scope, unadmitted_order_finding}
use Rattle.symbol_offences.specs.Laws.{has_nothing}
use Rattle.symbol_offences.specs.OffenceAnswers.{has_none, is_absent}

none-is : {A : Type 0} (xs : List A) → has_none xs ≡ true → xs ≡ []
none-is [] is = refl
none-is (x ∷ xs) is = cc

none-mapped : {A B : Type 0} (f : A → B) (xs : List A) → has_none (map f xs) ≡ has_none xs
none-mapped f [] = refl
none-mapped f (x ∷ xs) = refl

both-true : (a b : Bool) → (a && b) ≡ true → (a ≡ true) × (b ≡ true)
both-true true true e = (refl, refl)
both-true true false e = cc
both-true false b e = cc

-- the orders of a history of which these are the records
abbrev orders_of_history : List (ℕ × OrderRecord) → List Order
orders_of_history h = filter_map (λ e. order_of_entry h (e.0, e.1.0, e.1.1)) (enumerate_from 0 h)

-- nothing is found in no records
empty-history : (admits : Admission) (symbol : List ℕ) (trades : List TradeRecord) (h : List (ℕ × OrderRecord)) → h ≡ [] → trades_of_symbol symbol trades ≡ []
    → first_answer (least_answer (entry_finding h) (length h) ∷ unadmitted_order_finding admits (orders_of_history h) ∷ None ∷ trades_finding (orders_of_history h) symbol trades ∷ []) ≡ None
unfolding trades_finding
empty-history admits symbol trades h none untraded = rw (none, untraded) (by-admission admits)
  where
    by-admission : (a : Admission) → ◌≡◌ {A = Option Finding} (first_answer (None ∷ unadmitted_order_finding a [] ∷ None ∷ None ∷ [])) None
    by-admission admission.Resting = refl
    by-admission admission.All = refl

-- where something is found before the rule, the symbol is not absent
pub found-present : (scope : Scope) (entries : List OrderRecord) (paired : Result (List TradeRecord) Finding) (finding : Finding) → finding_before_rule_in_scope scope entries paired ≡ Some finding
    → is_absent scope.symbol entries paired ≡ false
found-present scope entries (Err alone) finding found = refl
found-present scope entries (Ok trades) finding found = by-absent (is_absent scope.symbol entries (Ok trades)) refl
  where
    by-absent : (b : Bool) → is_absent scope.symbol entries (Ok trades) ≡ b → b ≡ false
    by-absent false e = refl
    by-absent true e =
        let both = both-true (has_none (history scope.symbol entries)) (has_none (trades_of_symbol scope.symbol trades)) e in
        none_some (finding_before_rule_in_scope scope entries (Ok trades)) finding
        (empty-history scope.admission scope.symbol trades (history scope.symbol entries) (none-is (history scope.symbol entries) both.0) (none-is (trades_of_symbol scope.symbol trades) both.1)) found

-- the first record of a history without a finding is an order
first-is-order : (h : List (ℕ × OrderRecord)) → least_answer (entry_finding h) (length h) ≡ None → has_none (orders_of_history h) ≡ has_none h
first-is-order [] clean = refl
first-is-order ((place, New key time symbol side quantity price life) ∷ rest) clean = refl
first-is-order ((place, Replace key time symbol target side quantity price) ∷ rest) clean = refl
first-is-order ((place, Cancel key time symbol target) ∷ rest) clean =
    let h : List (ℕ × OrderRecord) = (place, Cancel key time symbol target) ∷ rest in
    none_some (entry_finding h 0) _ (none-below (entry_finding h) (length h) clean 0 (omega arith)) refl

none-dealt : (orders : List Order) (symbol : List ℕ) (trades : List TradeRecord) → has_none (deals_of_symbol orders symbol trades) ≡ has_none (trades_of_symbol symbol trades)
unfolding deals_of_symbol
none-dealt orders symbol trades = none-mapped (deal_of_trade orders) (trades_of_symbol symbol trades)

history-clean : (a b c d : Option Finding) → first_answer (a ∷ b ∷ c ∷ d ∷ []) ≡ None → (a ≡ None) × (c ≡ None)
history-clean None b None d e = (refl, refl)
history-clean None None (Some x) d e = cc
history-clean None (Some x) (Some y) d e = cc
history-clean (Some x) b c d e = cc

-- where nothing is, it is absent exactly where it has no order and no deal
pub sound-absent : (scope : Scope) (entries : List OrderRecord) (paired : Result (List TradeRecord) Finding) → finding_before_rule_in_scope scope entries paired ≡ None
    → is_absent scope.symbol entries paired ≡ has_nothing scope.symbol entries paired
sound-absent scope entries paired none = sym (by-pairing paired (clean.1))
  where
    clean : (history_finding scope.symbol entries ≡ None) × (pairing_finding paired ≡ None)
    clean = history-clean (history_finding scope.symbol entries) (unadmitted_order_finding scope.admission (order_list scope.symbol entries)) (pairing_finding paired) (trades_finding (order_list scope.symbol entries) scope.symbol (paired_trades paired)) none

    by-pairing : (p : Result (List TradeRecord) Finding) → pairing_finding p ≡ None
        → has_nothing scope.symbol entries p ≡ is_absent scope.symbol entries p
    by-pairing (Ok trades) e = λ i. first-is-order (history scope.symbol entries) clean.0 i && none-dealt (order_list scope.symbol entries) scope.symbol trades i
    by-pairing (Err finding) e = cc
