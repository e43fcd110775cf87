-- When a symbol is absent, by what two logs give of it.
use Rattle.std.specs.Prelude.{◌≡◌, ℕ, Bool, false, List, Some, None, Result}
use Rattle.audit_base.specs.declared.findings.Finding.{Finding}
use Rattle.audit_base.specs.declared.records.OrderRecord.{OrderRecord}
use Rattle.audit_base.specs.declared.records.TradeRecord.{TradeRecord}
use Rattle.audit_base.specs.Histories.{order_list}
use Rattle.audit_base.specs.Trades.{deals_of_symbol}
use Rattle.audit_base.specs.Verdicts.{paired_trades}
use Rattle.record_verdict.specs.declared.scopes.Scope.{Scope}
use Rattle.record_verdict.specs.Scopes.{finding_before_rule_in_scope}
use Rattle.symbol_offences.specs.OffenceAnswers.{is_absent}
use Rattle.symbol_offences.specs.Telling.{are_none}

-- the symbol has no order and no deal
abbrev pub has_nothing : List ℕ → List OrderRecord → Result (List TradeRecord) Finding → Bool
has_nothing symbol entries paired =
    let orders = order_list symbol entries in
    are_none orders (deals_of_symbol orders symbol (paired_trades paired))

-- a symbol of which something is found before the rule is not absent
abbrev pub FoundIsPresent : Type 0
FoundIsPresent = (scope : Scope) (entries : List OrderRecord)
    (paired : Result (List TradeRecord) Finding) (finding : Finding)
    → finding_before_rule_in_scope scope entries paired ≡ Some finding
    → is_absent scope.symbol entries paired ≡ false

-- where nothing is found before the rule, a symbol is absent exactly where it has no order and no
-- deal
abbrev pub AbsentHasNothing : Type 0
AbsentHasNothing = (scope : Scope) (entries : List OrderRecord)
    (paired : Result (List TradeRecord) Finding)
    → finding_before_rule_in_scope scope entries paired ≡ None
    → is_absent scope.symbol entries paired ≡ has_nothing scope.symbol entries paired
