-- Which records of a trade log what is kept of a symbol has been handed, and what both logs give.
use Rattle.std.specs.Prelude.{◌≡◌, ◌++◌, ◌∷◌, [], ℕ, Bool, List, Result, length, if◌then◌else◌}
use Rattle.audit_base.specs.Moments.{Moment}
use Rattle.audit_base.specs.declared.findings.Finding.{Finding}
use Rattle.audit_base.specs.declared.records.OrderRecord.{OrderRecord}
use Rattle.audit_base.specs.declared.records.TradeRecord.{TradeRecord}
use Rattle.further_checks.specs.FurtherRules.{times_of_symbol}
use Rattle.day_records.specs.KeptTrades.{KeptTradeList, with_trade}
use Rattle.log_verdict.specs.declared.both_logs.LogsBeforeRule.{LogsBeforeRule}
use Rattle.log_verdict.specs.BothLogs.{AreLogsBeforeRule}
use Rattle.record_verdict.specs.declared.scopes.Scope.{Scope}
use Rattle.symbol_offences.specs.declared.order_log.OrdersOfSymbol.{OrdersOfSymbol}
use Rattle.symbol_offences.specs.declared.questions.KeepingOptions.{KeepingOptions}
use Rattle.symbol_offences.specs.declared.symbol_before_rule.SymbolBeforeRule.{SymbolBeforeRule}
use Rattle.symbol_offences.specs.declared.trade_log.TradesOfSymbol.{TradesOfSymbol}
use Rattle.symbol_offences.specs.OrderLog.{IsOrdersOfSymbol}
use Rattle.symbol_offences.specs.Questions.{kept_if}
use Rattle.symbol_offences.specs.SymbolBeforeRule.{IsSymbolBeforeRule, kept_trades}

-- exactly these records of the trade log were handed on, and the times of the symbol's trades and
-- its records are kept where they are asked for
pub record IsTradesOfSymbol {Q : Type 0} (symbol : List ℕ) (keeping : KeepingOptions)
    (kept : TradesOfSymbol Q) (trades : List TradeRecord) : Type 0 where
  pub named : kept.symbol ≡ symbol
  pub count : kept.count ≡ length trades
  pub keeps_so : kept.keeping ≡ keeping
  pub times_are : kept.times.items ≡ kept_if keeping.times (times_of_symbol symbol trades)
  pub records_are : kept.records ≡ kept_trades keeping.records symbol trades

-- one trade more is kept, where records are
abbrev pub with_trade_if : Bool → KeptTradeList → ℕ → TradeRecord → KeptTradeList
with_trade_if keeps kept place trade = if keeps then with_trade kept place trade else kept

-- one time more is kept, where times are
abbrev pub with_time_if : Bool → List Moment → Moment → List Moment
with_time_if keeps times time = if keeps then times ++ time ∷ [] else times

-- of whatever records both logs were read into, these are what they give of the symbol
abbrev pub GivesSymbolBeforeRule : {Q : Type 0} → List ℕ → KeepingOptions
    → LogsBeforeRule (OrdersOfSymbol Q) (TradesOfSymbol Q) → SymbolBeforeRule → Type 0
GivesSymbolBeforeRule symbol keeping read logs =
    (scope : Scope) (entries : List OrderRecord) (paired : Result (List TradeRecord) Finding)
    → scope.symbol ≡ symbol
    → AreLogsBeforeRule scope (IsOrdersOfSymbol symbol keeping.records)
    (IsTradesOfSymbol symbol keeping) entries paired read
    → IsSymbolBeforeRule scope keeping entries paired logs
