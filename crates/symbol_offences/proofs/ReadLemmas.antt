-- The two logs of a symbol that were read, and what they give.
use Rattle.std.proofs.Common.{◌≡◌, ◌∙◌, refl, sym, ap, subst, ℕ, Bool, true, List, [], Result, Ok, Err, length}
use Rattle.std.proofs.lemmas.List.{length-map}
use Rattle.audit_base.specs.declared.findings.Finding.{Finding}
use Rattle.audit_base.specs.declared.orders.Order.{Order}
use Rattle.audit_base.specs.declared.records.OrderRecord.{OrderRecord}
use Rattle.audit_base.specs.declared.records.TradeRecord.{TradeRecord}
use Rattle.audit_base.specs.Histories.{order_list}
use Rattle.audit_base.specs.Trades.{deal_of_trade, deals_of_symbol, trades_of_symbol}
use Rattle.audit_base.specs.Verdicts.{paired_trades}
use Rattle.further_checks.specs.FurtherRules.{times_of_symbol}
use Rattle.log_verdict.specs.declared.both_logs.LogsBeforeRule.{LogsBeforeRule}
use Rattle.log_verdict.specs.declared.reading.CollectedTrades.TheVariants as collected
use Rattle.log_verdict.specs.BothLogs.{AreLogsBeforeRule}
use Rattle.log_verdict.specs.Collecting.{HasCollected}
use Rattle.matching_core.specs.declared.deals_draft.ResolvedTrades.{ResolvedTrades}
use Rattle.record_verdict.specs.declared.before_rule.BeforeRule.{BeforeRule}
use Rattle.record_verdict.specs.declared.before_rule.BeforeRule.TheVariants as before_rule
use Rattle.record_verdict.specs.declared.scopes.Scope.{Scope}
use Rattle.record_verdict.specs.BeforeRule.{IsBeforeRule, IsJudgeable}
use Rattle.symbol_offences.specs.declared.order_log.OrdersOfSymbol.{OrdersOfSymbol}
use Rattle.symbol_offences.specs.declared.questions.KeepingOptions.{KeepingOptions}
use Rattle.symbol_offences.specs.declared.symbol_before_rule.QuotedRecords.{QuotedRecords}
use Rattle.symbol_offences.specs.declared.symbol_before_rule.SymbolBeforeRule.{SymbolBeforeRule}
use Rattle.symbol_offences.specs.declared.trade_log.TradesOfSymbol.{TradesOfSymbol}
use Rattle.symbol_offences.specs.OrderLog.{IsOrdersOfSymbol}
use Rattle.symbol_offences.specs.Questions.{kept_if}
use Rattle.symbol_offences.specs.SymbolBeforeRule.{ArePlacesRising, IsReadyToTell, IsSymbolBeforeRule, kept_history, kept_trades, places_of_records}
use Rattle.symbol_offences.specs.TradeLog.{IsTradesOfSymbol}
use Rattle.log_verdict.proofs.JoinLemmas.{said-once}
use Rattle.symbol_offences.proofs.KeptLemmas.{history-rises, trades-rise}

-- what was kept of the trades that were read
pub kept-paired : {K : Type 0} (has_taken : K → List TradeRecord → Type 0) (kept : K) (paired : Result (List TradeRecord) Finding) → HasCollected has_taken (collected.Trades kept) (Ok paired) → has_taken kept (paired_trades paired)
kept-paired has_taken kept paired has =
    subst (λ (p : Result (List TradeRecord) Finding). has_taken kept (paired_trades p)) (sym (said-once paired (Ok has.trades) (Ok paired) refl has.says)) has.has

-- where a report has no partner there are none
pub none-paired : {K : Type 0} (has_taken : K → List TradeRecord → Type 0) (fresh : K) (finding : Finding) (paired : Result (List TradeRecord) Finding) → HasCollected has_taken (collected.Alone finding) (Ok paired) → has_taken fresh []
    → has_taken fresh (paired_trades paired)
none-paired has_taken fresh finding paired says is =
    subst (λ (p : Result (List TradeRecord) Finding). has_taken fresh (paired_trades p)) (sym (said-once paired (Err finding) (Ok paired) refl says)) is

-- what was kept of both logs is what they give of the symbol
pub kept-logs : {Q : Type 0} (symbol : List ℕ) (keeping : KeepingOptions) (scope : Scope) (entries : List OrderRecord) (paired : Result (List TradeRecord) Finding) (read : LogsBeforeRule (OrdersOfSymbol Q) (TradesOfSymbol Q)) (kept : TradesOfSymbol Q)
    → scope.symbol ≡ symbol → AreLogsBeforeRule scope (IsOrdersOfSymbol symbol keeping.records) (IsTradesOfSymbol symbol keeping) entries paired read → IsTradesOfSymbol symbol keeping kept (paired_trades paired)
    → IsSymbolBeforeRule scope keeping entries paired (record { given = read.given; times = kept.times; quoted = record { orders = read.orders.records; trades = kept.records } })
kept-logs symbol keeping scope entries paired read kept named is has = record {
  before = is.before;
  times = has.times_are ∙ ap (λ (s : List ℕ). kept_if keeping.times (times_of_symbol s (paired_trades paired))) (sym named);
  quoted = λ i. record {
    orders = (is.orders.records_are ∙ ap (λ (s : List ℕ). kept_history keeping.records s entries) (sym named)) i;
    trades = (has.records_are ∙ ap (λ (s : List ℕ). kept_trades keeping.records s (paired_trades paired)) (sym named)) i;
  };
}

-- Whether they can be told.

-- as many times as deals
same-count : (orders : List Order) (symbol : List ℕ) (trades : List TradeRecord) → length (times_of_symbol symbol trades) ≡ length (deals_of_symbol orders symbol trades)
unfolding deals_of_symbol
same-count orders symbol trades = length-map (trades_of_symbol symbol trades) (λ e. e.1.time) ∙ sym (length-map (trades_of_symbol symbol trades) (deal_of_trade orders))

pub ready-of : (scope : Scope) (keeping : KeepingOptions) (entries : List OrderRecord) (paired : Result (List TradeRecord) Finding) (logs : SymbolBeforeRule) → IsSymbolBeforeRule scope keeping entries paired logs → IsJudgeable logs.given
    → IsReadyToTell keeping logs
ready-of scope keeping entries paired logs is judgeable = record {
  judgeable = judgeable;
  in_order = record {
    orders_rise = subst (λ (q : QuotedRecords). ArePlacesRising (places_of_records q.orders.entries)) (sym is.quoted) (history-rises keeping.records scope.symbol entries);
    trades_rise = subst (λ (q : QuotedRecords). ArePlacesRising (places_of_records q.trades.trades)) (sym is.quoted) (trades-rise keeping.records scope.symbol (paired_trades paired));
  };
  timed = timed;
}
  where
    timed : (sound : ResolvedTrades) → logs.given ≡ before_rule.Sound sound → keeping.times ≡ true → length logs.times.items ≡ length sound.deals.items
    timed sound given keeps =
        let before : IsBeforeRule scope entries paired (before_rule.Sound sound) = subst (λ (b : BeforeRule). IsBeforeRule scope entries paired b) given is.before in
        ap length (is.times ∙ ap (λ (b : Bool). kept_if b (times_of_symbol scope.symbol (paired_trades paired))) keeps)
        ∙ same-count (order_list scope.symbol entries) scope.symbol (paired_trades paired)
        ∙ ap length (sym before.deals)
