-- What two logs give of one symbol.
use Rattle.std.specs.Prelude.{◌≡◌, ◌<◌, ℕ, Bool, true, AllPairs, List, Result, length, map}
use Rattle.audit_base.specs.declared.findings.Finding.{Finding}
use Rattle.audit_base.specs.declared.records.OrderRecord.{OrderRecord}
use Rattle.audit_base.specs.declared.records.TradeRecord.{TradeRecord}
use Rattle.audit_base.specs.Histories.{history}
use Rattle.audit_base.specs.Trades.{trades_of_symbol}
use Rattle.audit_base.specs.Verdicts.{paired_trades}
use Rattle.further_checks.specs.FurtherRules.{times_of_symbol}
use Rattle.day_records.specs.KeptOrders.{KeptEntries}
use Rattle.day_records.specs.KeptTrades.{KeptTradeList}
use Rattle.matching_core.specs.declared.deals_draft.ResolvedTrades.{ResolvedTrades}
use Rattle.record_verdict.specs.declared.before_rule.BeforeRule.TheVariants as before_rule
use Rattle.record_verdict.specs.declared.scopes.Scope.{Scope}
use Rattle.record_verdict.specs.BeforeRule.{IsBeforeRule, IsJudgeable}
use Rattle.symbol_offences.specs.declared.questions.KeepingOptions.{KeepingOptions}
use Rattle.symbol_offences.specs.declared.symbol_before_rule.QuotedRecords.{QuotedRecords}
use Rattle.symbol_offences.specs.declared.symbol_before_rule.SymbolBeforeRule.{SymbolBeforeRule}
use Rattle.symbol_offences.specs.Questions.{kept_if}

-- the order records of a symbol among these, each with its place, where they are kept
abbrev pub kept_history : Bool → List ℕ → List OrderRecord → KeptEntries
kept_history keeps symbol entries =
    record { symbol = symbol; entries = kept_if keeps (history symbol entries) }

-- the trades of a symbol among these, each with its place, where they are kept
abbrev pub kept_trades : Bool → List ℕ → List TradeRecord → KeptTradeList
kept_trades keeps symbol trades =
    record { symbol = symbol; trades = kept_if keeps (trades_of_symbol symbol trades) }

-- the records of a symbol that may be quoted
abbrev pub quoted_records : Bool → List ℕ → List OrderRecord → Result (List TradeRecord) Finding
    → QuotedRecords
quoted_records keeps symbol entries paired = record {
  orders = kept_history keeps symbol entries;
  trades = kept_trades keeps symbol (paired_trades paired);
}

-- What the records of two logs give of a symbol.
pub record IsSymbolBeforeRule (scope : Scope) (keeping : KeepingOptions)
    (entries : List OrderRecord) (paired : Result (List TradeRecord) Finding)
    (logs : SymbolBeforeRule) : Type 0 where
  pub before : IsBeforeRule scope entries paired logs.given
  pub times : logs.times.items
      ≡ kept_if keeping.times (times_of_symbol scope.symbol (paired_trades paired))
  pub quoted : logs.quoted ≡ quoted_records keeping.records scope.symbol entries paired

-- these places rise strictly
abbrev pub ArePlacesRising : List ℕ → Type 0
ArePlacesRising places = AllPairs (λ earlier later. earlier < later) places

-- the places of records
abbrev pub places_of_records : {R : Type 0} → List (ℕ × R) → List ℕ
places_of_records listed = map (λ e. e.0) listed

-- the places of the records that may be quoted rise, in each log
pub record AreInLogOrder (quoted : QuotedRecords) : Type 0 where
  pub orders_rise : ArePlacesRising (places_of_records quoted.orders.entries)
  pub trades_rise : ArePlacesRising (places_of_records quoted.trades.trades)

-- What two logs gave can be judged and told: it is judgeable, the records are in log order, and
-- where times are kept there is one for each deal.
pub record IsReadyToTell (keeping : KeepingOptions) (logs : SymbolBeforeRule) : Type 0 where
  pub judgeable : IsJudgeable logs.given
  pub in_order : AreInLogOrder logs.quoted
  pub timed : (sound : ResolvedTrades) → logs.given ≡ before_rule.Sound sound
      → keeping.times ≡ true → length logs.times.items ≡ length sound.deals.items
