-- What the records of a symbol give its judge: what comes before any rule, and the times of the trades.
use Rattle.std.proofs.Common.{◌≡◌, ◌∙◌, ℕ, Bool, List, Ok, ap}
use Rattle.audit_base.specs.Moments.{Moment}
use Rattle.audit_base.specs.declared.records.OrderRecord.{OrderRecord}
use Rattle.audit_base.specs.declared.records.TradeRecord.{TradeRecord}
use Rattle.audit_base.specs.Trades.{trades_of_symbol}
use Rattle.day_records.specs.declared.symbol_records.SymbolRecords.{SymbolRecords}
use Rattle.day_records.specs.KeptRecords.{times_if}
use Rattle.day_records.specs.KeptTrades.{KeptTradeList}
use Rattle.day_records.specs.SymbolDuringTrades.{scope_by}
use Rattle.day_records.specs.SymbolRecords.{HasFewSymbolRecords, HasSymbolRecords, RecordsGive}
use Rattle.day_verdicts.specs.SymbolWalks.{IsNext}
use Rattle.record_verdict.specs.declared.before_rule.BeforeRule.{BeforeRule}
use Rattle.record_verdict.specs.declared.scopes.Admission.{Admission}
use Rattle.record_verdict.specs.BeforeRule.{IsBeforeRule}

-- the records give this of the symbol before any rule is looked at; and these are the times of its
-- trades, where they are asked for
pub record IsGivenOf (admission : Admission) (asked : Bool) (symbol : List ℕ) (given : BeforeRule) (times : List Moment) (entries : List OrderRecord) (trades : List TradeRecord) : Type 0 where
  pub before : IsBeforeRule (scope_by admission symbol) entries (Ok trades) given
  pub times_are : times ≡ times_if asked (trades_of_symbol symbol trades)

pub given-of : {own : SymbolRecords} {given : BeforeRule} {times : List Moment} (admission : Admission) (asked : Bool) (symbol : List ℕ) → RecordsGive own given → times ≡ times_if asked own.records.trades.trades
    → (entries : List OrderRecord) (trades : List TradeRecord) → HasSymbolRecords admission entries trades symbol own → IsGivenOf admission asked symbol given times entries trades
given-of admission asked symbol gives times_are entries trades has = record {
  before = gives admission entries trades symbol has;
  times_are = times_are ∙ ap (λ (kept : KeptTradeList). times_if asked kept.trades) has.records_are.trades_are;
}

-- the records of the next symbol are few
pub few-next : {K : Type 0} {admission : Admission} {has_judged : K → K → List OrderRecord → List TradeRecord → List (List ℕ) → Type 0} {symbol : List ℕ} {own : SymbolRecords} {kept : K} → IsNext admission has_judged symbol own kept → HasFewSymbolRecords own
few-next {admission = admission} {symbol = symbol} next = record {
  admission = admission;
  entries = next.entries;
  trades = next.trades;
  symbol = symbol;
  has = next.is;
  fits_indices = next.fits_indices;
  fits_places = next.fits_places;
}
