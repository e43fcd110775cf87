-- What the records of a symbol give that a judge gets.
use Rattle.std.proofs.Common.{ℕ, List, subst}
use Rattle.audit_base.specs.declared.records.OrderRecord.{OrderRecord}
use Rattle.audit_base.specs.declared.records.TradeRecord.{TradeRecord}
use Rattle.day_records.specs.declared.symbol_during_trades.SymbolDuringTrades.{SymbolDuringTrades}
use Rattle.day_records.specs.declared.symbol_records.SymbolRecords.{SymbolRecords}
use Rattle.day_records.specs.KeptRecords.{GivesSymbolDuringTrades, HasFewKeptRecords}
use Rattle.day_records.specs.SymbolDuringTrades.{GivesBeforeRule, HasFewOfSymbol, IsSymbolDuringTrades}
use Rattle.day_records.specs.SymbolRecords.{HasFewSymbolRecords, HasSymbolRecords, RecordsGive}
use Rattle.record_verdict.specs.declared.before_rule.BeforeRule.{BeforeRule}
use Rattle.record_verdict.specs.declared.scopes.Admission.{Admission}

module _ (own : SymbolRecords) where
  -- their orders are few
  pub few-kept : HasFewSymbolRecords own → HasFewKeptRecords own.records
  few-kept few = record {
    symbol = few.symbol;
    entries = few.entries;
    trades = few.trades;
    has = few.has.records_are;
    fits_indices = few.fits_indices;
  }

  module _ (known : SymbolDuringTrades) (gives : GivesSymbolDuringTrades own.admission own.records known) where
    -- what is known of the symbol after them
    known-of : (admission : Admission) (entries : List OrderRecord) (trades : List TradeRecord) (symbol : List ℕ) → HasSymbolRecords admission entries trades symbol own → IsSymbolDuringTrades admission entries trades symbol known
    known-of admission entries trades symbol has =
        subst (λ (a : Admission). IsSymbolDuringTrades a entries trades symbol known) has.admits (gives entries trades symbol has.records_are)

    pub few-known : HasFewSymbolRecords own → HasFewOfSymbol own.count known
    few-known few = record {
      admission = few.admission;
      entries = few.entries;
      trades = few.trades;
      symbol = few.symbol;
      is = known-of few.admission few.entries few.trades few.symbol few.has;
      counted = few.has.counted;
      fits_places = few.fits_places;
    }

    -- and what they give
    pub records-give : (given : BeforeRule) → GivesBeforeRule own.count known given → RecordsGive own given
    records-give given ends = λ admission entries trades symbol has. ends admission entries trades symbol (known-of admission entries trades symbol has) has.counted
