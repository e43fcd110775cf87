-- What is kept of a symbol after one record more of a log.
use lib.Pointwise.{bytes_decides}
use Rattle.std.proofs.Common.{◌≡◌, ◌+◌, ◌++◌, ◌∷◌, [], ◌∙◌, sym, ap, ℕ, Bool, true, false, List, length, length-append, subst}
use Rattle.audit_base.specs.declared.records.OrderRecord.{OrderRecord}
use Rattle.audit_base.specs.declared.records.TradeRecord.{TradeRecord}
use Rattle.audit_base.specs.Histories.{symbol_of}
use Rattle.audit_base.specs.Orders.{same_name}
use Rattle.day_records.specs.KeptOrders.{KeptEntries}
use Rattle.day_records.specs.KeptTrades.{KeptTradeList}
use Rattle.symbol_offences.specs.declared.order_log.OrdersOfSymbol.{OrdersOfSymbol}
use Rattle.symbol_offences.specs.declared.questions.KeepingOptions.{KeepingOptions}
use Rattle.symbol_offences.specs.declared.trade_log.TradesOfSymbol.{TradesOfSymbol}
use Rattle.symbol_offences.specs.OrderLog.{IsOrdersOfSymbol, with_entry_if}
use Rattle.symbol_offences.specs.TradeLog.{IsTradesOfSymbol, with_time_if, with_trade_if}
use Rattle.symbol_offences.proofs.KeptLemmas.{own-entry, other-entry, own-trade, other-trade, own-time, other-time}

-- the same name is the same text
pub same-text : (a b : List ℕ) → same_name a b ≡ true → a ≡ b
same-text a b same = (bytes_decides a b).0 same

count-more : {R : Type 0} (count : ℕ) (entries : List R) (entry : R) → count ≡ length entries → count + 1 ≡ length (entries ++ entry ∷ [])
count-more count entries entry is = ap (λ (n : ℕ). n + 1) is ∙ sym (length-append entries (entry ∷ []))

-- The order log.

module _ {Q : Type 0} (symbol : List ℕ) (keeps : Bool) (old new : OrdersOfSymbol Q) (entries : List OrderRecord) (entry : OrderRecord) (has : IsOrdersOfSymbol symbol keeps old entries) where
  -- a record of another symbol changes nothing but the count
  pub other-taken : same_name (symbol_of entry) old.symbol ≡ false → new.symbol ≡ old.symbol → new.count ≡ old.count + 1 → new.keeps_records ≡ old.keeps_records → new.records ≡ old.records
      → IsOrdersOfSymbol symbol keeps new (entries ++ entry ∷ [])
  other-taken other symbol_same counted keeps_same records_same =
      let not_own : same_name (symbol_of entry) symbol ≡ false = subst (λ (s : List ℕ). same_name (symbol_of entry) s ≡ false) has.named other in
      record {
        named = symbol_same ∙ has.named;
        count = counted ∙ count-more old.count entries entry has.count;
        keeps_so = keeps_same ∙ has.keeps_so;
        records_are = records_same ∙ has.records_are ∙ other-entry keeps symbol entries entry not_own;
      }

  -- a record of the symbol
  pub own-taken : same_name (symbol_of entry) old.symbol ≡ true → new.symbol ≡ old.symbol → new.count ≡ old.count + 1 → new.keeps_records ≡ old.keeps_records
      → new.records ≡ with_entry_if old.keeps_records old.records (old.count + 1) entry → IsOrdersOfSymbol symbol keeps new (entries ++ entry ∷ [])
  own-taken same symbol_same counted keeps_same records_new =
      let own : same_name (symbol_of entry) symbol ≡ true = subst (λ (s : List ℕ). same_name (symbol_of entry) s ≡ true) has.named same in
      let at : old.count + 1 ≡ length entries + 1 = ap (λ (n : ℕ). n + 1) has.count in
      record {
        named = symbol_same ∙ has.named;
        count = counted ∙ count-more old.count entries entry has.count;
        keeps_so = keeps_same ∙ has.keeps_so;
        records_are = records_new
            ∙ (λ i. with_entry_if (has.keeps_so i) (has.records_are i) (old.count + 1) entry)
            ∙ own-entry keeps symbol entries entry (old.count + 1) own at;
      }

-- the record is of the symbol whose records are kept
pub own-symbol : {Q : Type 0} (symbol : List ℕ) (keeps : Bool) (old : OrdersOfSymbol Q) (entries : List OrderRecord) (entry : OrderRecord) → IsOrdersOfSymbol symbol keeps old entries → same_name (symbol_of entry) old.symbol ≡ true
    → symbol_of entry ≡ old.records.symbol
own-symbol symbol keeps old entries entry has same =
    same-text (symbol_of entry) old.symbol same ∙ has.named ∙ sym (ap (λ (k : KeptEntries). k.symbol) has.records_are)

-- The trade log.

module _ {Q : Type 0} (symbol : List ℕ) (keeping : KeepingOptions) (old new : TradesOfSymbol Q) (trades : List TradeRecord) (trade : TradeRecord) (has : IsTradesOfSymbol symbol keeping old trades) where
  pub other-trade_taken : same_name trade.symbol old.symbol ≡ false → new.symbol ≡ old.symbol → new.count ≡ old.count + 1 → new.keeping ≡ old.keeping → new.times.items ≡ old.times.items → new.records ≡ old.records
      → IsTradesOfSymbol symbol keeping new (trades ++ trade ∷ [])
  other-trade_taken other symbol_same counted keeping_same times_same records_same =
      let not_own : same_name trade.symbol symbol ≡ false = subst (λ (s : List ℕ). same_name trade.symbol s ≡ false) has.named other in
      record {
        named = symbol_same ∙ has.named;
        count = counted ∙ count-more old.count trades trade has.count;
        keeps_so = keeping_same ∙ has.keeps_so;
        times_are = times_same ∙ has.times_are ∙ other-time keeping.times symbol trades trade not_own;
        records_are = records_same ∙ has.records_are ∙ other-trade keeping.records symbol trades trade not_own;
      }

  pub own-trade_taken : same_name trade.symbol old.symbol ≡ true → new.symbol ≡ old.symbol → new.count ≡ old.count + 1 → new.keeping ≡ old.keeping
      → new.times.items ≡ with_time_if old.keeping.times old.times.items trade.time → new.records ≡ with_trade_if old.keeping.records old.records (old.count + 1) trade
      → IsTradesOfSymbol symbol keeping new (trades ++ trade ∷ [])
  own-trade_taken same symbol_same counted keeping_same times_new records_new =
      let own : same_name trade.symbol symbol ≡ true = subst (λ (s : List ℕ). same_name trade.symbol s ≡ true) has.named same in
      let at : old.count + 1 ≡ length trades + 1 = ap (λ (n : ℕ). n + 1) has.count in
      let records_kept : old.keeping.records ≡ keeping.records = ap (λ (k : KeepingOptions). k.records) has.keeps_so in
      let times_kept : old.keeping.times ≡ keeping.times = ap (λ (k : KeepingOptions). k.times) has.keeps_so in
      record {
        named = symbol_same ∙ has.named;
        count = counted ∙ count-more old.count trades trade has.count;
        keeps_so = keeping_same ∙ has.keeps_so;
        times_are = times_new
            ∙ (λ i. with_time_if (times_kept i) (has.times_are i) trade.time)
            ∙ own-time keeping.times symbol trades trade own;
        records_are = records_new
            ∙ (λ i. with_trade_if (records_kept i) (has.records_are i) (old.count + 1) trade)
            ∙ own-trade keeping.records symbol trades trade (old.count + 1) own at;
      }

-- the trade is of the symbol whose records are kept
pub own-trade_symbol : {Q : Type 0} (symbol : List ℕ) (keeping : KeepingOptions) (old : TradesOfSymbol Q) (trades : List TradeRecord) (trade : TradeRecord) → IsTradesOfSymbol symbol keeping old trades
    → same_name trade.symbol old.symbol ≡ true → trade.symbol ≡ old.records.symbol
own-trade_symbol symbol keeping old trades trade has same =
    same-text trade.symbol old.symbol same ∙ has.named ∙ sym (ap (λ (k : KeptTradeList). k.symbol) has.records_are)
