-- What is known of a symbol after the records that are kept of it.
use Rattle.std.proofs.Common.{◌≡◌, ◌+◌, ◌∙◌, ℕ, Bool, Some, List, [], ◌∷◌, ◌++◌, take, sym, ap, subst, arith}
use Rattle.std.specs.Prelude.{slice_get}
use Rattle.std.proofs.lemmas.List.{map-append, take_more}
use Rattle.std.proofs.lemmas.Option.{get_or_from_slice_get, slice_get_within}
use Rattle.audit_base.specs.Moments.{Moment}
use Rattle.audit_base.specs.declared.orders.Order.{Order}
use Rattle.audit_base.specs.declared.records.OrderRecord.{OrderRecord}
use Rattle.audit_base.specs.declared.records.TradeRecord.{TradeRecord}
use Rattle.audit_base.specs.Histories.{history, symbol_of}
use Rattle.audit_base.specs.Orders.{same_name}
use Rattle.audit_base.specs.Trades.{trades_of_symbol}
use Rattle.instruction_history.specs.declared.history_or_flaw.HistoryOrFlaw.{HistoryOrFlaw}
use Rattle.instruction_history.specs.Draft.{IsHistoryKnown}
use Rattle.instruction_history.specs.Flaws.{flaw_finding}
use Rattle.instruction_history.specs.HistoryOrFlaw.{ForRecords, HasFewRecords, IsHistoryOrFlaw, TakesOwnRecord}
use Rattle.day_records.specs.KeptOrders.{KeptEntries}
use Rattle.day_records.specs.KeptTrades.{KeptTradeList}
use Rattle.day_records.proofs.NumberedLemmas.{comes-last, comes-within}
use Rattle.matching_core.specs.declared.deals_or_flaw.DealsOrFlaw.{DealsOrFlaw}
use Rattle.matching_core.specs.DealsSoFar.{AreTradesKnown, IsDealsOrFlaw}
use Rattle.record_verdict.specs.declared.scopes.Admission.{Admission}
use Rattle.day_records.specs.declared.kept_records.KeptRecords.{KeptRecords}
use Rattle.day_records.specs.declared.symbol_during_trades.SymbolDuringTrades.{SymbolDuringTrades}
use Rattle.day_records.specs.declared.symbol_during_trades.SymbolDuringTrades.TheVariants as kept
use Rattle.day_records.specs.SymbolDuringTrades.{IsSymbolDuringTrades, TakesTradeOf}
use Rattle.day_records.specs.KeptRecords.{GivesSymbolDuringTrades, HasFewOrders, KnowsHistory, KnowsTrades, times_listed}

-- a record of the symbol
abbrev order_of : List ℕ → ℕ × OrderRecord → Bool
order_of symbol e = same_name (symbol_of e.1) symbol

abbrev trade_of : List ℕ → ℕ × TradeRecord → Bool
trade_of symbol e = same_name e.1.symbol symbol

-- The history.

-- it is known by the records of the symbol alone
same-history : (symbol : List ℕ) (xs ys : List OrderRecord) (known : HistoryOrFlaw) → history symbol xs ≡ history symbol ys → IsHistoryOrFlaw symbol known xs → IsHistoryOrFlaw symbol known ys
same-history symbol xs ys known same is = record {
  known = subst (λ (records : List (ℕ × OrderRecord)). IsHistoryKnown records known.so_far (flaw_finding known.flaw)) same is.known;
  alone = is.alone;
}

pub no-history : (known : HistoryOrFlaw) → ((symbol : List ℕ) → IsHistoryOrFlaw symbol known []) → KnowsHistory [] known
no-history known fresh = λ symbol entries are. same-history symbol [] entries known (sym are) (fresh symbol)

pub history-next : (records : List (ℕ × OrderRecord)) (i p : ℕ) (x : OrderRecord) (old new : HistoryOrFlaw) → slice_get records i ≡ Some (p, x) → TakesOwnRecord old new p x → KnowsHistory (take i records) old → KnowsHistory (take (i + 1) records) new
history-next records i p x old new got takes knows = λ symbol entries are.
    let it = comes-last (order_of symbol) entries records i p x are got in
    same-history symbol (it.front ++ x ∷ []) entries new (it.after ∙ sym are) (takes symbol it.front (knows symbol it.front it.before) it.passes it.at)

pub few-before : (orders : KeptEntries) (i p : ℕ) (x : OrderRecord) (known : HistoryOrFlaw) → HasFewOrders orders → slice_get orders.entries i ≡ Some (p, x) → KnowsHistory (take i orders.entries) known → HasFewRecords known
few-before orders i p x known few got knows =
    let same : orders.entries ≡ history few.symbol few.entries = ap (λ (own : KeptEntries). own.entries) few.are in
    let there = comes-within (order_of few.symbol) few.entries i p x (ap (λ (records : List (ℕ × OrderRecord)). slice_get records i) (sym same) ∙ got) in
    record {
      symbol = few.symbol;
      entries = there.it.front;
      is = knows few.symbol there.it.front (there.it.before ∙ ap (take i) (sym same));
      fits_indices = omega (arith, there.fewer, few.fits_indices);
    }

pub few-after : (orders : KeptEntries) (known : HistoryOrFlaw) → HasFewOrders orders → KnowsHistory orders.entries known → HasFewRecords known
few-after orders known few knows = record {
  symbol = few.symbol;
  entries = few.entries;
  is = knows few.symbol few.entries (sym (ap (λ (own : KeptEntries). own.entries) few.are));
  fits_indices = few.fits_indices;
}

-- The trades.

same-deals : (orders : List Order) (symbol : List ℕ) (xs ys : List TradeRecord) (deals : DealsOrFlaw) → trades_of_symbol symbol xs ≡ trades_of_symbol symbol ys → IsDealsOrFlaw orders symbol deals xs → IsDealsOrFlaw orders symbol deals ys
same-deals orders symbol xs ys deals same is = record {
  known = subst (λ (listed : List (ℕ × TradeRecord)). AreTradesKnown orders listed deals.sound (flaw_finding deals.flaw)) same is.known;
  alone = is.alone;
}

-- a symbol is known by its trades alone
same-trades : (admission : Admission) (entries : List OrderRecord) (symbol : List ℕ) (xs ys : List TradeRecord) (known : SymbolDuringTrades) → trades_of_symbol symbol xs ≡ trades_of_symbol symbol ys
    → IsSymbolDuringTrades admission entries xs symbol known → IsSymbolDuringTrades admission entries ys symbol known
same-trades admission entries symbol xs ys (kept.Found finding) same is = is
same-trades admission entries symbol xs ys (kept.Sound sound) same is = record {
  well_formed = is.well_formed;
  orders_are = is.orders_are;
  admitted = is.admitted;
  deals_are = same-deals sound.history symbol xs ys sound.deals same is.deals_are;
}

pub no-trades-yet : (known : SymbolDuringTrades) → KnowsTrades [] known known
unfolding trades_of_symbol
no-trades-yet known = λ admission entries symbol before trades are. same-trades admission entries symbol [] trades known (sym are) before

pub trades-next : (listed : List (ℕ × TradeRecord)) (i p : ℕ) (x : TradeRecord) (first old new : SymbolDuringTrades) → slice_get listed i ≡ Some (p, x) → TakesTradeOf old new p x → KnowsTrades (take i listed) first old → KnowsTrades (take (i + 1) listed) first new
unfolding trades_of_symbol
trades-next listed i p x first old new got takes knows = λ admission entries symbol before trades are.
    let it = comes-last (trade_of symbol) trades listed i p x are got in
    same-trades admission entries symbol (it.front ++ x ∷ []) trades new (it.after ∙ sym are)
    (takes admission entries it.front symbol (knows admission entries symbol before it.front it.before) it.passes it.at)

-- the times of one trade more
pub times-next : (listed : List (ℕ × TradeRecord)) (i : ℕ) (one : ℕ × TradeRecord) (old new : List Moment) → slice_get listed i ≡ Some one → new ≡ old ++ one.1.time ∷ [] → old ≡ times_listed (take i listed)
    → new ≡ times_listed (take (i + 1) listed)
times-next listed i one old new got takes so_far =
    let more : take (i + 1) listed ≡ take i listed ++ one ∷ [] =
    take_more listed i one (slice_get_within listed i one got) ∙ ap (λ (e : ℕ × TradeRecord). take i listed ++ e ∷ []) (get_or_from_slice_get listed i one one got) in
    takes
    ∙ ap (λ (times : List Moment). times ++ one.1.time ∷ []) so_far
    ∙ sym (map-append (λ (e : ℕ × TradeRecord). e.1.time) (take i listed) (one ∷ []))
    ∙ ap times_listed (sym more)

-- Both.

pub gives : (admission : Admission) (own : KeptRecords) (orders : KeptEntries) (trades : KeptTradeList) (known : HistoryOrFlaw) (first last : SymbolDuringTrades) → orders ≡ own.orders → trades ≡ own.trades
    → KnowsHistory orders.entries known → ForRecords known (λ symbol entries. IsSymbolDuringTrades admission entries [] symbol first) → KnowsTrades trades.trades first last → GivesSymbolDuringTrades admission own last
gives admission own orders trades known first last orders_are trades_are history_known begins trades_known = λ entries all symbol has.
    trades_known admission entries symbol
    (begins symbol entries (history_known symbol entries (sym (ap (λ (e : KeptEntries). e.entries) (orders_are ∙ has.orders_are)))))
    all (sym (ap (λ (t : KeptTradeList). t.trades) (trades_are ∙ has.trades_are)))
