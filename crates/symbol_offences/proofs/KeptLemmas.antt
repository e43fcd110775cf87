-- What is kept of a symbol, with one record more, and that its places rise.
use Rattle.std.proofs.Common.{◌≡◌, ◌<◌, ◌+◌, ◌++◌, ◌∷◌, [], ◌∙◌, refl, sym, ap, ℕ, Bool, true, false, List, All, AllPairs, length, arith}
use Rattle.std.specs.Prelude.{map}
use Rattle.std.proofs.lemmas.List.{map-append}
use Rattle.std.proofs.lemmas.List.Elements.{All-head, All-tail, All-nil, All-cons}
use Rattle.audit_base.specs.Moments.{Moment}
use Rattle.audit_base.specs.declared.records.OrderRecord.{OrderRecord}
use Rattle.audit_base.specs.declared.records.TradeRecord.{TradeRecord}
use Rattle.audit_base.specs.Histories.{history, symbol_of}
use Rattle.audit_base.specs.Orders.{same_name}
use Rattle.audit_base.specs.Trades.{trades_of_symbol}
use Rattle.audit_base.proofs.HistoryLemmas.{enumerated-places}
use Rattle.audit_base.proofs.SumLemmas.{AllPairs-head, AllPairs-tail, AllPairs-cons}
use Rattle.further_checks.specs.FurtherRules.{times_of_symbol}
use Rattle.day_records.proofs.NumberedLemmas.{left-more, left-same}
use Rattle.symbol_offences.specs.OrderLog.{with_entry_if}
use Rattle.symbol_offences.specs.Questions.{kept_if}
use Rattle.symbol_offences.specs.SymbolBeforeRule.{ArePlacesRising, kept_history, kept_trades, places_of_records}
use Rattle.symbol_offences.specs.TradeLog.{with_time_if, with_trade_if}

-- a record of the symbol
abbrev order_of : List ℕ → ℕ × OrderRecord → Bool
order_of symbol e = same_name (symbol_of e.1) symbol

abbrev trade_of : List ℕ → ℕ × TradeRecord → Bool
trade_of symbol e = same_name e.1.symbol symbol

abbrev time_of_trade : ℕ × TradeRecord → Moment
time_of_trade e = e.1.time

-- The order records.

-- one of the symbol more
pub own-entry : (keeps : Bool) (symbol : List ℕ) (entries : List OrderRecord) (entry : OrderRecord) (place : ℕ) → same_name (symbol_of entry) symbol ≡ true → place ≡ length entries + 1
    → with_entry_if keeps (kept_history keeps symbol entries) place entry ≡ kept_history keeps symbol (entries ++ entry ∷ [])
own-entry false symbol entries entry place own at = refl
own-entry true symbol entries entry place own at =
    ap (λ (n : ℕ). record { symbol = symbol; entries = history symbol entries ++ (n, entry) ∷ [] }) at
    ∙ ap (λ (h : List (ℕ × OrderRecord)). record { symbol = symbol; entries = h }) (sym (left-more (order_of symbol) entries entry own))

-- one of another symbol
pub other-entry : (keeps : Bool) (symbol : List ℕ) (entries : List OrderRecord) (entry : OrderRecord) → same_name (symbol_of entry) symbol ≡ false
    → kept_history keeps symbol entries ≡ kept_history keeps symbol (entries ++ entry ∷ [])
other-entry keeps symbol entries entry other =
    ap (λ (h : List (ℕ × OrderRecord)). record { symbol = symbol; entries = kept_if keeps h }) (sym (left-same (order_of symbol) entries entry other))

-- The trades.

own-trades : (symbol : List ℕ) (trades : List TradeRecord) (trade : TradeRecord) → same_name trade.symbol symbol ≡ true → trades_of_symbol symbol (trades ++ trade ∷ []) ≡ trades_of_symbol symbol trades ++ (length trades + 1, trade) ∷ []
unfolding trades_of_symbol
own-trades symbol trades trade own = left-more (trade_of symbol) trades trade own

pub other-trades : (symbol : List ℕ) (trades : List TradeRecord) (trade : TradeRecord) → same_name trade.symbol symbol ≡ false → trades_of_symbol symbol (trades ++ trade ∷ []) ≡ trades_of_symbol symbol trades
unfolding trades_of_symbol
other-trades symbol trades trade other = left-same (trade_of symbol) trades trade other

pub own-trade : (keeps : Bool) (symbol : List ℕ) (trades : List TradeRecord) (trade : TradeRecord) (place : ℕ) → same_name trade.symbol symbol ≡ true → place ≡ length trades + 1
    → with_trade_if keeps (kept_trades keeps symbol trades) place trade ≡ kept_trades keeps symbol (trades ++ trade ∷ [])
own-trade false symbol trades trade place own at = refl
own-trade true symbol trades trade place own at =
    ap (λ (n : ℕ). record { symbol = symbol; trades = trades_of_symbol symbol trades ++ (n, trade) ∷ [] }) at
    ∙ ap (λ (l : List (ℕ × TradeRecord)). record { symbol = symbol; trades = l }) (sym (own-trades symbol trades trade own))

pub other-trade : (keeps : Bool) (symbol : List ℕ) (trades : List TradeRecord) (trade : TradeRecord) → same_name trade.symbol symbol ≡ false
    → kept_trades keeps symbol trades ≡ kept_trades keeps symbol (trades ++ trade ∷ [])
other-trade keeps symbol trades trade other =
    ap (λ (l : List (ℕ × TradeRecord)). record { symbol = symbol; trades = kept_if keeps l }) (sym (other-trades symbol trades trade other))

-- Their times.

pub own-time : (keeps : Bool) (symbol : List ℕ) (trades : List TradeRecord) (trade : TradeRecord) → same_name trade.symbol symbol ≡ true
    → with_time_if keeps (kept_if keeps (times_of_symbol symbol trades)) trade.time ≡ kept_if keeps (times_of_symbol symbol (trades ++ trade ∷ []))
own-time false symbol trades trade own = refl
own-time true symbol trades trade own =
    sym (map-append time_of_trade (trades_of_symbol symbol trades) ((length trades + 1, trade) ∷ []))
    ∙ ap (map time_of_trade) (sym (own-trades symbol trades trade own))

pub other-time : (keeps : Bool) (symbol : List ℕ) (trades : List TradeRecord) (trade : TradeRecord) → same_name trade.symbol symbol ≡ false
    → kept_if keeps (times_of_symbol symbol trades) ≡ kept_if keeps (times_of_symbol symbol (trades ++ trade ∷ []))
other-time keeps symbol trades trade other =
    ap (λ (l : List (ℕ × TradeRecord)). kept_if keeps (map time_of_trade l)) (sym (other-trades symbol trades trade other))

-- of no trades nothing is kept
pub no-trades : (symbol : List ℕ) → trades_of_symbol symbol [] ≡ []
unfolding trades_of_symbol
no-trades symbol = refl

pub none-kept : {A : Type 0} (keeps : Bool) (members : List A) → members ≡ [] → kept_if keeps members ≡ []
none-kept false members is = refl
none-kept true members is = is

pub no-trades_kept : (keeps : Bool) (symbol : List ℕ) → kept_trades keeps symbol [] ≡ record { symbol = symbol; trades = [] }
no-trades_kept keeps symbol =
    ap (λ (l : List (ℕ × TradeRecord)). record { symbol = symbol; trades = l }) (none-kept keeps (trades_of_symbol symbol []) (no-trades symbol))

pub no-times_kept : (keeps : Bool) (symbol : List ℕ) → kept_if keeps (times_of_symbol symbol []) ≡ []
no-times_kept keeps symbol = none-kept keeps (times_of_symbol symbol []) (ap (map time_of_trade) (no-trades symbol))

-- Places rise.

all-mapped : {X : Type 0} (f : X → ℕ) (n : ℕ) (xs : List X) → All (λ (x : X). n < f x) xs → All (λ (m : ℕ). n < m) (map f xs)
all-mapped f n [] all = All-nil (λ (m : ℕ). n < m)
all-mapped {X} f n (x ∷ xs) all =
    All-cons (λ (m : ℕ). n < m) (f x) (map f xs) (All-head (λ (y : X). n < f y) x xs all) (all-mapped f n xs (All-tail (λ (y : X). n < f y) x xs all))

-- numbers of members that rise
pub mapped-rise : {X : Type 0} (f : X → ℕ) (xs : List X) → AllPairs (λ (x y : X). f x < f y) xs → ArePlacesRising (map f xs)
mapped-rise f [] rise = λ i j d lt below. absurd (omega arith)
mapped-rise {X} f (x ∷ xs) rise =
    AllPairs-cons (λ (m n : ℕ). m < n) (f x) (map f xs) (all-mapped f (f x) xs (AllPairs-head (λ (y z : X). f y < f z) x xs rise))
    (mapped-rise f xs (AllPairs-tail (λ (y z : X). f y < f z) x xs rise))

kept-rise : {R : Type 0} (keeps : Bool) (listed : List (ℕ × R)) → ArePlacesRising (places_of_records listed) → ArePlacesRising (places_of_records (kept_if keeps listed))
kept-rise true listed rise = rise
kept-rise false listed rise = λ i j d lt below. absurd (omega arith)

abbrev place_of : {R : Type 0} → ℕ × R → ℕ
place_of e = e.0

pub history-rises : (keeps : Bool) (symbol : List ℕ) (entries : List OrderRecord) → ArePlacesRising (places_of_records (kept_if keeps (history symbol entries)))
history-rises keeps symbol entries = kept-rise keeps (history symbol entries) (mapped-rise place_of (history symbol entries) (enumerated-places entries (order_of symbol) 1).1)

trades-rise-all : (symbol : List ℕ) (trades : List TradeRecord) → ArePlacesRising (places_of_records (trades_of_symbol symbol trades))
unfolding trades_of_symbol
trades-rise-all symbol trades = mapped-rise place_of (trades_of_symbol symbol trades) (enumerated-places trades (trade_of symbol) 1).1

pub trades-rise : (keeps : Bool) (symbol : List ℕ) (trades : List TradeRecord) → ArePlacesRising (places_of_records (kept_if keeps (trades_of_symbol symbol trades)))
trades-rise keeps symbol trades = kept-rise keeps (trades_of_symbol symbol trades) (trades-rise-all symbol trades)
