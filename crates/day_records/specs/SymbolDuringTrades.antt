-- What is known of a symbol of a day after its orders and some trades.
use Rattle.std.specs.Prelude.{◌≡◌, ◌<◌, ◌+◌, ◌-◌, ◌^◌, ℕ, true, List, [], ◌∷◌, ◌++◌, None, Some, Result, Ok, length}
use Rattle.audit_base.specs.declared.findings.Finding.{Finding}
use Rattle.audit_base.specs.declared.records.OrderRecord.{OrderRecord}
use Rattle.audit_base.specs.declared.records.TradeRecord.{TradeRecord}
use Rattle.audit_base.specs.Histories.{history_finding, order_list}
use Rattle.audit_base.specs.Orders.{same_name}
use Rattle.matching_core.specs.DealsSoFar.{IsDealsOrFlaw}
use Rattle.record_verdict.specs.declared.before_rule.BeforeRule.{BeforeRule}
use Rattle.record_verdict.specs.declared.scopes.Admission.{Admission}
use Rattle.record_verdict.specs.declared.scopes.Scope.{Scope}
use Rattle.record_verdict.specs.BeforeRule.{IsBeforeRule}
use Rattle.record_verdict.specs.Scopes.{finding_before_rule_in_scope, unadmitted_order_finding}
use Rattle.day_records.specs.declared.symbol_during_trades.SoundSymbol.{SoundSymbol}
use Rattle.day_records.specs.declared.symbol_during_trades.SymbolDuringTrades.{SymbolDuringTrades}
use Rattle.day_records.specs.declared.symbol_during_trades.SymbolDuringTrades.TheVariants as kept

-- the symbol that is read, and the orders that its rule admits
abbrev pub scope_by : Admission → List ℕ → Scope
scope_by admission symbol = record { symbol = symbol; admission = admission }

-- the orders of the symbol have no finding, and the deals between them are those of these trades
pub record IsSoundSymbol (admission : Admission) (entries : List OrderRecord)
    (trades : List TradeRecord) (symbol : List ℕ) (sound_symbol : SoundSymbol) : Type 0 where
  pub well_formed : history_finding symbol entries ≡ None
  pub orders_are : sound_symbol.history ≡ order_list symbol entries
  pub admitted : unadmitted_order_finding admission sound_symbol.history ≡ None
  pub deals_are : IsDealsOrFlaw sound_symbol.history symbol sound_symbol.deals trades

-- this is what is known of the symbol after these order records and these trades: the finding about
-- its orders that is the first one whatever the trade log is, or else its orders and deals
abbrev pub IsSymbolDuringTrades : Admission → List OrderRecord → List TradeRecord → List ℕ
    → SymbolDuringTrades → Type 0
IsSymbolDuringTrades admission entries trades symbol (kept.Found finding) =
    (paired : Result (List TradeRecord) Finding)
    → finding_before_rule_in_scope (scope_by admission symbol) entries paired ≡ Some finding
IsSymbolDuringTrades admission entries trades symbol (kept.Sound sound_symbol) =
    IsSoundSymbol admission entries trades symbol sound_symbol

-- a fact of whatever this is known of
abbrev pub ForSymbol : SymbolDuringTrades
    → (Admission → List OrderRecord → List TradeRecord → List ℕ → Type 0) → Type 0
ForSymbol symbol_trades P = (admission : Admission) (entries : List OrderRecord)
    (trades : List TradeRecord) (symbol : List ℕ)
    → IsSymbolDuringTrades admission entries trades symbol symbol_trades
    → P admission entries trades symbol

-- of whatever symbol this was known, it is known with one trade of the symbol more, at its place
abbrev pub TakesTradeOf : SymbolDuringTrades → SymbolDuringTrades → ℕ → TradeRecord → Type 0
TakesTradeOf old new place trade = ForSymbol old (λ admission entries trades symbol.
    same_name trade.symbol symbol ≡ true → place ≡ length trades + 1
    → IsSymbolDuringTrades admission entries (trades ++ trade ∷ []) symbol new)

-- this is known of a symbol after this many trades, which are fewer than there are places
pub record HasFewOfSymbol (count : ℕ) (symbol_trades : SymbolDuringTrades) : Type 0 where
  pub admission : Admission
  pub entries : List OrderRecord
  pub trades : List TradeRecord
  pub symbol : List ℕ
  pub is : IsSymbolDuringTrades admission entries trades symbol symbol_trades
  pub counted : count ≡ length trades
  pub fits_places : length trades < 2 ^ 32 - 1

-- the records of whatever symbol this is known of give this before the rule is looked at
abbrev pub GivesBeforeRule : ℕ → SymbolDuringTrades → BeforeRule → Type 0
GivesBeforeRule count symbol_trades given =
    ForSymbol symbol_trades (λ admission entries trades symbol. count ≡ length trades
    → IsBeforeRule (scope_by admission symbol) entries (Ok trades) given)
