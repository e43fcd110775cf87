-- The trades of a symbol one by one: what is known after some of them.
use Rattle.std.specs.Prelude.{◌≡◌, ◌<◌, ◌+◌, ◌-◌, ◌^◌, ℕ, true, List, [], ◌∷◌, ◌++◌, Option, None, Some, is_none, map, option_map, length, if◌then◌else◌}
use Rattle.std.specs.Option.{option_or}
use Rattle.audit_base.specs.declared.terms.Side.TheVariants.{Buy, Sell}
use Rattle.audit_base.specs.declared.records.TradeRecord.{TradeRecord}
use Rattle.audit_base.specs.declared.orders.Order.{Order}
use Rattle.audit_base.specs.declared.orders.Deal.{Deal}
use Rattle.audit_base.specs.declared.findings.Finding.{Finding}
use Rattle.audit_base.specs.declared.flaws.Evidence.TheVariants.{UnknownOrder}
use Rattle.audit_base.specs.Deals.{DealsInRange}
use Rattle.audit_base.specs.Least.{least_answer, least_with, only_if}
use Rattle.audit_base.specs.Orders.{same_name, order_on_side_with_key}
use Rattle.audit_base.specs.Trades.{trades_of_symbol, trade_at, trade_place, duplicate_trade_finding, unknown_order_finding, deal_of_trade}
use Rattle.instruction_history.specs.Flaws.{finding_at, flaw_finding, NamesNoOrder}
use Rattle.matching_core.specs.declared.deals_so_far.DealsSoFar.{DealsSoFar}
use Rattle.matching_core.specs.declared.sound_deals.SoundDeals.{SoundDeals}
use Rattle.matching_core.specs.declared.deals_or_flaw.DealsOrFlaw.{DealsOrFlaw}
use Rattle.matching_core.specs.declared.trade_ids.TradeIds.{TradeIds}
use Rattle.matching_core.specs.IdOrder.{rising_place_of_id}
use Rattle.matching_core.specs.MappedIds.{mapped_place_of_id}

-- Trade ids.

-- the place of the first trade with an id: as the maps hold it, or as it is among the ids that rise
abbrev pub kept_place_of_id : TradeIds → List ℕ → Option ℕ
kept_place_of_id ids id =
    option_or (mapped_place_of_id ids.mapped id) (rising_place_of_id ids.rising id)

-- one id more: it has this place, and every other id has what it had
abbrev pub AddsId : TradeIds → TradeIds → List ℕ → ℕ → Type 0
AddsId old new id place =
    (other : List ℕ) → kept_place_of_id new other
    ≡ (if same_name id other then Some place else kept_place_of_id old other)

-- 6 of a trade with its place
abbrev pub unknown_order_of : List Order → ℕ × TradeRecord → Option Finding
unknown_order_of orders e =
    option_or (only_if (is_none (order_on_side_with_key orders Buy e.1.buy))
    (finding_at e.0 (UnknownOrder Buy e.1.buy)))
    (only_if (is_none (order_on_side_with_key orders Sell e.1.sell))
    (finding_at e.0 (UnknownOrder Sell e.1.sell)))

-- What is known after some trades of a symbol.

-- the first finding of the trades of a list
abbrev pub finding_in_trades : List Order → List (ℕ × TradeRecord) → Option Finding
finding_in_trades orders listed =
    least_answer
    (λ k. option_or (duplicate_trade_finding listed k) (unknown_order_finding orders listed k))
    (length listed)

-- the place of the first trade of the list with an id
abbrev pub listed_place_of_id : List (ℕ × TradeRecord) → List ℕ → Option ℕ
listed_place_of_id listed id =
    option_map (trade_place listed)
    (least_with (λ j. same_name (trade_at listed j).trade id) (length listed))

-- what is kept of trades without a finding: their deals and their ids
pub record AreKeptOfTrades (orders : List Order) (listed : List (ℕ × TradeRecord))
    (kept : SoundDeals) : Type 0 where
  pub clean : finding_in_trades orders listed ≡ None
  pub deals : kept.deals.items ≡ map (deal_of_trade orders) listed
  pub numbers : DealsInRange kept.deals.items
  pub ids : (id : List ℕ) → kept_place_of_id kept.ids id ≡ listed_place_of_id listed id

-- what is kept is that of these trades, or the finding is their first one
abbrev pub AreTradesKnown : List Order → List (ℕ × TradeRecord) → SoundDeals
    → Option Finding → Type 0
AreTradesKnown orders listed kept None = AreKeptOfTrades orders listed kept
AreTradesKnown orders listed kept (Some finding) = finding_in_trades orders listed ≡ Some finding

-- What is kept of the trades of one symbol.

-- these are the deals of the symbol between these orders, after exactly these records of the trade
-- log, of all symbols
pub record IsDealsOrFlaw (orders : List Order) (symbol : List ℕ) (kept : DealsOrFlaw)
    (trades : List TradeRecord) : Type 0 where
  pub known : AreTradesKnown orders (trades_of_symbol symbol trades) kept.sound
      (flaw_finding kept.flaw)
  pub alone : NamesNoOrder kept.flaw

-- a fact of every symbol and all records whose deals these are
abbrev pub ForTrades : List Order → DealsOrFlaw → (List ℕ → List TradeRecord → Type 0) → Type 0
ForTrades orders kept P = (symbol : List ℕ) (trades : List TradeRecord)
    → IsDealsOrFlaw orders symbol kept trades → P symbol trades

-- these are the deals of a symbol after some records, fewer than there are places
pub record HasFewTrades (orders : List Order) (kept : DealsOrFlaw) : Type 0 where
  pub symbol : List ℕ
  pub trades : List TradeRecord
  pub is : IsDealsOrFlaw orders symbol kept trades
  pub fits_places : length trades < 2 ^ 32 - 1

-- of whatever symbol these were the deals, they are those with one trade of the symbol more, at its
-- place
abbrev pub TakesOwnTrade : List Order → DealsOrFlaw → DealsOrFlaw → ℕ → TradeRecord → Type 0
TakesOwnTrade orders old new place trade = ForTrades orders old (λ symbol trades.
    same_name trade.symbol symbol ≡ true → place ≡ length trades + 1
    → IsDealsOrFlaw orders symbol new (trades ++ trade ∷ []))

-- the symbol's part of exactly these records of the trade log is known
pub record IsDealsSoFar {M : Type 0} (orders : List Order) (symbol : List ℕ)
    (so_far : DealsSoFar M) (trades : List TradeRecord) : Type 0 where
  pub count : so_far.count ≡ length trades
  pub kept : IsDealsOrFlaw orders symbol so_far.kept trades

-- whatever records of the trade log were known, they are known with one more
abbrev pub TakesTrade : {M : Type 0} → List Order → List ℕ → DealsSoFar M → DealsSoFar M
    → TradeRecord → Type 0
TakesTrade orders symbol old new trade =
    (trades : List TradeRecord) → IsDealsSoFar orders symbol old trades
    → IsDealsSoFar orders symbol new (trades ++ trade ∷ [])

-- whatever trades were resolved, one more is known, at its place
abbrev pub KnowsNextTrade : List Order → SoundDeals → SoundDeals → ℕ → TradeRecord
    → Option Finding → Type 0
KnowsNextTrade orders old new place trade finding =
    (listed : List (ℕ × TradeRecord)) → AreKeptOfTrades orders listed old
    → AreTradesKnown orders (listed ++ (place, trade) ∷ []) new finding

-- a trade at a place, if it is one of the symbol
abbrev pub trade_of_symbol : List ℕ → ℕ → TradeRecord → List (ℕ × TradeRecord)
trade_of_symbol symbol place trade =
    if same_name trade.symbol symbol then (place, trade) ∷ [] else []

-- what is kept after a trade without a finding, where its id was added before
pub record AddsDeal (old new : SoundDeals) (deal : Deal) : Type 0 where
  pub deals : new.deals.items ≡ old.deals.items ++ deal ∷ []
  pub numbers : DealsInRange old.deals.items → DealsInRange new.deals.items
  pub ids : new.ids ≡ old.ids
