-- What the trade records of deals say, read again over the same orders.
use Rattle.std.specs.Prelude.{◌≡◌, ℕ, ◌+◌, List, EachIndex}
use Rattle.audit_base.specs.declared.terms.Rule.{Rule}
use Rattle.audit_base.specs.declared.orders.Order.{Order}
use Rattle.audit_base.specs.declared.orders.Deal.{Deal}
use Rattle.audit_base.specs.Orders.{HaveOwnKeys}
use Rattle.audit_base.specs.Deals.{deal_at, DealsInRange, IsDealList}
use Rattle.audit_base.specs.Trades.{TradesInRange, SoundTrades, deals_of_symbol}
use Rattle.audit_base.specs.Expected.{IsExpected, trades_of_deals}

-- the places of deals are 1, 2 and so on
abbrev pub HavePlacesFromOne : List Deal → Type 0
HavePlacesFromOne deals = EachIndex deals (λ k. (deal_at deals k).place ≡ k + 1)

-- the trade records of deals are sound: their ids differ, and each names a bid and an ask
abbrev pub TradesAreSound : Type 0
TradesAreSound = (orders : List Order) (deals : List Deal) (symbol : List ℕ)
    → HaveOwnKeys orders → IsDealList orders deals
    → SoundTrades orders symbol (trades_of_deals orders symbol deals)

-- and where the deals have the places 1, 2 and so on, they are the deals of their trade records
abbrev pub TradesGiveTheirDeals : Type 0
TradesGiveTheirDeals = (orders : List Order) (deals : List Deal) (symbol : List ℕ)
    → HaveOwnKeys orders → IsDealList orders deals → HavePlacesFromOne deals
    → deals_of_symbol orders symbol (trades_of_deals orders symbol deals) ≡ deals

-- the Expected trades of a rule have these places
abbrev pub ExpectedHavePlaces : Type 0
ExpectedHavePlaces = (rule : Rule) (orders : List Order) (deals : List Deal)
    → IsExpected rule orders deals → HavePlacesFromOne deals

-- the numbers of the trade records are those of the deals
abbrev pub TradesHaveRanges : Type 0
TradesHaveRanges = (orders : List Order) (deals : List Deal) (symbol : List ℕ)
    → DealsInRange deals → TradesInRange (trades_of_deals orders symbol deals)
