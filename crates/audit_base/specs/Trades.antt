-- Sound trades: those of the symbol have ids of their own, and each names
-- a bid and an ask of the history.
use Rattle.std.specs.Prelude.{◌≡◌, ℕ, All, List, [], Option, None, Some, is_none, option_map, filter, map, length, slice_index_or, unwrap_or}
use Rattle.std.specs.Option.{option_or}
use Rattle.std.specs.List.{enumerate_from}
use Rattle.audit_base.specs.declared.terms.Side.TheVariants.{Buy, Sell}
use Rattle.audit_base.specs.declared.terms.Which.TheVariants as which
use Rattle.audit_base.specs.declared.records.TradeRecord.{TradeRecord}
use Rattle.audit_base.specs.declared.orders.Order.{Order}
use Rattle.audit_base.specs.declared.orders.Deal.{Deal}
use Rattle.audit_base.specs.declared.findings.Property.TheVariants as property
use Rattle.audit_base.specs.declared.findings.Finding.{Finding}
use Rattle.audit_base.specs.declared.findings.Shown.TheVariants as shown
use Rattle.audit_base.specs.Least.{least_answer, least_with, only_if}
use Rattle.audit_base.specs.Numbers.{AreInRange}
use Rattle.audit_base.specs.Orders.{same_name, order_past_end, order_on_side_with_key}
use Rattle.audit_base.specs.Shows.{finding_at_record, show_place}

-- the trades of a symbol, each with its place among the trades of the whole log, from 1
unfoldable pub trades_of_symbol : List ℕ → List TradeRecord → List (ℕ × TradeRecord)
trades_of_symbol symbol trades = filter (λ e. same_name e.1.symbol symbol) (enumerate_from 1 trades)

-- the trade at an index of such a list, and its place
abbrev pub trade_past_end : ℕ × TradeRecord
trade_past_end = (
  0,
  record {
    trade = [];
    time = order_past_end.time;
    symbol = [];
    buy = order_past_end.key;
    sell = order_past_end.key;
    quantity = 0;
    price = 0;
  },
)

abbrev pub trade_at : List (ℕ × TradeRecord) → ℕ → TradeRecord
trade_at listed trade = (slice_index_or listed trade trade_past_end).1

abbrev pub trade_place : List (ℕ × TradeRecord) → ℕ → ℕ
trade_place listed trade = (slice_index_or listed trade trade_past_end).0

-- its numbers are a quantity and a price
abbrev pub TradeInRange : TradeRecord → Type 0
TradeInRange t = AreInRange t.quantity t.price

-- each trade of the log has such numbers
abbrev pub TradesInRange : List TradeRecord → Type 0
TradesInRange trades = All TradeInRange trades

-- finding 5: the trade id is that of an earlier trade of the symbol
unfoldable pub duplicate_trade_finding : List (ℕ × TradeRecord) → ℕ → Option Finding
duplicate_trade_finding listed trade =
    option_map
    (λ earlier. finding_at_record property.DuplicateTrade which.Trades (trade_place listed trade)
    (show_place which.Trades (trade_place listed earlier)) None)
    (least_with
    (λ earlier. same_name (trade_at listed earlier).trade (trade_at listed trade).trade) trade)

-- finding 6: the buy key is that of no bid, or else the sell key that of no ask
unfoldable pub unknown_order_finding : List Order → List (ℕ × TradeRecord) → ℕ → Option Finding
unknown_order_finding orders listed trade = let t = trade_at listed trade in
    option_or (only_if (is_none (order_on_side_with_key orders Buy t.buy))
    (finding_at_record property.UnknownOrder which.Trades (trade_place listed trade)
    (Some (shown.Unknown Buy t.buy)) None))
    (only_if (is_none (order_on_side_with_key orders Sell t.sell))
    (finding_at_record property.UnknownOrder which.Trades (trade_place listed trade)
    (Some (shown.Unknown Sell t.sell)) None))

-- the finding at the least trade of the symbol that fails 5 or 6, and at it 5 before 6
unfoldable pub trades_finding : List Order → List ℕ → List TradeRecord → Option Finding
trades_finding orders symbol trades = let listed = trades_of_symbol symbol trades in
    least_answer
    (λ trade. option_or (duplicate_trade_finding listed trade)
    (unknown_order_finding orders listed trade))
    (length listed)

-- Sound trades: no trade of the symbol fails
abbrev pub SoundTrades : List Order → List ℕ → List TradeRecord → Type 0
SoundTrades orders symbol trades = trades_finding orders symbol trades ≡ None

-- the deal of a trade: its bid and its ask by their indices in the order list
abbrev pub deal_of_trade : List Order → ℕ × TradeRecord → Deal
deal_of_trade orders e = record {
  place = e.0;
  bid = unwrap_or (order_on_side_with_key orders Buy e.1.buy) (length orders);
  ask = unwrap_or (order_on_side_with_key orders Sell e.1.sell) (length orders);
  quantity = e.1.quantity;
  price = e.1.price;
}

-- the deals of the symbol's trades, in log order
unfoldable pub deals_of_symbol : List Order → List ℕ → List TradeRecord → List Deal
deals_of_symbol orders symbol trades = map (deal_of_trade orders) (trades_of_symbol symbol trades)
