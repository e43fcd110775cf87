-- The trade records of one symbol, by what is kept of them.
use Rattle.std.specs.Prelude.{◌≤◌, ◌+◌, IsTrue, ℕ, List, ◌∷◌, [], ◌++◌, All, length, map}
use Rattle.audit_base.specs.Names.{is_name}
use Rattle.audit_base.specs.declared.records.TradeRecord.{TradeRecord}
use Rattle.day_records.specs.NameRows.{name_at}
use Rattle.day_records.specs.declared.kept_trades.KeptTrade.{KeptTrade}

-- where the names of a kept trade begin behind that of the trade
abbrev pub buy_start : KeptTrade → ℕ
buy_start kept = kept.start + kept.trade_size

abbrev pub sell_start : KeptTrade → ℕ
sell_start kept = kept.start + kept.trade_size + kept.buy_firm_size + kept.buy_id_size

-- the trade of the symbol that is kept so, whose names lie among these bytes
abbrev pub trade_of : List ℕ → List ℕ → KeptTrade → TradeRecord
trade_of symbol bytes kept = record {
  trade = name_at bytes kept.start kept.trade_size;
  time = kept.time;
  symbol = symbol;
  buy = record {
    firm = name_at bytes (buy_start kept) kept.buy_firm_size;
    id = name_at bytes (buy_start kept + kept.buy_firm_size) kept.buy_id_size;
  };
  sell = record {
    firm = name_at bytes (sell_start kept) kept.sell_firm_size;
    id = name_at bytes (sell_start kept + kept.sell_firm_size) kept.sell_id_size;
  };
  quantity = kept.quantity;
  price = kept.price;
}

-- The names of a trade are names.
pub record TradeHasNames (trade : TradeRecord) : Type 0 where
  pub trade_named : IsTrue (is_name trade.trade)
  pub buy_firm : IsTrue (is_name trade.buy.firm)
  pub buy_id : IsTrue (is_name trade.buy.id)
  pub sell_firm : IsTrue (is_name trade.sell.firm)
  pub sell_id : IsTrue (is_name trade.sell.id)

-- the names of a trade, one after another
abbrev pub trade_names : TradeRecord → List ℕ
trade_names t = t.trade ++ ((t.buy.firm ++ t.buy.id) ++ (t.sell.firm ++ t.sell.id))

-- what is kept of a trade at its place, whose names begin here
abbrev pub kept_trade : TradeRecord → ℕ → ℕ → KeptTrade
kept_trade t start place = record {
  quantity = t.quantity;
  price = t.price;
  time = t.time;
  start = start;
  place = place;
  trade_size = length t.trade;
  buy_firm_size = length t.buy.firm;
  buy_id_size = length t.buy.id;
  sell_firm_size = length t.sell.firm;
  sell_id_size = length t.sell.id;
}

-- the names of a kept trade lie among the bytes
abbrev pub IsTradeInside : List ℕ → KeptTrade → Type 0
IsTradeInside bytes kept = sell_start kept + kept.sell_firm_size + kept.sell_id_size ≤ length bytes

-- the names of each of these lie among the bytes
abbrev pub AreTradesInside : List ℕ → List KeptTrade → Type 0
AreTradesInside bytes trades = All (IsTradeInside bytes) trades

-- the trades of the symbol that are kept so, with their places
abbrev pub trades_of : List ℕ → List ℕ → List KeptTrade → List (ℕ × TradeRecord)
trades_of symbol bytes trades = map (λ kept. (kept.place, trade_of symbol bytes kept)) trades

-- A symbol, and its trades with their places.
pub record KeptTradeList : Type 0 where
  pub symbol : List ℕ
  pub trades : List (ℕ × TradeRecord)

-- the same with one trade more
abbrev pub with_trade : KeptTradeList → ℕ → TradeRecord → KeptTradeList
with_trade kept place trade =
    record { symbol = kept.symbol; trades = kept.trades ++ (place, trade) ∷ [] }
