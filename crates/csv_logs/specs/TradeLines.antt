-- What a line of a trade log means.
use Rattle.std.specs.Prelude.{Result, Ok}
use Rattle.audit_base.specs.declared.faults.Reason.{Reason}
use Rattle.audit_base.specs.declared.names.Key.{Key}
use Rattle.audit_base.specs.declared.records.TradeRecord.{TradeRecord}
use Rattle.csv_logs.specs.declared.trades.TradeTerms.{TradeTerms}
use Rattle.csv_logs.specs.Columns.{Row, ◌>>=◌, row_name, row_stamp, row_quantity, row_price, row_key, column_text, HasKey, HasName, written_key}

-- columns 4 to 7: the bid's key and the ask's
abbrev pub row_parties : Row → Result (Key × Key) Reason
row_parties fields = do
  buy ← row_key 4 fields
  sell ← row_key 6 fields
  Ok (buy, sell)

-- columns 4 to 7 hold names
abbrev pub HasPartyNames : Row → Type 0
HasPartyNames fields = HasKey 4 fields × HasKey 6 fields

-- what columns 4 to 7 write, where they hold names
abbrev pub written_parties : Row → Key × Key
written_parties fields = (written_key 4 fields, written_key 6 fields)

-- columns 1, 3 and 4 to 7 hold names
abbrev pub HasTradeNames : Row → Type 0
HasTradeNames fields = HasName 1 fields × HasName 3 fields × HasPartyNames fields

-- the trade of nine fields, where they hold names, this time, and these numbers
abbrev pub written_trade : TradeTerms → Row → TradeRecord
written_trade terms fields = record {
  trade = column_text 1 fields;
  time = terms.time;
  symbol = column_text 3 fields;
  buy = written_key 4 fields;
  sell = written_key 6 fields;
  quantity = terms.quantity;
  price = terms.price;
}

-- what nine fields mean in a trade log: a record, or the first column that is not in its form
unfoldable pub trade_of_row : Row → Result TradeRecord Reason
trade_of_row fields = do
  trade ← row_name 1 fields
  time ← row_stamp 2 fields
  symbol ← row_name 3 fields
  parties ← row_parties fields
  quantity ← row_quantity 8 fields
  price ← row_price 9 fields
  Ok (record {
    trade = trade;
    time = time;
    symbol = symbol;
    buy = parties.0;
    sell = parties.1;
    quantity = quantity;
    price = price;
  })
