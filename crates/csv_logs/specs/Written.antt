-- How logs are written: the header, then a line for each record, of canonical texts joined by
-- commas. The codes of `,` and LF are 44 and 10.
use Rattle.std.specs.Prelude.{◌≡◌, ℕ, All, Ok, List, [], ◌∷◌, ◌++◌, codes, decimal}
use Rattle.std.specs.List.{flat_map, join_with_byte}
use Rattle.audit_base.specs.Numbers.{price_text}
use Rattle.audit_base.specs.Stamps.{stamp_text}
use Rattle.audit_base.specs.declared.records.OrderRecord.{OrderRecord}
use Rattle.audit_base.specs.declared.records.OrderRecord.TheVariants as record_of
use Rattle.audit_base.specs.declared.records.TradeRecord.{TradeRecord}
use Rattle.audit_base.specs.declared.terms.Life.{Life}
use Rattle.audit_base.specs.declared.terms.Life.TheVariants as life
use Rattle.audit_base.specs.declared.terms.Side.{Side}
use Rattle.audit_base.specs.declared.terms.Side.TheVariants as side
use Rattle.audit_base.specs.Columns.{order_columns, trade_columns}
use Rattle.audit_base.specs.Histories.{HasMarketPrice}
use Rattle.csv_logs.specs.Columns.{RowMeaning, Row}
use Rattle.csv_logs.specs.Logs.{csv_order_records, read_csv_log}

-- fields joined by commas, and an LF
abbrev pub csv_line_text : Row → List ℕ
csv_line_text fields = join_with_byte 44 fields ++ 10 ∷ []

-- the header and a line for each record
abbrev pub log_text : {R : Type 0} → Row → (R → Row) → List R → List ℕ
log_text names fields entries =
    csv_line_text names ++ flat_map (λ entry. csv_line_text (fields entry)) entries

-- the side column: `B` for a bid, `S` for an ask
abbrev pub row_side_text : Side → List ℕ
row_side_text side.Buy = codes "B"
row_side_text side.Sell = codes "S"

-- the kind of a new order: `N` if it may rest, `I` if it is immediate, `M` if it is a market order
abbrev pub kind_text : Life → List ℕ
kind_text life.Rests = codes "N"
kind_text life.Immediate = codes "I"
kind_text life.Market = codes "M"

-- the price column, which a market order leaves empty
abbrev pub limit_text : Life → ℕ → List ℕ
limit_text life.Rests price = price_text price
limit_text life.Immediate price = price_text price
limit_text life.Market price = []

-- the nine fields of an order's line
abbrev pub order_row : OrderRecord → Row
order_row (record_of.New key time symbol side quantity price life) =
    kind_text life ∷ key.firm ∷ key.id ∷ stamp_text time ∷ symbol ∷ row_side_text side
    ∷ decimal quantity ∷ limit_text life price ∷ [] ∷ []
order_row (record_of.Cancel key time symbol target) =
    codes "X" ∷ key.firm ∷ key.id ∷ stamp_text time ∷ symbol ∷ [] ∷ [] ∷ [] ∷ target ∷ []
order_row (record_of.Replace key time symbol target side quantity price) =
    codes "R" ∷ key.firm ∷ key.id ∷ stamp_text time ∷ symbol ∷ row_side_text side
    ∷ decimal quantity ∷ price_text price ∷ target ∷ []

-- the nine fields of a trade's line
abbrev pub trade_row : TradeRecord → Row
trade_row trade =
    trade.trade ∷ stamp_text trade.time ∷ trade.symbol ∷ trade.buy.firm ∷ trade.buy.id
    ∷ trade.sell.firm ∷ trade.sell.id ∷ decimal trade.quantity ∷ price_text trade.price ∷ []

-- the canonical order log and trade log of a list
abbrev pub csv_orders_text : List OrderRecord → List ℕ
csv_orders_text entries = log_text order_columns order_row entries

abbrev pub csv_trades_text : List TradeRecord → List ℕ
csv_trades_text trades = log_text trade_columns trade_row trades

-- the log that is written of these records says these records, where each of them is sound
abbrev pub IsReadBack : {R : Type 0} → Row → RowMeaning R → (R → Type 0) → (R → Row) → List R
    → Type 0
IsReadBack names meaning sound fields records =
    All sound records → read_csv_log names meaning (log_text names fields records) ≡ Ok records

-- the canonical order log of these records says these records, where those of life Market
-- have the market price
abbrev pub AreOrdersReadAgain : List OrderRecord → Type 0
AreOrdersReadAgain records =
    All HasMarketPrice records → csv_order_records (csv_orders_text records) ≡ Ok records
