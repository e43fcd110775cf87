-- What a line of an order log means. The codes of `N`, `X`, `R`, `I` and `M` are 78, 88, 82,
-- 73 and 77.
use Rattle.std.specs.Prelude.{ℕ, ◌==◌, Option, Some, None, Result, Ok, List, [], ◌∷◌, if◌then◌else◌}
use Rattle.audit_base.specs.declared.faults.Reason.{Reason}
use Rattle.audit_base.specs.declared.records.OrderRecord.{OrderRecord}
use Rattle.audit_base.specs.declared.records.OrderRecord.TheVariants as record_of
use Rattle.audit_base.specs.declared.terms.Life.{Life}
use Rattle.audit_base.specs.declared.terms.Life.TheVariants as life
use Rattle.audit_base.specs.Moments.{Moment}
use Rattle.audit_base.specs.Numbers.{market_price}
use Rattle.csv_logs.specs.declared.orders.LineKind.{LineKind}
use Rattle.csv_logs.specs.declared.orders.LineKind.TheVariants as kind
use Rattle.csv_logs.specs.declared.orders.LineHead.{LineHead}
use Rattle.csv_logs.specs.Columns.{Row, column_text, in_column, ◌>>=◌, row_name, row_stamp, row_side, row_quantity, row_price, row_blank, row_key, HasKey, HasName, written_key}

-- `N` for new, `X` for cancel, `R` for replace, `I` for immediate, `M` for market
abbrev pub kind_of : ℕ → Option LineKind
kind_of letter =
    if letter == 78 then Some kind.New else if letter == 88 then Some kind.Cancel
    else if letter == 82 then Some kind.Replace else if letter == 73 then Some kind.Immediate
    else if letter == 77 then Some kind.Market else None

-- the kind of an order line is one letter
abbrev pub kind_form : List ℕ → Option LineKind
kind_form [] = None
kind_form (letter ∷ []) = kind_of letter
kind_form (letter ∷ next ∷ rest) = None

-- columns 2 to 5, which every kind has: firm and id, time, symbol
abbrev pub row_head : Row → Result LineHead Reason
row_head fields = do
  key ← row_key 2 fields
  time ← row_stamp 4 fields
  symbol ← row_name 5 fields
  Ok (record { key = key; time = time; symbol = symbol })

-- columns 2, 3 and 5 hold names
abbrev pub HasHeadNames : Row → Type 0
HasHeadNames fields = HasKey 2 fields × HasName 5 fields

-- what columns 2 to 5 write, where they hold names and this time
abbrev pub written_head : Moment → Row → LineHead
written_head time fields =
    record { key = written_key 2 fields; time = time; symbol = column_text 5 fields }

-- a new order with a limit has a side, a quantity and a price, and no target
abbrev pub row_limit_order : LineHead → Life → Row → Result OrderRecord Reason
row_limit_order head life fields = do
  side ← row_side 6 fields
  quantity ← row_quantity 7 fields
  price ← row_price 8 fields
  none ← row_blank 9 fields
  Ok (record_of.New head.key head.time head.symbol side quantity price life)

-- a market order has a side and a quantity, and no price and no target
abbrev pub row_market_order : LineHead → Row → Result OrderRecord Reason
row_market_order head fields = do
  side ← row_side 6 fields
  quantity ← row_quantity 7 fields
  no_price ← row_blank 8 fields
  no_target ← row_blank 9 fields
  Ok (record_of.New head.key head.time head.symbol side quantity (market_price side) life.Market)

-- a cancel has a target alone
abbrev pub row_cancel : LineHead → Row → Result OrderRecord Reason
row_cancel head fields = do
  no_side ← row_blank 6 fields
  no_quantity ← row_blank 7 fields
  no_price ← row_blank 8 fields
  target ← row_name 9 fields
  Ok (record_of.Cancel head.key head.time head.symbol target)

-- a replacement has a side, a quantity, a price and a target
abbrev pub row_replacement : LineHead → Row → Result OrderRecord Reason
row_replacement head fields = do
  side ← row_side 6 fields
  quantity ← row_quantity 7 fields
  price ← row_price 8 fields
  target ← row_name 9 fields
  Ok (record_of.Replace head.key head.time head.symbol target side quantity price)

-- columns 6 to 9, by the kind
abbrev pub order_of_kind : LineKind → LineHead → Row → Result OrderRecord Reason
order_of_kind kind.New head fields = row_limit_order head life.Rests fields
order_of_kind kind.Immediate head fields = row_limit_order head life.Immediate fields
order_of_kind kind.Market head fields = row_market_order head fields
order_of_kind kind.Cancel head fields = row_cancel head fields
order_of_kind kind.Replace head fields = row_replacement head fields

-- what nine fields mean in an order log: a record, or the first column that is not in its form
unfoldable pub order_of_row : Row → Result OrderRecord Reason
order_of_row fields = do
  kind ← in_column 1 (kind_form (column_text 1 fields))
  head ← row_head fields
  order_of_kind kind head fields
