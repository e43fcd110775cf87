-- The numbers of each record of a good log are in range.
use Rattle.std.proofs.Common.{◌≡◌, ◌<◌, ◌^◌, ℕ, List, Option, Some, None, Result, Ok, Err, refl}
use Rattle.std.specs.Prelude.{IfOk}
use Rattle.audit_base.specs.declared.faults.Reason.{Reason}
use Rattle.audit_base.specs.declared.terms.Life.{Life}
use Rattle.audit_base.specs.declared.terms.Life.TheVariants as life
use Rattle.audit_base.specs.Columns.{order_columns, trade_columns}
use Rattle.audit_base.specs.Numbers.{IsPrice, IsQuantity, price_form, quantity_form}
use Rattle.audit_base.specs.RecordRanges.{RecordInRange}
use Rattle.audit_base.specs.Trades.{TradeInRange}
use Rattle.audit_base.proofs.RangeLemmas.{market-range, price-range, quantity-range}
use Rattle.csv_logs.specs.declared.orders.LineHead.{LineHead}
use Rattle.csv_logs.specs.declared.orders.LineKind.{LineKind}
use Rattle.csv_logs.specs.declared.orders.LineKind.TheVariants as kind
use Rattle.csv_logs.specs.Columns.{◌>>=◌, column_text, row_blank, in_column, row_name, row_price, row_quantity, row_side, row_stamp}
use Rattle.csv_logs.specs.Laws.{CsvOrdersAreInRange, CsvTradesAreInRange}
use Rattle.csv_logs.specs.OrderLines.{row_cancel, row_head, kind_form, row_limit_order, row_market_order, order_of_row, order_of_kind, row_replacement}
use Rattle.csv_logs.specs.TradeLines.{row_parties, trade_of_row}
use Rattle.csv_logs.proofs.ReadingLemmas.{log_sound}

-- what holds of every record that a column may lead to holds after the column
behind : {A B : Type 0} (P : B → Type 0) (a : Result A Reason) (next : A → Result B Reason) → ((x : A) → IfOk (next x) P) → IfOk (a >>= next) P
behind P (Ok x) next each = each x
behind P (Err why) next each = tt

behind-known : {A B : Type 0} (Q : A → Type 0) (P : B → Type 0) (a : Result A Reason) (next : A → Result B Reason) → IfOk a Q → ((x : A) → Q x → IfOk (next x) P) → IfOk (a >>= next) P
behind-known Q P (Ok x) next known each = each x known
behind-known Q P (Err why) next known each = tt

column-known : (Q : ℕ → Type 0) (number : ℕ) (found : Option ℕ) → ((value : ℕ) → found ≡ Some value → Q value) → IfOk (in_column number found) Q
column-known Q number None each = tt
column-known Q number (Some value) each = each value refl

quantity-known : (number : ℕ) (fields : List (List ℕ)) → IfOk (row_quantity number fields) IsQuantity
quantity-known number fields = column-known IsQuantity number (quantity_form (column_text number fields)) (quantity-range (column_text number fields))

price-known : (number : ℕ) (fields : List (List ℕ)) → IfOk (row_price number fields) IsPrice
price-known number fields = column-known IsPrice number (price_form (column_text number fields)) (price-range (column_text number fields))

trade-known : (fields : List (List ℕ)) → IfOk (trade_of_row fields) TradeInRange
unfolding trade_of_row
trade-known fields =
    behind TradeInRange (row_name 1 fields) _ (λ trade. behind TradeInRange (row_stamp 2 fields) _ (λ time. behind TradeInRange (row_name 3 fields) _ (λ symbol. behind TradeInRange (row_parties fields) _ (λ parties.
    behind-known IsQuantity TradeInRange (row_quantity 8 fields) _ (quantity-known 8 fields) (λ quantity is.
    behind-known IsPrice TradeInRange (row_price 9 fields) _ (price-known 9 fields) (λ price priced. record { sized = is; priced = priced }))))))

limit-known : (head : LineHead) (the_life : Life) (fields : List (List ℕ)) → IfOk (row_limit_order head the_life fields) RecordInRange
limit-known head the_life fields =
    behind RecordInRange (row_side 6 fields) _ (λ side.
    behind-known IsQuantity RecordInRange (row_quantity 7 fields) _ (quantity-known 7 fields) (λ quantity is.
    behind-known IsPrice RecordInRange (row_price 8 fields) _ (price-known 8 fields) (λ price priced.
    behind RecordInRange (row_blank 9 fields) _ (λ none. record { sized = is; priced = priced }))))

market-known : (head : LineHead) (fields : List (List ℕ)) → IfOk (row_market_order head fields) RecordInRange
market-known head fields =
    behind RecordInRange (row_side 6 fields) _ (λ side.
    behind-known IsQuantity RecordInRange (row_quantity 7 fields) _ (quantity-known 7 fields) (λ quantity is.
    behind RecordInRange (row_blank 8 fields) _ (λ none.
    behind RecordInRange (row_blank 9 fields) _ (λ nothing. record { sized = is; priced = market-range side }))))

cancel-known : (head : LineHead) (fields : List (List ℕ)) → IfOk (row_cancel head fields) RecordInRange
cancel-known head fields =
    behind RecordInRange (row_blank 6 fields) _ (λ _. behind RecordInRange (row_blank 7 fields) _ (λ _. behind RecordInRange (row_blank 8 fields) _ (λ _. behind RecordInRange (row_name 9 fields) _ (λ target. tt))))

replace-known : (head : LineHead) (fields : List (List ℕ)) → IfOk (row_replacement head fields) RecordInRange
replace-known head fields =
    behind RecordInRange (row_side 6 fields) _ (λ side.
    behind-known IsQuantity RecordInRange (row_quantity 7 fields) _ (quantity-known 7 fields) (λ quantity is.
    behind-known IsPrice RecordInRange (row_price 8 fields) _ (price-known 8 fields) (λ price priced.
    behind RecordInRange (row_name 9 fields) _ (λ target. record { sized = is; priced = priced }))))

kind-known : (k : LineKind) (head : LineHead) (fields : List (List ℕ)) → IfOk (order_of_kind k head fields) RecordInRange
kind-known kind.New head fields = limit-known head life.Rests fields
kind-known kind.Immediate head fields = limit-known head life.Immediate fields
kind-known kind.Market head fields = market-known head fields
kind-known kind.Cancel head fields = cancel-known head fields
kind-known kind.Replace head fields = replace-known head fields

order-known : (fields : List (List ℕ)) → IfOk (order_of_row fields) RecordInRange
unfolding order_of_row
order-known fields = behind RecordInRange (in_column 1 (kind_form (column_text 1 fields))) _ (λ k. behind RecordInRange (row_head fields) _ (λ head. kind-known k head fields))

pub orders-range : CsvOrdersAreInRange
orders-range log = log_sound order_of_row RecordInRange order-known order_columns log

pub trades-range : CsvTradesAreInRange
trades-range log = log_sound trade_of_row TradeInRange trade-known trade_columns log
