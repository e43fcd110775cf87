-- The line of CSV that is written of a record whose parts are in their forms means the record.
use Rattle.std.proofs.Common.{◌≡◌, ℕ, ◌≤◌, ◌^◌, true, Some, List, length, refl, Ok, arith, ◌∙◌}
use Rattle.std.specs.Prelude.{All, decimal, nat_le, nat_lt, ◌&&◌}
use Rattle.std.specs.List.{list_all}
use Rattle.std.proofs.lemmas.Bool.{and_parts, leb-true}
use Rattle.std.proofs.lemmas.List.Elements.{All-weaker}
use Rattle.audit_base.specs.Columns.{order_columns, trade_columns}
use Rattle.audit_base.specs.Histories.{HasMarketPrice}
use Rattle.audit_base.specs.Moments.{Moment}
use Rattle.audit_base.specs.Names.{is_name, is_name_byte}
use Rattle.audit_base.specs.Numbers.{AreInRange, price_text}
use Rattle.audit_base.specs.Stamps.{stamp_form, stamp_text}
use Rattle.audit_base.specs.declared.names.Key.{Key}
use Rattle.audit_base.specs.declared.records.OrderRecord.{OrderRecord}
use Rattle.audit_base.specs.declared.records.OrderRecord.TheVariants as record_of
use Rattle.audit_base.specs.declared.records.TradeRecord.{TradeRecord}
use Rattle.audit_base.specs.declared.terms.Life.{Life}
use Rattle.audit_base.specs.declared.terms.Life.TheVariants as life
use Rattle.audit_base.specs.declared.terms.Side.{Side}
use Rattle.audit_base.specs.declared.terms.Side.TheVariants as side
use Rattle.audit_base.proofs.FieldTextLemmas.{price_is_name, quantity_is_name, stamp_is_name}
use Rattle.audit_base.proofs.NumberLemmas.{price_again, quantity_again}
use Rattle.audit_base.proofs.StampLemmas.{stamp_again}
use Rattle.csv.specs.Records.{field_at}
use Rattle.csv_logs.specs.Columns.{row_side_form}
use Rattle.csv_logs.specs.Logs.{csv_order_records, csv_trade_records}
use Rattle.csv_logs.specs.OrderLines.{order_of_row}
use Rattle.csv_logs.specs.TradeLines.{trade_of_row}
use Rattle.csv_logs.specs.Written.{csv_orders_text, csv_trades_text, order_row, row_side_text, trade_row}
use Rattle.csv_logs.specs.WrittenLines.{IsLineOf, IsOrderRow, have_name_bytes}
use Rattle.csv_logs.proofs.WrittenLemmas.{log-again}
use Rattle.fix_messages.specs.Written.{IsHead, IsTradeInForm, IsWritable}

side-again : (s : Side) → row_side_form (row_side_text s) ≡ Some s
side-again side.Buy = refl
side-again side.Sell = refl

side-bytes : (s : Side) → list_all is_name_byte (row_side_text s) ≡ true
side-bytes side.Buy = refl
side-bytes side.Sell = refl

name-bytes : (text : List ℕ) → is_name text ≡ true → list_all is_name_byte text ≡ true
name-bytes text is = (and_parts (nat_le 1 (length text) && nat_le (length text) 64) (list_all is_name_byte text) is).1

time-bytes : (time : Moment) → list_all is_name_byte (stamp_text time) ≡ true
time-bytes time = name-bytes (stamp_text time) (stamp_is_name time)

quantity-bytes : (quantity price : ℕ) → AreInRange quantity price → list_all is_name_byte (decimal quantity) ≡ true
quantity-bytes quantity price are = name-bytes (decimal quantity) (quantity_is_name quantity are.sized.most)

price-bytes : (quantity price : ℕ) → AreInRange quantity price → list_all is_name_byte (price_text price) ≡ true
price-bytes quantity price are = name-bytes (price_text price) (price_is_name price (omega (arith, are.priced)))

time-again : (key : Key) (time : Moment) (symbol : List ℕ) → IsHead key time symbol → stamp_form (stamp_text time) ≡ Some time
time-again key time symbol is = stamp_again time is.second_range is.nano_range

-- What nine fields mean.

new-again : (key : Key) (time : Moment) (symbol : List ℕ) (s : Side) (quantity price : ℕ) (l : Life) → IsHead key time symbol → AreInRange quantity price
    → HasMarketPrice (record_of.New key time symbol s quantity price l) → order_of_row (order_row (record_of.New key time symbol s quantity price l)) ≡ Ok (record_of.New key time symbol s quantity price l)
unfolding order_of_row field_at
new-again key time symbol s quantity price life.Rests head terms priced =
    rw (head.firm_form, head.id_form, time-again key time symbol head, head.symbol_form, side-again s, quantity_again quantity terms.sized, price_again price terms.priced) refl
new-again key time symbol s quantity price life.Immediate head terms priced =
    rw (head.firm_form, head.id_form, time-again key time symbol head, head.symbol_form, side-again s, quantity_again quantity terms.sized, price_again price terms.priced) refl
new-again key time symbol s quantity price life.Market head terms priced =
    rw (head.firm_form, head.id_form, time-again key time symbol head, head.symbol_form, side-again s, quantity_again quantity terms.sized, priced refl) refl

cancel-again : (key : Key) (time : Moment) (symbol target : List ℕ) → IsHead key time symbol → is_name target ≡ true
    → order_of_row (order_row (record_of.Cancel key time symbol target)) ≡ Ok (record_of.Cancel key time symbol target)
unfolding order_of_row field_at
cancel-again key time symbol target head named =
    rw (head.firm_form, head.id_form, time-again key time symbol head, head.symbol_form, named) refl

replace-again : (key : Key) (time : Moment) (symbol target : List ℕ) (s : Side) (quantity price : ℕ) → IsHead key time symbol → is_name target ≡ true → AreInRange quantity price
    → order_of_row (order_row (record_of.Replace key time symbol target s quantity price)) ≡ Ok (record_of.Replace key time symbol target s quantity price)
unfolding order_of_row field_at
replace-again key time symbol target s quantity price head named terms =
    rw (head.firm_form, head.id_form, time-again key time symbol head, head.symbol_form, side-again s, quantity_again quantity terms.sized, price_again price terms.priced, named) refl

trade-again : (trade : TradeRecord) → IsTradeInForm trade → trade_of_row (trade_row trade) ≡ Ok trade
unfolding trade_of_row field_at
trade-again trade is =
    rw (
      is.buyer.trade_form,
      time-again trade.buy trade.time trade.symbol is.buyer.head,
      is.buyer.head.symbol_form,
      is.buyer.head.firm_form,
      is.buyer.head.id_form,
      is.seller.head.firm_form,
      is.seller.head.id_form,
      quantity_again trade.quantity is.buyer.terms.sized,
      price_again trade.price is.buyer.terms.priced,
    ) refl

-- No field needs quotes.

new-bytes : (key : Key) (time : Moment) (symbol : List ℕ) (s : Side) (quantity price : ℕ) (l : Life) → IsHead key time symbol → AreInRange quantity price
    → have_name_bytes (order_row (record_of.New key time symbol s quantity price l)) ≡ true
new-bytes key time symbol s quantity price life.Rests head terms =
    rw (name-bytes key.firm head.firm_form, name-bytes key.id head.id_form, time-bytes time, name-bytes symbol head.symbol_form, side-bytes s, quantity-bytes quantity price terms, price-bytes quantity price terms) refl
new-bytes key time symbol s quantity price life.Immediate head terms =
    rw (name-bytes key.firm head.firm_form, name-bytes key.id head.id_form, time-bytes time, name-bytes symbol head.symbol_form, side-bytes s, quantity-bytes quantity price terms, price-bytes quantity price terms) refl
new-bytes key time symbol s quantity price life.Market head terms =
    rw (name-bytes key.firm head.firm_form, name-bytes key.id head.id_form, time-bytes time, name-bytes symbol head.symbol_form, side-bytes s, quantity-bytes quantity price terms) refl

cancel-bytes : (key : Key) (time : Moment) (symbol target : List ℕ) → IsHead key time symbol → is_name target ≡ true
    → have_name_bytes (order_row (record_of.Cancel key time symbol target)) ≡ true
cancel-bytes key time symbol target head named =
    rw (name-bytes key.firm head.firm_form, name-bytes key.id head.id_form, time-bytes time, name-bytes symbol head.symbol_form, name-bytes target named) refl

replace-bytes : (key : Key) (time : Moment) (symbol target : List ℕ) (s : Side) (quantity price : ℕ) → IsHead key time symbol → is_name target ≡ true → AreInRange quantity price
    → have_name_bytes (order_row (record_of.Replace key time symbol target s quantity price)) ≡ true
replace-bytes key time symbol target s quantity price head named terms =
    rw (name-bytes key.firm head.firm_form, name-bytes key.id head.id_form, time-bytes time, name-bytes symbol head.symbol_form, side-bytes s, quantity-bytes quantity price terms, price-bytes quantity price terms, name-bytes target named) refl

trade-bytes : (trade : TradeRecord) → IsTradeInForm trade → have_name_bytes (trade_row trade) ≡ true
trade-bytes trade is =
    rw (
      name-bytes trade.trade is.buyer.trade_form,
      time-bytes trade.time,
      name-bytes trade.symbol is.buyer.head.symbol_form,
      name-bytes trade.buy.firm is.buyer.head.firm_form,
      name-bytes trade.buy.id is.buyer.head.id_form,
      name-bytes trade.sell.firm is.seller.head.firm_form,
      name-bytes trade.sell.id is.seller.head.id_form,
      quantity-bytes trade.quantity trade.price is.buyer.terms,
      price-bytes trade.quantity trade.price is.buyer.terms,
    ) refl

-- Whole logs.

order-line : (entry : OrderRecord) → IsWritable entry → IsOrderRow entry
order-line (record_of.New key time symbol s quantity price l) is =
    record { nine = refl; unquoted = new-bytes key time symbol s quantity price l is.form.0 is.form.1; again = λ priced. new-again key time symbol s quantity price l is.form.0 is.form.1 priced }
order-line (record_of.Cancel key time symbol target) is =
    record { nine = refl; unquoted = cancel-bytes key time symbol target is.form.0 is.form.1; again = λ priced. cancel-again key time symbol target is.form.0 is.form.1 }
order-line (record_of.Replace key time symbol target s quantity price) is =
    record { nine = refl; unquoted = replace-bytes key time symbol target s quantity price is.form.0 is.form.1 is.form.2; again = λ priced. replace-again key time symbol target s quantity price is.form.0 is.form.1 is.form.2 }

pub csv-orders : (entries : List OrderRecord) → All IsWritable entries → csv_order_records (csv_orders_text entries) ≡ Ok entries
csv-orders entries are =
    log-again order_columns order_of_row order_row HasMarketPrice entries refl refl (All-weaker IsWritable IsOrderRow order-line entries are) (All-weaker IsWritable HasMarketPrice (λ entry is. is.priced) entries are)

abbrev IsTradeRow : TradeRecord → Type 0
IsTradeRow trade = IsLineOf trade_of_row IsTradeInForm trade (trade_row trade)

trade-line : (trade : TradeRecord) → IsTradeInForm trade → IsTradeRow trade
trade-line trade is = record { nine = refl; unquoted = trade-bytes trade is; again = λ same. trade-again trade is }

pub csv-trades : (trades : List TradeRecord) → All IsTradeInForm trades → csv_trade_records (csv_trades_text trades) ≡ Ok trades
csv-trades trades are = log-again trade_columns trade_of_row trade_row IsTradeInForm trades refl refl (All-weaker IsTradeInForm IsTradeRow trade-line trades are) are
