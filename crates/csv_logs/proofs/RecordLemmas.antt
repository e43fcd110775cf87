-- The fields of a record's line are unquoted and mean the record.
use Rattle.std.proofs.Common.{◌≡◌, ℕ, true, ◌&&◌, List, [], ◌∷◌, length, refl, sym, subst, Some, Ok}
use Rattle.std.specs.Prelude.{⊤, decimal, nat_le, codes}
use Rattle.std.specs.List.{list_all}
use Rattle.std.proofs.lemmas.Bool.{and_parts}
use Rattle.csv.specs.Records.{field_at}
use Rattle.audit_base.specs.Names.{is_name, is_name_byte}
use Rattle.audit_base.specs.Numbers.{price_form, price_text, quantity_form}
use Rattle.audit_base.specs.Stamps.{stamp_form, stamp_text}
use Rattle.audit_base.specs.declared.records.TradeRecord.{TradeRecord}
use Rattle.audit_base.specs.declared.terms.Life.{Life}
use Rattle.audit_base.specs.declared.terms.Life.TheVariants as life
use Rattle.audit_base.specs.declared.terms.Side.{Side}
use Rattle.audit_base.specs.declared.terms.Side.TheVariants as side
use Rattle.csv_logs.specs.declared.orders.LineHead.{LineHead}
use Rattle.csv_logs.specs.declared.orders.LineKind.{LineKind}
use Rattle.csv_logs.specs.declared.orders.LineKind.TheVariants as kind
use Rattle.csv_logs.specs.declared.orders.LineTerms.{LineTerms}
use Rattle.csv_logs.specs.Columns.{row_side_form}
use Rattle.csv_logs.specs.OrderLines.{kind_form, order_of_row}
use Rattle.csv_logs.specs.TradeLines.{trade_of_row}
use Rattle.audit_base.specs.Histories.{HasMarketPrice}
use Rattle.csv_logs.specs.Written.{limit_text, order_row, trade_row, row_side_text, kind_text}
use Rattle.csv_logs.specs.WrittenLines.{IsLineOf, have_name_bytes, csv_cancel_order, csv_new_order, csv_replace_order}

pub name-unquoted : (text name : List ℕ) → text ≡ name → is_name name ≡ true → list_all is_name_byte text ≡ true
name-unquoted text name same is =
    subst (λ (t : List ℕ). list_all is_name_byte t ≡ true) (sym same) (and_parts (nat_le 1 (length name) && nat_le (length name) 64) (list_all is_name_byte name) is).1

pub text-unquoted : (text written : List ℕ) → text ≡ written → list_all is_name_byte written ≡ true → list_all is_name_byte text ≡ true
text-unquoted text written same is = subst (λ (t : List ℕ). list_all is_name_byte t ≡ true) (sym same) is

pub nine-unquoted : (a b c d e f g h i : List ℕ) → list_all is_name_byte a ≡ true → list_all is_name_byte b ≡ true → list_all is_name_byte c ≡ true
    → list_all is_name_byte d ≡ true → list_all is_name_byte e ≡ true → list_all is_name_byte f ≡ true → list_all is_name_byte g ≡ true
    → list_all is_name_byte h ≡ true → list_all is_name_byte i ≡ true → have_name_bytes (a ∷ b ∷ c ∷ d ∷ e ∷ f ∷ g ∷ h ∷ i ∷ []) ≡ true
nine-unquoted a b c d e f g h i pa pb pc pd pe pf pg ph pi = rw (pa, pb, pc, pd, pe, pf, pg, ph, pi) refl

trade-again : (trade : TradeRecord) → is_name trade.trade ≡ true → stamp_form (stamp_text trade.time) ≡ Some trade.time → is_name trade.symbol ≡ true
    → is_name trade.buy.firm ≡ true → is_name trade.buy.id ≡ true → is_name trade.sell.firm ≡ true → is_name trade.sell.id ≡ true
    → quantity_form (decimal trade.quantity) ≡ Some trade.quantity → price_form (price_text trade.price) ≡ Some trade.price
    → trade_of_row (trade_row trade) ≡ Ok trade
unfolding trade_of_row field_at
trade-again trade a b c d e f g h i = rw (a, b, c, d, e, f, g, h, i) refl

side-again : (s : Side) → row_side_form (row_side_text s) ≡ Some s
side-again side.Buy = refl
side-again side.Sell = refl

abbrev kind_by : Life → LineKind
kind_by life.Rests = kind.New
kind_by life.Immediate = kind.Immediate
kind_by life.Market = kind.Market

kind-again : (l : Life) → kind_form (kind_text l) ≡ Some (kind_by l)
kind-again life.Rests = refl
kind-again life.Immediate = refl
kind-again life.Market = refl

side-unquoted : (s : Side) → list_all is_name_byte (row_side_text s) ≡ true
side-unquoted side.Buy = refl
side-unquoted side.Sell = refl

kind-unquoted : (l : Life) → list_all is_name_byte (kind_text l) ≡ true
kind-unquoted life.Rests = refl
kind-unquoted life.Immediate = refl
kind-unquoted life.Market = refl

-- a line of an order means the order
new-again : (head : LineHead) (terms : LineTerms) (l : Life) → is_name head.key.firm ≡ true → is_name head.key.id ≡ true → stamp_form (stamp_text head.time) ≡ Some head.time → is_name head.symbol ≡ true
    → quantity_form (decimal terms.quantity) ≡ Some terms.quantity → price_form (price_text terms.price) ≡ Some terms.price → HasMarketPrice (csv_new_order head terms l)
    → order_of_row (order_row (csv_new_order head terms l)) ≡ Ok (csv_new_order head terms l)
unfolding order_of_row field_at
new-again head terms life.Rests a b c d e f priced = rw (a, b, c, d, side-again terms.side, e, f) refl
new-again head terms life.Immediate a b c d e f priced = rw (a, b, c, d, side-again terms.side, e, f) refl
new-again head terms life.Market a b c d e f priced = rw (a, b, c, d, side-again terms.side, e, priced refl) refl

cancel-again : (head : LineHead) (target : List ℕ) → is_name head.key.firm ≡ true → is_name head.key.id ≡ true → stamp_form (stamp_text head.time) ≡ Some head.time → is_name head.symbol ≡ true
    → is_name target ≡ true → order_of_row (order_row (csv_cancel_order head target)) ≡ Ok (csv_cancel_order head target)
unfolding order_of_row field_at
cancel-again head target a b c d e = rw (a, b, c, d, e) refl

replace-again : (head : LineHead) (terms : LineTerms) (target : List ℕ) → is_name head.key.firm ≡ true → is_name head.key.id ≡ true → stamp_form (stamp_text head.time) ≡ Some head.time → is_name head.symbol ≡ true
    → quantity_form (decimal terms.quantity) ≡ Some terms.quantity → price_form (price_text terms.price) ≡ Some terms.price → is_name target ≡ true
    → order_of_row (order_row (csv_replace_order head terms target)) ≡ Ok (csv_replace_order head terms target)
unfolding order_of_row field_at
replace-again head terms target a b c d e f g = rw (a, b, c, d, side-again terms.side, e, f, g) refl

-- A name's facts, and those of a canonical text.
name-bytes : (name : List ℕ) → is_name name ≡ true → list_all is_name_byte name ≡ true
name-bytes name is = name-unquoted name name refl is

pub new-line : (head : LineHead) (terms : LineTerms) (l : Life) → is_name head.key.firm ≡ true → is_name head.key.id ≡ true → is_name head.symbol ≡ true
    → list_all is_name_byte (stamp_text head.time) ≡ true → stamp_form (stamp_text head.time) ≡ Some head.time
    → list_all is_name_byte (decimal terms.quantity) ≡ true → quantity_form (decimal terms.quantity) ≡ Some terms.quantity
    → list_all is_name_byte (limit_text l terms.price) ≡ true → price_form (price_text terms.price) ≡ Some terms.price
    → IsLineOf order_of_row HasMarketPrice (csv_new_order head terms l) (order_row (csv_new_order head terms l))
new-line head terms l firm id symbol time_unquoted time quantity_unquoted quantity limit_unquoted price = record {
  nine = refl;
  unquoted =
      nine-unquoted (kind_text l) head.key.firm head.key.id (stamp_text head.time) head.symbol (row_side_text terms.side) (decimal terms.quantity) (limit_text l terms.price) []
      (kind-unquoted l) (name-bytes head.key.firm firm) (name-bytes head.key.id id) time_unquoted (name-bytes head.symbol symbol) (side-unquoted terms.side) quantity_unquoted limit_unquoted refl;
  again = λ priced. new-again head terms l firm id time symbol quantity price priced;
}

pub cancel-line : (head : LineHead) (target : List ℕ) → is_name head.key.firm ≡ true → is_name head.key.id ≡ true → is_name head.symbol ≡ true → is_name target ≡ true
    → list_all is_name_byte (stamp_text head.time) ≡ true → stamp_form (stamp_text head.time) ≡ Some head.time
    → IsLineOf order_of_row HasMarketPrice (csv_cancel_order head target) (order_row (csv_cancel_order head target))
cancel-line head target firm id symbol name time_unquoted time = record {
  nine = refl;
  unquoted =
      nine-unquoted (codes "X") head.key.firm head.key.id (stamp_text head.time) head.symbol [] [] [] target
      refl (name-bytes head.key.firm firm) (name-bytes head.key.id id) time_unquoted (name-bytes head.symbol symbol) refl refl refl (name-bytes target name);
  again = λ _. cancel-again head target firm id time symbol name;
}

pub replace-line : (head : LineHead) (terms : LineTerms) (target : List ℕ) → is_name head.key.firm ≡ true → is_name head.key.id ≡ true → is_name head.symbol ≡ true → is_name target ≡ true
    → list_all is_name_byte (stamp_text head.time) ≡ true → stamp_form (stamp_text head.time) ≡ Some head.time
    → list_all is_name_byte (decimal terms.quantity) ≡ true → quantity_form (decimal terms.quantity) ≡ Some terms.quantity
    → list_all is_name_byte (price_text terms.price) ≡ true → price_form (price_text terms.price) ≡ Some terms.price
    → IsLineOf order_of_row HasMarketPrice (csv_replace_order head terms target) (order_row (csv_replace_order head terms target))
replace-line head terms target firm id symbol name time_unquoted time quantity_unquoted quantity price_unquoted price = record {
  nine = refl;
  unquoted =
      nine-unquoted (codes "R") head.key.firm head.key.id (stamp_text head.time) head.symbol (row_side_text terms.side) (decimal terms.quantity) (price_text terms.price) target
      refl (name-bytes head.key.firm firm) (name-bytes head.key.id id) time_unquoted (name-bytes head.symbol symbol) (side-unquoted terms.side) quantity_unquoted price_unquoted (name-bytes target name);
  again = λ _. replace-again head terms target firm id time symbol quantity price name;
}

pub trade-line : (trade : TradeRecord) → is_name trade.trade ≡ true → is_name trade.symbol ≡ true → is_name trade.buy.firm ≡ true → is_name trade.buy.id ≡ true
    → is_name trade.sell.firm ≡ true → is_name trade.sell.id ≡ true
    → list_all is_name_byte (stamp_text trade.time) ≡ true → stamp_form (stamp_text trade.time) ≡ Some trade.time
    → list_all is_name_byte (decimal trade.quantity) ≡ true → quantity_form (decimal trade.quantity) ≡ Some trade.quantity
    → list_all is_name_byte (price_text trade.price) ≡ true → price_form (price_text trade.price) ≡ Some trade.price
    → IsLineOf trade_of_row (λ _. ⊤) trade (trade_row trade)
trade-line trade name symbol buy_firm buy_id sell_firm sell_id time_unquoted time quantity_unquoted quantity price_unquoted price = record {
  nine = refl;
  unquoted =
      nine-unquoted trade.trade (stamp_text trade.time) trade.symbol trade.buy.firm trade.buy.id trade.sell.firm trade.sell.id (decimal trade.quantity) (price_text trade.price)
      (name-bytes trade.trade name) time_unquoted (name-bytes trade.symbol symbol) (name-bytes trade.buy.firm buy_firm) (name-bytes trade.buy.id buy_id)
      (name-bytes trade.sell.firm sell_firm) (name-bytes trade.sell.id sell_id) quantity_unquoted price_unquoted;
  again = λ _. trade-again trade name time symbol buy_firm buy_id sell_firm sell_id quantity price;
}
