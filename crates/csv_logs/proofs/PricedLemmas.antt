-- A market order that is read has the market price of its side.
use Rattle.std.proofs.Common.{◌≡◌, ℕ, List, subst, refl, Ok, Err, Result}
use Rattle.std.specs.Prelude.{IfOk}
use Rattle.audit_base.specs.declared.faults.Reason.{Reason}
use Rattle.audit_base.specs.declared.records.OrderRecord.{OrderRecord}
use Rattle.audit_base.specs.declared.records.OrderRecord.TheVariants as record_of
use Rattle.audit_base.specs.declared.terms.Life.TheVariants as life
use Rattle.csv_logs.specs.declared.orders.LineHead.{LineHead}
use Rattle.csv_logs.specs.declared.orders.LineKind.{LineKind}
use Rattle.csv_logs.specs.declared.orders.LineKind.TheVariants as kind
use Rattle.csv_logs.specs.Columns.{◌>>=◌, column_text, in_column, row_name, row_side, row_quantity, row_price, row_blank}
use Rattle.audit_base.specs.Numbers.{market_price}
use Rattle.csv_logs.specs.OrderLines.{kind_form, row_head, row_limit_order, row_market_order, row_cancel, row_replacement, order_of_kind, order_of_row}
use Rattle.audit_base.specs.Histories.{HasMarketPrice}

same : (a b : OrderRecord) → HasMarketPrice a → ◌≡◌ {A = Result OrderRecord Reason} (Ok a) (Ok b) → HasMarketPrice b
same a b has e = let eq : a ≡ b = cc in subst HasMarketPrice eq has

-- four columns, and the record that they make
four : {A B C D : Type 0} (a : Result A Reason) (b : Result B Reason) (c : Result C Reason) (d : Result D Reason) (make : A → B → C → D → OrderRecord) (order : OrderRecord)
    → a >>= (λ w. b >>= (λ x. c >>= (λ y. d >>= (λ z. Ok (make w x y z))))) ≡ Ok order → ((w : A) (x : B) (y : C) (z : D) → HasMarketPrice (make w x y z)) → HasMarketPrice order
four (Ok w) (Ok x) (Ok y) (Ok z) make order e each = same (make w x y z) order (each w x y z) e
four (Ok w) (Ok x) (Ok y) (Err why) make order e each = absurd (cc e)
four (Ok w) (Ok x) (Err why) d make order e each = absurd (cc e)
four (Ok w) (Err why) c d make order e each = absurd (cc e)
four (Err why) b c d make order e each = absurd (cc e)

limit-priced : (head : LineHead) (fields : List (List ℕ)) (order : OrderRecord) → row_limit_order head life.Rests fields ≡ Ok order → HasMarketPrice order
limit-priced head fields order e =
    four (row_side 6 fields) (row_quantity 7 fields) (row_price 8 fields) (row_blank 9 fields) (λ side quantity price none. record_of.New head.key head.time head.symbol side quantity price life.Rests) order e (λ _ _ _ _ other. cc other)

immediate-priced : (head : LineHead) (fields : List (List ℕ)) (order : OrderRecord) → row_limit_order head life.Immediate fields ≡ Ok order → HasMarketPrice order
immediate-priced head fields order e =
    four (row_side 6 fields) (row_quantity 7 fields) (row_price 8 fields) (row_blank 9 fields) (λ side quantity price none. record_of.New head.key head.time head.symbol side quantity price life.Immediate) order e (λ _ _ _ _ other. cc other)

market-priced : (head : LineHead) (fields : List (List ℕ)) (order : OrderRecord) → row_market_order head fields ≡ Ok order → HasMarketPrice order
market-priced head fields order e =
    four (row_side 6 fields) (row_quantity 7 fields) (row_blank 8 fields) (row_blank 9 fields) (λ side quantity none nothing. record_of.New head.key head.time head.symbol side quantity (market_price side) life.Market) order e (λ _ _ _ _ _. refl)

cancel-priced : (head : LineHead) (fields : List (List ℕ)) (order : OrderRecord) → row_cancel head fields ≡ Ok order → HasMarketPrice order
cancel-priced head fields order e =
    four (row_blank 6 fields) (row_blank 7 fields) (row_blank 8 fields) (row_name 9 fields) (λ x y z target. record_of.Cancel head.key head.time head.symbol target) order e (λ _ _ _ _. tt)

replace-priced : (head : LineHead) (fields : List (List ℕ)) (order : OrderRecord) → row_replacement head fields ≡ Ok order → HasMarketPrice order
replace-priced head fields order e =
    four (row_side 6 fields) (row_quantity 7 fields) (row_price 8 fields) (row_name 9 fields) (λ side quantity price target. record_of.Replace head.key head.time head.symbol target side quantity price) order e (λ _ _ _ _. tt)

order-priced : (k : LineKind) (head : LineHead) (fields : List (List ℕ)) (order : OrderRecord) → order_of_kind k head fields ≡ Ok order → HasMarketPrice order
order-priced kind.New head fields order e = limit-priced head fields order e
order-priced kind.Immediate head fields order e = immediate-priced head fields order e
order-priced kind.Market head fields order e = market-priced head fields order e
order-priced kind.Cancel head fields order e = cancel-priced head fields order e
order-priced kind.Replace head fields order e = replace-priced head fields order e

two : {A B : Type 0} (a : Result A Reason) (b : Result B Reason) (make : A → B → Result OrderRecord Reason) (order : OrderRecord)
    → a >>= (λ x. b >>= (λ y. make x y)) ≡ Ok order → ((x : A) (y : B) → make x y ≡ Ok order → HasMarketPrice order) → HasMarketPrice order
two (Ok x) (Ok y) make order e each = each x y e
two (Ok x) (Err why) make order e each = absurd (cc e)
two (Err why) b make order e each = absurd (cc e)

pub entry-priced : (fields : List (List ℕ)) (order : OrderRecord) → order_of_row fields ≡ Ok order → HasMarketPrice order
unfolding order_of_row
entry-priced fields order e =
    two (in_column 1 (kind_form (column_text 1 fields))) (row_head fields) (λ k head. order_of_kind k head fields) order e (λ k head. order-priced k head fields order)

pub meaning-priced : (fields : List (List ℕ)) → IfOk (order_of_row fields) HasMarketPrice
meaning-priced fields = each-is (order_of_row fields) (entry-priced fields)
  where
    each-is : (reading : Result OrderRecord Reason) → ((order : OrderRecord) → reading ≡ Ok order → HasMarketPrice order) → IfOk reading HasMarketPrice
    each-is (Ok order) each = each order refl
    each-is (Err why) each = tt
