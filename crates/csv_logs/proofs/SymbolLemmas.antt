-- The symbol of a record that is read is in its column.
use Rattle.std.proofs.Common.{◌≡◌, ℕ, Bool, false, List, [], ◌∷◌, ◌++◌, subst, sym, ap, ◌∙◌, refl, inl, inr, Ok, Err, Result, Option, Some, None}
use Rattle.std.proofs.lemmas.Bool.{cases_Bool}
use Rattle.std.proofs.lemmas.List.{append-nil}
use Rattle.audit_base.specs.declared.faults.Reason.{Reason}
use Rattle.audit_base.specs.declared.records.OrderRecord.{OrderRecord}
use Rattle.audit_base.specs.declared.records.OrderRecord.TheVariants as record_of
use Rattle.audit_base.specs.declared.records.TradeRecord.{TradeRecord}
use Rattle.audit_base.specs.declared.terms.Life.{Life}
use Rattle.audit_base.specs.declared.terms.Life.TheVariants as life
use Rattle.audit_base.specs.Histories.{symbol_of}
use Rattle.audit_base.specs.Names.{is_name, name_form}
use Rattle.audit_base.specs.Numbers.{market_price}
use Rattle.csv_logs.specs.declared.orders.LineHead.{LineHead}
use Rattle.csv_logs.specs.declared.orders.LineKind.{LineKind}
use Rattle.csv_logs.specs.declared.orders.LineKind.TheVariants as kind
use Rattle.csv_logs.specs.Columns.{◌>>=◌, column_text, in_column, row_key, row_name, row_side, row_quantity, row_price, row_blank, row_stamp, test_result}
use Rattle.csv_logs.specs.OrderLines.{kind_form, row_head, row_limit_order, order_of_kind, order_of_row}
use Rattle.csv_logs.specs.TradeLines.{row_parties, trade_of_row}
use Rattle.csv_logs.specs.Steps.{TakesFields, entry_says}

-- what holds of the value of an `Ok`
one : {A B : Type 0} (P : B → Type 0) (a : Result A Reason) (make : A → Result B Reason) (made : B) → a >>= make ≡ Ok made → ((x : A) → a ≡ Ok x → make x ≡ Ok made → P made) → P made
one P (Ok x) make made e each = each x refl e
one P (Err why) make made e each = absurd (cc e)

is-made : {B : Type 0} (P : B → Type 0) (b made : B) → ◌≡◌ {A = Result B Reason} (Ok b) (Ok made) → P b → P made
is-made P b made e has = let eq : b ≡ made = cc in subst P eq has

-- a name that is read is the text of its column
form-is : (text name : List ℕ) → name_form text ≡ Some name → text ≡ name
form-is text name e = elim (cases_Bool (is_name text)) [
  | inl good ↦ cc (rw good at e)
  | inr bad ↦ absurd (cc (rw bad at e))
]

in-column : {T : Type 0} (number : ℕ) (value : Option T) (found : T) → in_column number value ≡ Ok found → value ≡ Some found
in-column number None found e = absurd (cc e)
in-column number (Some value) found e = let eq : value ≡ found = cc in ap (λ (v : _). Some v) eq

name-is : (number : ℕ) (fields : List (List ℕ)) (name : List ℕ) → row_name number fields ≡ Ok name → name ≡ column_text number fields
name-is number fields name e = sym (form-is (column_text number fields) name (in-column number (name_form (column_text number fields)) name e))

head-symbol : (fields : List (List ℕ)) (head : LineHead) → row_head fields ≡ Ok head → head.symbol ≡ column_text 5 fields
head-symbol fields head e =
    let P : LineHead → Type 0 = λ (h : LineHead). h.symbol ≡ column_text 5 fields in
    one P (row_key 2 fields) (λ key. row_stamp 4 fields >>= (λ time. row_name 5 fields >>= (λ symbol. Ok (record { key = key; time = time; symbol = symbol })))) head e (λ key _ e1.
    one P (row_stamp 4 fields) (λ time. row_name 5 fields >>= (λ symbol. Ok (record { key = key; time = time; symbol = symbol }))) head e1 (λ time _ e2.
    one P (row_name 5 fields) (λ symbol. Ok (record { key = key; time = time; symbol = symbol })) head e2 (λ symbol named e3.
    is-made P (record { key = key; time = time; symbol = symbol }) head e3 (name-is 5 fields symbol named))))

four : {A B C D : Type 0} (P : OrderRecord → Type 0) (a : Result A Reason) (b : Result B Reason) (c : Result C Reason) (d : Result D Reason) (make : A → B → C → D → OrderRecord) (order : OrderRecord)
    → a >>= (λ w. b >>= (λ x. c >>= (λ y. d >>= (λ z. Ok (make w x y z))))) ≡ Ok order → ((w : A) (x : B) (y : C) (z : D) → P (make w x y z)) → P order
four P (Ok w) (Ok x) (Ok y) (Ok z) make order e each = is-made P (make w x y z) order e (each w x y z)
four P (Ok w) (Ok x) (Ok y) (Err why) make order e each = absurd (cc e)
four P (Ok w) (Ok x) (Err why) d make order e each = absurd (cc e)
four P (Ok w) (Err why) c d make order e each = absurd (cc e)
four P (Err why) b c d make order e each = absurd (cc e)

limit-symbol : (head : LineHead) (l : Life) (fields : List (List ℕ)) (order : OrderRecord) → row_limit_order head l fields ≡ Ok order → symbol_of order ≡ head.symbol
limit-symbol head l fields order e =
    four (λ o. symbol_of o ≡ head.symbol) (row_side 6 fields) (row_quantity 7 fields) (row_price 8 fields) (row_blank 9 fields) (λ side quantity price none. record_of.New head.key head.time head.symbol side quantity price l) order e (λ _ _ _ _. refl)

order-of-symbol : (k : LineKind) (head : LineHead) (fields : List (List ℕ)) (order : OrderRecord) → order_of_kind k head fields ≡ Ok order → symbol_of order ≡ head.symbol
order-of-symbol kind.New head fields order e = limit-symbol head life.Rests fields order e
order-of-symbol kind.Immediate head fields order e = limit-symbol head life.Immediate fields order e
order-of-symbol kind.Market head fields order e =
    four (λ o. symbol_of o ≡ head.symbol) (row_side 6 fields) (row_quantity 7 fields) (row_blank 8 fields) (row_blank 9 fields) (λ side quantity none nothing. record_of.New head.key head.time head.symbol side quantity (market_price side) life.Market) order e (λ _ _ _ _. refl)
order-of-symbol kind.Cancel head fields order e =
    four (λ o. symbol_of o ≡ head.symbol) (row_blank 6 fields) (row_blank 7 fields) (row_blank 8 fields) (row_name 9 fields) (λ x y z target. record_of.Cancel head.key head.time head.symbol target) order e (λ _ _ _ _. refl)
order-of-symbol kind.Replace head fields order e =
    four (λ o. symbol_of o ≡ head.symbol) (row_side 6 fields) (row_quantity 7 fields) (row_price 8 fields) (row_name 9 fields) (λ side quantity price target. record_of.Replace head.key head.time head.symbol target side quantity price) order e (λ _ _ _ _. refl)

pub order-symbol : (fields : List (List ℕ)) (order : OrderRecord) → order_of_row fields ≡ Ok order → symbol_of order ≡ column_text 5 fields
unfolding order_of_row
order-symbol fields order e =
    let P : OrderRecord → Type 0 = λ (o : OrderRecord). symbol_of o ≡ column_text 5 fields in
    one P (in_column 1 (kind_form (column_text 1 fields))) (λ k. row_head fields >>= (λ head. order_of_kind k head fields)) order e (λ k _ e1.
    one P (row_head fields) (λ head. order_of_kind k head fields) order e1 (λ head got e2. order-of-symbol k head fields order e2 ∙ head-symbol fields head got))

pub trade-symbol : (fields : List (List ℕ)) (trade : TradeRecord) → trade_of_row fields ≡ Ok trade → trade.symbol ≡ column_text 3 fields
unfolding trade_of_row
trade-symbol fields trade e =
    let P : TradeRecord → Type 0 = λ (t : TradeRecord). t.symbol ≡ column_text 3 fields in
    one P (row_name 1 fields) _ trade e (λ id _ e1.
    one P (row_stamp 2 fields) _ trade e1 (λ time _ e2.
    one P (row_name 3 fields) _ trade e2 (λ symbol named e3.
    one P (row_parties fields) _ trade e3 (λ parties _ e4.
    one P (row_quantity 8 fields) _ trade e4 (λ quantity _ e5.
    one P (row_price 9 fields) _ trade e5 (λ price _ e6.
    is-made P _ trade e6 (name-is 3 fields symbol named)))))))

-- a record was passed over
pub passes : {R : Type 0} (symbol_of : R → List ℕ) (meaning : Result R Reason) (symbol : List ℕ) (wants : List ℕ → Bool) (before after : List R → Type 0)
    → Ok tt ≡ test_result meaning → ((entry : R) → meaning ≡ Ok entry → symbol_of entry ≡ symbol) → wants symbol ≡ false
    → ((entries : List R) (entry : R) → wants (symbol_of entry) ≡ false → before entries → after (entries ++ entry ∷ [])) → TakesFields (entry_says meaning) before after (Ok tt)
passes symbol_of (Ok entry) symbol wants before after good same other passed = (λ entries has. passed entries entry (ap wants (same entry refl) ∙ other) has, refl)
passes symbol_of (Err why) symbol wants before after good same other passed = absurd (cc good)

-- where a test finds nothing there is a value
pub value-of : {A : Type 0} (a : Result A Reason) → Ok tt ≡ test_result a → (x : A) × (a ≡ Ok x)
value-of (Ok x) good = (x, refl)
value-of (Err why) good = absurd (cc good)

pub reason-of : {A : Type 0} (a : Result A Reason) (why : Reason) → Err why ≡ test_result a → a ≡ Err why
reason-of (Ok x) why bad = absurd (cc bad)
reason-of (Err other) why bad = let eq : why ≡ other = cc in ap (λ (e : Reason). Err e) (sym eq)

-- a line that means no record leaves a collector as it was
pub refuses : {R : Type 0} (reading : Result R Reason) (why : Reason) (before : List R → Type 0) → Err why ≡ test_result reading → TakesFields (entry_says reading) before before (Err why)
refuses (Ok x) why before bad = absurd (cc bad)
refuses (Err other) why before bad = (λ entries has. subst before (sym (append-nil entries)) has, ap (λ (e : Reason). Err e) cc)

pub tested-made : {A B : Type 0} (a : Result A Reason) (make : A → B) → test_result a ≡ test_result (a >>= (λ x. Ok (make x)))
tested-made (Ok x) make = refl
tested-made (Err why) make = refl
