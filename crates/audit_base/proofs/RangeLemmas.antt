-- What is read as a quantity or a price is in its range, and so are the orders of records in range.
use Rattle.std.proofs.Common.{◌≡◌, ◌≤◌, ◌<◌, ◌+◌, ◌-◌, ◌*◌, ◌^◌, ℕ, List, [], ◌∷◌, length, take, drop, get_or, true, Option, Some, None, refl, sym, arith, inl, inr, lit<, subst}
use Rattle.std.specs.Prelude.{◌&&◌, nat_le}
use Rattle.std.specs.Char.{is_ascii_digit}
use Rattle.std.specs.Cmp.{first_so, second_so}
use Rattle.std.specs.List.{list_all, position}
use Rattle.std.specs.Str.Parse.{AllDigits, digits_value}
use Rattle.std.proofs.Math.Nat.{pow-le-pow_right}
use Rattle.std.proofs.lemmas.Bool.{cases_Bool, and_parts, leb-true}
use Rattle.std.proofs.lemmas.Int.Digits.{digits_value-lt}
use Rattle.audit_base.specs.declared.orders.Order.{Order}
use Rattle.audit_base.specs.declared.records.OrderRecord.{OrderRecord}
use Rattle.audit_base.specs.declared.records.OrderRecord.TheVariants.{New, Cancel, Replace}
use Rattle.audit_base.specs.declared.terms.Side.{Side}
use Rattle.audit_base.specs.declared.terms.Side.TheVariants.{Buy, Sell}
use Rattle.audit_base.specs.Digits.{digits_form, is_digits}
use Rattle.audit_base.specs.Histories.{history, entry_past_end, order_list, order_of_entry, symbol_of}
use Rattle.audit_base.specs.Numbers.{IsQuantity, IsPrice, quantity_in_range, is_point, is_quantity, are_zero_digits, market_price, price_by_point, price_form, price_with_fraction, quantity_by_point, quantity_form, whole_price}
use Rattle.audit_base.specs.Orders.{OrdersInRange, OrderInRange, order_past_end, order_at, same_name}
use Rattle.audit_base.specs.RecordRanges.{RecordsInRange, RecordInRange}
use Rattle.audit_base.proofs.DigitLemmas.{digit_bounds, digit_value_is, scaled_fraction}
use Rattle.audit_base.proofs.HistoryLemmas.{order-from}
use Rattle.audit_base.proofs.NumberLemmas.{test-quantity}
use Rattle.audit_base.proofs.OffenceLemmas.{get_or-default}
use Rattle.audit_base.proofs.TradeLemmas.{numbered-All}

some-same : (a b : ℕ) → Some a ≡ Some b → a ≡ b
some-same a b e = cc

-- Digits write less than a power of ten.

all-digits : (text : List ℕ) → list_all is_ascii_digit text ≡ true → AllDigits 10 text
all-digits [] are = tt
all-digits (c ∷ text) are =
    let bounds = digit_bounds c (first_so (is_ascii_digit c) (list_all is_ascii_digit text) are) in
    let value = digit_value_is c bounds.0 bounds.1 in
    (omega (arith, value, bounds.0, bounds.1), all-digits text (second_so (is_ascii_digit c) (list_all is_ascii_digit text) are))

pub record IsNumber (most : ℕ) (text : List ℕ) (value : ℕ) : Type 0 where
  pub few : length text ≤ most
  pub below : value < 10 ^ length text

digits-below : (most : ℕ) (text : List ℕ) (value : ℕ) → digits_form most text ≡ Some value → IsNumber most text value
digits-below most text value e = elim (cases_Bool (is_digits 1 most text)) [
  | inr f ↦ let none : None ≡ Some value = rw f at e in absurd (cc none)
  | inl t ↦
      let is : Some (digits_value 10 text) ≡ Some value = rw t at e in
      let outer = and_parts (nat_le 1 (length text) && nat_le (length text) most) (list_all is_ascii_digit text) t in
      let inner = and_parts (nat_le 1 (length text)) (nat_le (length text) most) outer.0 in
      let same = some-same (digits_value 10 text) value is in
      let low = digits_value-lt 10 text (all-digits text outer.1) in
      record { few = leb-true _ _ inner.1; below = subst (λ (v : ℕ). v < 10 ^ length text) same low }
]

digits-most : (most : ℕ) (text : List ℕ) (value : ℕ) → digits_form most text ≡ Some value → value < 10 ^ most
digits-most most text value e =
    let is = digits-below most text value e in
    let top : 10 ^ length text ≤ 10 ^ most = pow-le-pow_right {n = 10} (lit< tt) is.few in
    let below = is.below in
    omega (arith, top, below)

-- Quantities.

in-quantity : (found : Option ℕ) (value : ℕ) → quantity_in_range found ≡ Some value → IsQuantity value
in-quantity None value e = absurd (cc e)
in-quantity (Some number) value e = elim (cases_Bool (is_quantity number)) [
  | inr f ↦ let none : None ≡ Some value = rw f at e in absurd (cc none)
  | inl t ↦
      let is : Some number ≡ Some value = rw t at e in
      let same = some-same number value is in
      subst IsQuantity same (test-quantity number t)
]

quantity-around : (text : List ℕ) (point : Option ℕ) (value : ℕ) → quantity_by_point text point ≡ Some value → IsQuantity value
quantity-around text None value e = in-quantity (digits_form 13 text) value e
quantity-around text (Some point) value e = elim (cases_Bool (are_zero_digits (drop (point + 1) text))) [
  | inr f ↦ let none : None ≡ Some value = rw f at e in absurd (cc none)
  | inl t ↦ in-quantity (digits_form 13 (take point text)) value (rw t at e)
]

pub quantity-range : (text : List ℕ) (value : ℕ) → quantity_form text ≡ Some value → IsQuantity value
quantity-range text value e = quantity-around text (position is_point text) value e

-- Prices.

whole-range : (whole : Option ℕ) (value : ℕ) → ((n : ℕ) → whole ≡ Some n → n < 10 ^ 10) → whole_price whole ≡ Some value → IsPrice value
whole-range None value below e = absurd (cc e)
whole-range (Some whole) value below e =
    let same = some-same (whole * 10 ^ 8) value e in
    let b = below whole refl in
    omega (arith, same, b)

fraction-range : (whole : Option ℕ) (places : ℕ) (fraction : Option ℕ) (value : ℕ) → ((n : ℕ) → whole ≡ Some n → n < 10 ^ 10)
    → ((n : ℕ) → fraction ≡ Some n → (places ≤ 8) × (n < 10 ^ places)) → price_with_fraction whole places fraction ≡ Some value → IsPrice value
fraction-range None places fraction value below part e = absurd (cc e)
fraction-range (Some whole) places None value below part e = absurd (cc e)
fraction-range (Some whole) places (Some fraction) value below part e =
    let same = some-same (whole * 10 ^ 8 + fraction * 10 ^ (8 - places)) value e in
    let b = below whole refl in
    let p = part fraction refl in
    let scaled : fraction * 10 ^ (8 - places) < 10 ^ 8 = scaled_fraction fraction places 8 p.1 p.0 in
    omega (arith, same, b, scaled)

price-around : (text : List ℕ) (point : Option ℕ) (value : ℕ) → price_by_point text point ≡ Some value → IsPrice value
price-around text None value e = whole-range (digits_form 10 text) value (digits-most 10 text) e
price-around text (Some point) value e =
    let rest = drop (point + 1) text in
    fraction-range (digits_form 10 (take point text)) (length rest) (digits_form 8 rest) value (digits-most 10 (take point text))
    (λ n is. let d = digits-below 8 rest n is in (d.few, d.below)) e

pub price-range : (text : List ℕ) (value : ℕ) → price_form text ≡ Some value → IsPrice value
price-range text value e = price-around text (position is_point text) value e

pub market-range : (side : Side) → IsPrice (market_price side)
market-range Buy = omega arith
market-range Sell = omega arith

-- The orders of records.

same-order : (a o : Order) → OrderInRange a → Some a ≡ Some o → OrderInRange o
same-order a o is e = let same : a ≡ o = cc in subst OrderInRange same is

order-range : (h : List (ℕ × OrderRecord)) (k : ℕ) (e : ℕ × OrderRecord) (o : Order) → RecordInRange e.1 → order_of_entry h (k, e.0, e.1) ≡ Some o → OrderInRange o
order-range h k (place, New key time symbol side quantity price life) o is e = same-order _ o is e
order-range h k (place, Cancel key time symbol target) o is e = absurd (cc e)
order-range h k (place, Replace key time symbol target side quantity price) o is e = same-order _ o is e

-- the orders of a symbol have numbers in range where the records of the log have
pub orders-range : (symbol : List ℕ) (entries : List OrderRecord) → RecordsInRange entries → OrdersInRange (order_list symbol entries)
orders-range symbol entries are i d lt =
    let records = history symbol entries in
    let from = order-from symbol entries i lt in
    let kept = numbered-All RecordInRange entries (λ e. same_name (symbol_of e.1) symbol) 1 are from.at entry_past_end from.inside in
    subst OrderInRange (sym (get_or-default (order_list symbol entries) i d order_past_end lt)) (order-range records from.at (get_or records from.at entry_past_end) (order_at (order_list symbol entries) i) kept from.gives)
