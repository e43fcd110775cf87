-- Prices and quantities: their ranges and their written forms. The codes of `.` and `0` are 46
-- and 48.
use Rattle.std.specs.Prelude.{◌<◌, ◌≤◌, ℕ, Bool, ◌+◌, ◌-◌, ◌*◌, ◌/◌, ◌%◌, ◌^◌, ◌==◌, ◌&&◌, nat_lt, nat_le, Option, Some, None, List, [], ◌∷◌, ◌++◌, length, take, drop, decimal, if◌then◌else◌}
use Rattle.std.specs.List.{list_all, position}
use Rattle.audit_base.specs.declared.terms.Side.{Side}
use Rattle.audit_base.specs.declared.terms.Side.TheVariants.{Buy, Sell}
use Rattle.audit_base.specs.Digits.{digits_form, fraction_digits}

-- the greatest quantity
abbrev pub greatest_quantity : ℕ
greatest_quantity = 10 ^ 12

-- the end of prices: the least number of units that is no price
abbrev pub price_end : ℕ
price_end = 10 ^ 18

-- a quantity is from 1 to 10^12
pub record IsQuantity (quantity : ℕ) : Type 0 where
  pub some : 0 < quantity
  pub most : quantity ≤ greatest_quantity

-- the same as a test
abbrev pub is_quantity : ℕ → Bool
is_quantity quantity = nat_lt 0 quantity && nat_le quantity greatest_quantity

-- a price is from 0 to 10^18 - 1, in units of 10^-8
abbrev pub IsPrice : ℕ → Type 0
IsPrice price = price < price_end

-- the numbers of an order, a deal, a trade or a report: a quantity and a price
pub record AreInRange (quantity price : ℕ) : Type 0 where
  pub sized : IsQuantity quantity
  pub priced : IsPrice price

-- the byte of a decimal point
abbrev pub is_point : ℕ → Bool
is_point b = b == 46

-- a price of a whole number of currency units has 10^8 units for each
abbrev pub whole_price : Option ℕ → Option ℕ
whole_price None = None
whole_price (Some whole) = Some (whole * 10 ^ 8)

-- a price with a fraction of this many places
abbrev pub price_with_fraction : Option ℕ → ℕ → Option ℕ → Option ℕ
price_with_fraction None places fraction = None
price_with_fraction (Some whole) places None = None
price_with_fraction (Some whole) places (Some fraction) =
    Some (whole * 10 ^ 8 + fraction * 10 ^ (8 - places))

-- the price in units of 10^-8 that a text writes, by the index of its point: 1 to 10 digits before
-- the point and 1 to 8 after it; where it has no point, 1 to 10 digits
abbrev pub price_by_point : List ℕ → Option ℕ → Option ℕ
price_by_point text None = whole_price (digits_form 10 text)
price_by_point text (Some point) =
    price_with_fraction (digits_form 10 (take point text)) (length (drop (point + 1) text))
    (digits_form 8 (drop (point + 1) text))

-- a price in units of 10^-8: 1 to 10 digits, then optionally a point and 1 to 8 digits
abbrev pub price_form : List ℕ → Option ℕ
price_form text = price_by_point text (position is_point text)

-- a market order takes any price: a bid the greatest, an ask the least
abbrev pub market_price : Side → ℕ
market_price Buy = price_end - 1
market_price Sell = 0

-- the byte of the digit 0
abbrev pub is_zero_digit : ℕ → Bool
is_zero_digit b = b == 48

-- one or more zeros
abbrev pub are_zero_digits : List ℕ → Bool
are_zero_digits text = nat_le 1 (length text) && list_all is_zero_digit text

-- the value, where it is a quantity
abbrev pub quantity_in_range : Option ℕ → Option ℕ
quantity_in_range None = None
quantity_in_range (Some value) = if is_quantity value then Some value else None

-- the quantity that a text writes, by the index of its point: 1 to 13 digits before the point and
-- one or more zeros after it; where it has no point, 1 to 13 digits
abbrev pub quantity_by_point : List ℕ → Option ℕ → Option ℕ
quantity_by_point text None = quantity_in_range (digits_form 13 text)
quantity_by_point text (Some point) =
    if are_zero_digits (drop (point + 1) text)
    then quantity_in_range (digits_form 13 (take point text)) else None

-- a quantity: 1 to 13 digits, then optionally a point and zeros, with a whole part from 1 to 10^12
abbrev pub quantity_form : List ℕ → Option ℕ
quantity_form text = quantity_by_point text (position is_point text)

-- a fraction's digits with the point before them, or nothing
abbrev pub point_and_digits : List ℕ → List ℕ
point_and_digits [] = []
point_and_digits (digit ∷ digits) = 46 ∷ digit ∷ digits

-- the canonical text of a price: its whole part, and its fraction without zeros at its end
abbrev pub price_text : ℕ → List ℕ
price_text units =
    decimal (units / 10 ^ 8) ++ point_and_digits (fraction_digits 8 (units % 10 ^ 8))
