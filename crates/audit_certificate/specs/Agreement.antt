-- When a certificate agrees with an order list and deals: what each of its lines has to meet. An
-- order takes part where no record cancels it.
use Rattle.std.specs.Prelude.{◌≡◌, ◌≤◌, ◌<◌, ◌+◌, ℕ, zero, suc, List, [], ◌∷◌, ◌++◌, Option, None, Some, All, IsSomeAnd, ⊤, length, option_map}
use Rattle.std.specs.List.{flat_map, range_with_len}
use Rattle.audit_base.specs.Numbers.{price_end}
use Rattle.audit_base.specs.declared.terms.Rule.{Rule}
use Rattle.audit_base.specs.declared.terms.VolumeRule.{VolumeRule}
use Rattle.audit_base.specs.declared.terms.VolumeRule.TheVariants as of_volume
use Rattle.audit_base.specs.declared.terms.Side.{Side}
use Rattle.audit_base.specs.declared.terms.Side.TheVariants.{Buy, Sell}
use Rattle.audit_base.specs.declared.orders.Order.{Order}
use Rattle.audit_base.specs.declared.orders.Deal.{Deal}
use Rattle.audit_base.specs.Least.{IsLeast}
use Rattle.audit_base.specs.Orders.{place_at, quantity_at, IsUncancelledOn}
use Rattle.audit_base.specs.Priority.{Better}
use Rattle.audit_base.specs.Deals.{traded, volume}
use Rattle.audit_base.specs.Calls.{IsMatchingDeal, OnePrice}
use Rattle.audit_base.specs.Bounds.{demand, supply_below}
use Rattle.audit_base.specs.RuleKinds.{volume_rule}
use Rattle.audit_certificate.specs.Texts.{head_text, bound_text, last_text, order_line_text}
use Rattle.audit_certificate.specs.Lines.{text_after_lines, BeginsWith}

-- Line 1.

-- under `uniform` all prices are equal
abbrev pub OnePriceIfUniform : VolumeRule → List Deal → Type 0
OnePriceIfUniform of_volume.Uniform deals = OnePrice deals
OnePriceIfUniform of_volume.Maximum deals = ⊤

-- the line has the rule, `uniform` or `maximum`, and the symbol of the orders, and each deal is
-- between a bid and an ask that take part, at a price within both limits
pub record IsHeadLine (the_rule : VolumeRule) (symbol : List ℕ) (orders : List Order)
    (deals : List Deal) (text : List ℕ) : Type 0 where
  pub text_is : text ≡ head_text the_rule symbol
  pub kept : All (IsMatchingDeal orders) deals
  pub one_price : OnePriceIfUniform the_rule deals

-- Line 2.

-- a price shows that no volume is greater: under `maximum` the demand there and the asks below it
-- are together this volume, under `uniform` neither of the two is above it
abbrev pub ShowsNoGreaterVolume : VolumeRule → List Order → ℕ → ℕ → Type 0
ShowsNoGreaterVolume of_volume.Maximum orders reached price =
    demand orders price + supply_below orders price ≡ reached
ShowsNoGreaterVolume of_volume.Uniform orders reached price =
    (demand orders price ≤ reached) × (supply_below orders price ≤ reached)

-- the line has the volume, and a price from 0 to 10^18 that shows it
pub record IsBoundLine (the_rule : VolumeRule) (orders : List Order) (reached : ℕ)
    (text : List ℕ) : Type 0 where
  pub price : ℕ
  pub in_range : price ≤ price_end
  pub text_is : text ≡ bound_text price reached
  pub shows : ShowsNoGreaterVolume the_rule orders reached price

-- Lines 3 and 4.

-- the order is the last of its side that trades: each better one is fully traded,
-- each worse trades 0
pub record IsLastTrading (orders : List Order) (deals : List Deal) (side : Side)
    (last : ℕ) : Type 0 where
  pub stands : IsUncancelledOn orders side last
  pub trades : 0 < traded deals last
  pub better : (i : ℕ) → IsUncancelledOn orders side i → Better orders i last
      → traded deals i ≡ quantity_at orders i
  pub worse : (i : ℕ) → IsUncancelledOn orders side i → Better orders last i → traded deals i ≡ 0

-- there is such an order, or no order of the side trades
abbrev pub IsLastOf : List Order → List Deal → Side → Option ℕ → Type 0
IsLastOf orders deals side (Some last) = IsLastTrading orders deals side last
IsLastOf orders deals side None = (i : ℕ) → IsUncancelledOn orders side i → traded deals i ≡ 0

-- the line has the place of that order, or `none`
pub record IsLastLine (orders : List Order) (deals : List Deal) (side : Side)
    (text : List ℕ) : Type 0 where
  pub last : Option ℕ
  pub is_last : IsLastOf orders deals side last
  pub text_is : text ≡ last_text side (option_map (place_at orders) last)

-- The lines of the orders.

-- the line has the place of the order at an index, and what the order trades, which is at most its
-- quantity
pub record IsOrderLine (orders : List Order) (deals : List Deal) (index : ℕ)
    (text : List ℕ) : Type 0 where
  pub within : traded deals index ≤ quantity_at orders index
  pub text_is : text ≡ order_line_text (place_at orders index) (traded deals index)

-- two tests in one: at the index of an order the text begins with the line of this order, and at
-- the index after the last order there is no byte
pub record IsOrderLineOrEnd (orders : List Order) (deals : List Deal) (index : ℕ)
    (rest : List ℕ) : Type 0 where
  pub line : index < length orders → BeginsWith (IsOrderLine orders deals index) rest
  pub no_more : index ≡ length orders → rest ≡ []

-- The certificate.

-- the line with this number, from 1, passes. The number after the last order is that of a line too
-- many, which passes where it is not there
abbrev pub LinePasses : VolumeRule → List ℕ → List Order → List Deal → List ℕ → ℕ → Type 0
LinePasses the_rule symbol orders deals bytes zero = ⊤
LinePasses the_rule symbol orders deals bytes (suc zero) =
    BeginsWith (IsHeadLine the_rule symbol orders deals) (text_after_lines 0 bytes)
LinePasses the_rule symbol orders deals bytes (suc (suc zero)) =
    BeginsWith (IsBoundLine the_rule orders (volume deals)) (text_after_lines 1 bytes)
LinePasses the_rule symbol orders deals bytes (suc (suc (suc zero))) =
    BeginsWith (IsLastLine orders deals Buy) (text_after_lines 2 bytes)
LinePasses the_rule symbol orders deals bytes (suc (suc (suc (suc zero)))) =
    BeginsWith (IsLastLine orders deals Sell) (text_after_lines 3 bytes)
LinePasses the_rule symbol orders deals bytes (suc (suc (suc (suc (suc index))))) =
    IsOrderLineOrEnd orders deals index (text_after_lines (4 + index) bytes)

-- Agrees: each line passes, and there are no more and no fewer
abbrev pub Agrees : VolumeRule → List ℕ → List Order → List Deal → List ℕ → Type 0
Agrees the_rule symbol orders deals bytes =
    (number : ℕ) → number ≤ 5 + length orders
    → LinePasses the_rule symbol orders deals bytes number

-- the certificate agrees under one of the five rules, which has to be one that asks for
-- the greatest volume
abbrev pub AgreesUnder : Rule → List ℕ → List Order → List Deal → List ℕ → Type 0
AgreesUnder the_rule symbol orders deals bytes =
    IsSomeAnd (volume_rule the_rule) (λ r. Agrees r symbol orders deals bytes)

-- there is no rule under which the certificate agrees
abbrev pub AgreesUnderNone : List ℕ → List Order → List Deal → List ℕ → Type 0
AgreesUnderNone symbol orders deals bytes =
    (the_rule : Rule) → AgreesUnder the_rule symbol orders deals bytes → ⊥

-- the lines before this one pass under a rule
abbrev pub LinesPassBefore : VolumeRule → List ℕ → List Order → List Deal → List ℕ → ℕ → Type 0
LinesPassBefore the_rule symbol orders deals bytes number =
    (before : ℕ) → before < number → LinePasses the_rule symbol orders deals bytes before

-- the first line that is missing, not ended, too many, or fails its test: those before it pass
-- under some rule, and under each rule under which they do this one does not
pub record IsFirstRefused (symbol : List ℕ) (orders : List Order) (deals : List Deal)
    (bytes : List ℕ) (number : ℕ) : Type 0 where
  pub some : VolumeRule
  pub passed : LinesPassBefore some symbol orders deals bytes number
  pub fails : (the_rule : VolumeRule) → LinesPassBefore the_rule symbol orders deals bytes number
      → LinePasses the_rule symbol orders deals bytes number → ⊥
  pub inside : number ≤ 5 + length orders

-- The text that is written.

-- the lines of n orders, from an index on
abbrev pub order_lines_text : List Order → List Deal → ℕ → ℕ → List ℕ
order_lines_text orders deals from count =
    flat_map (λ i. order_line_text (place_at orders i) (traded deals i) ++ 10 ∷ [])
    (range_with_len from count)

-- all lines of a certificate, of a price and the last orders of both sides that trade
abbrev pub certificate_text : VolumeRule → List ℕ → List Order → List Deal → ℕ → Option ℕ → Option ℕ
    → List ℕ
certificate_text the_rule symbol orders deals price bid ask =
    head_text the_rule symbol ++ 10 ∷ []
    ++ (bound_text price (volume deals) ++ 10 ∷ [])
    ++ (last_text Buy (option_map (place_at orders) bid) ++ 10 ∷ [])
    ++ (last_text Sell (option_map (place_at orders) ask) ++ 10 ∷ [])
    ++ order_lines_text orders deals 0 (length orders)

-- a price from 0 to 10^18 that passes line 2, and none below it does
abbrev pub IsLeastPrice : VolumeRule → List Order → ℕ → ℕ → Type 0
IsLeastPrice the_rule orders reached price =
    IsLeast (λ q. (q ≤ price_end) × ShowsNoGreaterVolume the_rule orders reached q) price

-- the certificate of these orders and deals: it has the least price
pub record IsCertificate (the_rule : VolumeRule) (symbol : List ℕ) (orders : List Order)
    (deals : List Deal) (text : List ℕ) : Type 0 where
  pub price : ℕ
  pub bid : Option ℕ
  pub ask : Option ℕ
  pub least : IsLeastPrice the_rule orders (volume deals) price
  pub last_bid : IsLastOf orders deals Buy bid
  pub last_ask : IsLastOf orders deals Sell ask
  pub text_is : text ≡ certificate_text the_rule symbol orders deals price bid ask

-- the certificate under one of the five rules, which has to be one that asks for
-- the greatest volume
abbrev pub IsCertificateUnder : Rule → List ℕ → List Order → List Deal → List ℕ → Type 0
IsCertificateUnder the_rule symbol orders deals text =
    IsSomeAnd (volume_rule the_rule) (λ r. IsCertificate r symbol orders deals text)
