-- How line 2 is read, and the price that is written.
use Rattle.std.specs.Prelude.{◌≡◌, ℕ, zero, suc, ◌+◌, ◌==◌, ◌&&◌, nat_lt, max, Bool, List, Option, None, Some, slice_index, take, drop, length, if◌then◌else◌}
use Rattle.std.specs.List.{position}
use Rattle.audit_base.specs.declared.terms.VolumeRule.{VolumeRule}
use Rattle.audit_base.specs.declared.terms.VolumeRule.TheVariants as of_volume
use Rattle.audit_base.specs.declared.terms.Side.TheVariants.{Buy}
use Rattle.audit_base.specs.declared.orders.Order.{Order}
use Rattle.audit_base.specs.Numbers.{price_form, price_end}
use Rattle.audit_base.specs.Orders.{order_at, is_uncancelled_on}
use Rattle.audit_base.specs.Bounds.{IsLeastCut}
pub use Rattle.audit_base.specs.Names.{is_comma}

-- a text up to this index, or all of it where there is none
abbrev pub take_upto : List ℕ → Option ℕ → List ℕ
take_upto text None = text
take_upto text (Some at) = take at text

-- a text up to its first comma, or all of it where it has none
abbrev pub before_comma : List ℕ → List ℕ
before_comma text = take_upto text (position is_comma text)

-- the price that was read, or 10^18, which is above every price, where there is none
abbrev pub price_or_above : Option ℕ → ℕ
price_or_above None = price_end
price_or_above (Some price) = price

-- the price that a text writes, or 10^18 where it writes none
abbrev pub price_in_text : List ℕ → ℕ
price_in_text text = price_or_above (price_form text)

-- the price after the six bytes `bound,`
abbrev pub named_price : List ℕ → ℕ
named_price line =
    if nat_lt (length line) 6 then price_end else price_in_text (before_comma (drop 6 line))

-- one unit above the limit of a bid that takes part and trades less than its quantity; else 0
abbrev pub above_if_short : Order → ℕ → ℕ
above_if_short o traded =
    if is_uncancelled_on Buy o && nat_lt traded o.quantity then o.limit + 1 else 0

-- the greatest of these over the first n orders
unfoldable pub above_short_bids : List Order → List ℕ → ℕ → ℕ
above_short_bids orders traded zero = 0
above_short_bids orders traded (suc n) =
    max (above_if_short (order_at orders n) (slice_index traded n))
    (above_short_bids orders traded n)

-- the price belongs to the least cut
pub record IsLeastCutPrice (orders : List Order) (price : ℕ) : Type 0 where
  pub volume : ℕ
  pub least : IsLeastCut orders (record { price = price; volume = volume })

-- under `maximum` the price of the least cut, under `uniform` that above the short bids
abbrev pub IsCertificatePrice : VolumeRule → List Order → List ℕ → ℕ → Type 0
IsCertificatePrice of_volume.Maximum orders traded price = IsLeastCutPrice orders price
IsCertificatePrice of_volume.Uniform orders traded price =
    price ≡ above_short_bids orders traded (length orders)
