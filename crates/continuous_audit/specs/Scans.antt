-- What the first deals add up to, and where the deals of an order begin.
use Rattle.std.specs.Prelude.{◌≡◌, ◌<◌, ◌≤◌, ◌-◌, ◌*◌, ◌^◌, ◌⊎◌, ℕ, suc, false, List, Option, None, Some, length, slice_index_or}
use Rattle.audit_base.specs.Numbers.{greatest_quantity}
use Rattle.audit_base.specs.declared.orders.Order.{Order}
use Rattle.audit_base.specs.declared.orders.Deal.{Deal}
use Rattle.audit_base.specs.Deals.{names_order, deal_at, number_at}
use Rattle.continuous_audit.specs.declared.incoming_deals.IncomingDeal.{IncomingDeal}
use Rattle.continuous_audit.specs.IncomingDeals.{running_total}

-- what is given past the end of the incoming deals; and of the one at an index, the incoming order
-- and the index of the deal
abbrev pub incoming_deal_past_end : IncomingDeal
incoming_deal_past_end = record { order = 0; deal = 0 }

abbrev pub incoming_order_at : List IncomingDeal → ℕ → ℕ
incoming_order_at incoming_deals index =
    (slice_index_or incoming_deals index incoming_deal_past_end).order

abbrev pub deal_index_at : List IncomingDeal → ℕ → ℕ
deal_index_at incoming_deals index =
    (slice_index_or incoming_deals index incoming_deal_past_end).deal

-- what each order has traded in the first of the incoming deals
pub record AreRunningTotals (orders : List Order) (deals : List Deal)
    (incoming_deals : List IncomingDeal) (added : ℕ) (traded : List ℕ) : Type 0 where
  pub inside : added ≤ length incoming_deals
  pub count : length traded ≡ length orders
  pub sums : (order : ℕ) → order < length orders → number_at traded order
      ≡ running_total deals incoming_deals added order
  pub fits : (order : ℕ) → order < length orders → number_at traded order ≤ added * greatest_quantity

-- the incoming deals before an index are those of the orders before this one
pub record IsSplitAt (incoming_deals : List IncomingDeal) (order index : ℕ) : Type 0 where
  pub early : (i : ℕ) → i < index → i < length incoming_deals
      → incoming_order_at incoming_deals i < order
  pub late : (i : ℕ) → index ≤ i → i < length incoming_deals
      → order ≤ incoming_order_at incoming_deals i

-- how many steps lead back from a target at most
abbrev pub steps_of : Option ℕ → ℕ
steps_of None = 0
steps_of (Some target) = suc target

-- the incoming deals are deals of the list, and these name orders below a count
pub record HasDeals (deals : List Deal) (incoming_deals : List IncomingDeal)
    (count : ℕ) : Type 0 where
  pub deal : (index : ℕ) → index < length incoming_deals
      → deal_index_at incoming_deals index < length deals
  pub bid : (index : ℕ) → index < length incoming_deals
      → (deal_at deals (deal_index_at incoming_deals index)).bid < count
  pub ask : (index : ℕ) → index < length incoming_deals
      → (deal_at deals (deal_index_at incoming_deals index)).ask < count

-- what is left of the orders of these deals is their size less what they have traded, and of the
-- others what it was
pub record IsLeftRefreshed (deals : List Deal) (incoming_deals : List IncomingDeal) (start end : ℕ)
    (sizes traded old new : List ℕ) : Type 0 where
  pub count : length new ≡ length old
  pub each : (order : ℕ) → (number_at new order ≡ number_at sizes order - number_at traded order)
      ⊎ ((number_at new order ≡ number_at old order) × ((index : ℕ) → start ≤ index → index < end
      → names_order order (deal_at deals (deal_index_at incoming_deals index)) ≡ false))

-- each number is at most 10^12, the greatest Size
abbrev pub AreWithinGreatestSize : List ℕ → Type 0
AreWithinGreatestSize numbers = (order : ℕ) → number_at numbers order ≤ greatest_quantity

-- what each order has traded is there, and at most 2^72
pub record AreTotalsSmall (orders : List Order) (traded : List ℕ) : Type 0 where
  pub count : length traded ≡ length orders
  pub most : (order : ℕ) → order < length orders → number_at traded order ≤ 2 ^ 72
