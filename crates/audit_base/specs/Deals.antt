-- Deals, and the sums over them.
use Rattle.std.specs.Prelude.{◌≡◌, ◌<◌, ◌≤◌, ◌^◌, ℕ, Bool, ◌==◌, ◌||◌, ◌&&◌, nat_le, List, All, AllPairs, length, sum_by, slice_index, slice_index_or, if◌then◌else◌}
use Rattle.audit_base.specs.declared.terms.Side.TheVariants.{Buy, Sell}
use Rattle.audit_base.specs.declared.orders.Order.{Order}
use Rattle.audit_base.specs.declared.orders.Deal.{Deal}
use Rattle.audit_base.specs.Orders.{limit_at, side_at}
use Rattle.audit_base.specs.Numbers.{AreInRange}

-- the deal names the order at this index
abbrev pub names_order : (order : ℕ) (d : Deal) → Bool
names_order order d = (d.bid == order) || (d.ask == order)

-- the quantity of a deal that belongs to this order
abbrev pub quantity_traded_by : (order : ℕ) (d : Deal) → ℕ
quantity_traded_by order d = if names_order order d then d.quantity else 0

-- Traded: the quantities of the deals that name an order, added
abbrev pub traded : (deals : List Deal) (order : ℕ) → ℕ
traded deals order = sum_by (quantity_traded_by order) deals

-- of a list with a number for each order: the number at an index, or 0 past its end
abbrev pub number_at : (numbers : List ℕ) (order : ℕ) → ℕ
number_at numbers order = slice_index_or numbers order 0

-- the numbers are what each order of the list trades in these deals
pub record AreTotals (orders : List Order) (deals : List Deal) (totals : List ℕ) : Type 0 where
  pub count : length totals ≡ length orders
  pub each : (order : ℕ) → order < length orders → slice_index totals order ≡ traded deals order

-- Pair: the quantities of the deals that name both a bid and an ask, added
abbrev pub pair : (deals : List Deal) (bid ask : ℕ) → ℕ
pair deals bid ask = sum_by (λ d. if (d.bid == bid) && (d.ask == ask) then d.quantity else 0) deals

-- Volume: the quantities of all deals, added
abbrev pub volume : (deals : List Deal) → ℕ
volume deals = sum_by (λ d. d.quantity) deals

-- what is read past the end of a list of deals, and the deal at an index
abbrev pub deal_past_end : Deal
deal_past_end = record { place = 0; bid = 0; ask = 0; quantity = 0; price = 0 }

abbrev pub deal_at : (deals : List Deal) (deal : ℕ) → Deal
deal_at deals deal = slice_index_or deals deal deal_past_end

-- a deal keeps both limits: its price is from that of its ask to that of its bid
pub record KeepsLimits (orders : List Order) (d : Deal) : Type 0 where
  pub least : limit_at orders d.ask ≤ d.price
  pub most : d.price ≤ limit_at orders d.bid

-- the same as a test of its bid and its ask
abbrev pub is_price_within : (bid ask : Order) (d : Deal) → Bool
is_price_within bid ask d = nat_le ask.limit d.price && nat_le d.price bid.limit

-- the deal names a bid and an ask of the order list
pub record NamesOrders (orders : List Order) (d : Deal) : Type 0 where
  pub bid_inside : d.bid < length orders
  pub ask_inside : d.ask < length orders
  pub buys : side_at orders d.bid ≡ Buy
  pub sells : side_at orders d.ask ≡ Sell

-- a list of deals over an order list: each names a bid and an ask, places rise strictly,
-- and there are fewer than 2^32
pub record IsDealList (orders : List Order) (deals : List Deal) : Type 0 where
  pub named : All (NamesOrders orders) deals
  pub rising : AllPairs (λ d e. d.place < e.place) deals
  pub fits_indices : length deals < 2 ^ 32

-- its numbers are a quantity and a price
abbrev pub DealInRange : (d : Deal) → Type 0
DealInRange d = AreInRange d.quantity d.price

-- each deal of the list has such numbers
abbrev pub DealsInRange : (deals : List Deal) → Type 0
DealsInRange deals = All DealInRange deals
