-- Orders and order lists. An order is named by its index in the order list, from 0.
use Rattle.std.specs.Prelude.{◌≡◌, ◌≢◌, ◌<◌, ◌^◌, ℕ, Bool, true, false, ◌&&◌, List, [], Option, None, Some, is_none, AllPairs, All, length, slice_index_or, bytes_eq}
use Rattle.audit_base.specs.declared.names.Key.{Key}
use Rattle.audit_base.specs.declared.terms.Side.{Side}
use Rattle.audit_base.specs.declared.terms.Side.TheVariants.{Buy, Sell}
use Rattle.audit_base.specs.declared.terms.Life.{Life}
use Rattle.audit_base.specs.declared.terms.Life.TheVariants.{Rests, Immediate, Market}
use Rattle.audit_base.specs.declared.orders.Order.{Order}
use Rattle.audit_base.specs.Numbers.{market_price, AreInRange}
use Rattle.audit_base.specs.Least.{least_with}

-- two names are the same text
abbrev pub same_name : (a b : List ℕ) → Bool
same_name a b = bytes_eq a b

-- two keys have the same firm and the same id
abbrev pub same_key : (a b : Key) → Bool
same_key a b = same_name a.firm b.firm && same_name a.id b.id

-- two sides are the same
abbrev pub same_side : (one other : Side) → Bool
same_side Buy Buy = true
same_side Buy Sell = false
same_side Sell Buy = false
same_side Sell Sell = true

-- bids for asks, and asks for bids
abbrev pub other_side : (side : Side) → Side
other_side Buy = Sell
other_side Sell = Buy

-- an order that is left over from its own record may wait for others
abbrev pub may_rest : (life : Life) → Bool
may_rest Rests = true
may_rest Immediate = false
may_rest Market = false

-- what is read past the end of an order list: an order of quantity 0 that does not rest
abbrev pub order_past_end : Order
order_past_end = record {
  place = 0;
  key = record { firm = []; id = [] };
  time = record { second = 0; nano = 0 };
  side = Buy;
  quantity = 0;
  limit = 0;
  cancelled = None;
  target = None;
  life = Immediate;
}

-- the order at an index
abbrev pub order_at : (orders : List Order) (order : ℕ) → Order
order_at orders order = slice_index_or orders order order_past_end

-- its place, its side, its quantity and its limit
abbrev pub place_at : (orders : List Order) (order : ℕ) → ℕ
place_at orders order = (order_at orders order).place

abbrev pub side_at : (orders : List Order) (order : ℕ) → Side
side_at orders order = (order_at orders order).side

abbrev pub quantity_at : (orders : List Order) (order : ℕ) → ℕ
quantity_at orders order = (order_at orders order).quantity

abbrev pub limit_at : (orders : List Order) (order : ℕ) → ℕ
limit_at orders order = (order_at orders order).limit

-- an order list: places rise strictly, there are fewer than 2^32 orders, each target is a lower
-- index of the same side, and the life of an order with a target is always Rests
pub record IsOrderList (orders : List Order) : Type 0 where
  pub rising : AllPairs (λ first second. first.place < second.place) orders
  pub fits_indices : length orders < 2 ^ 32
  pub targets : (order target : ℕ) → order < length orders
      → (order_at orders order).target ≡ Some target
      → (target < order) × (side_at orders target ≡ side_at orders order)
  pub resting : (order target : ℕ) → order < length orders
      → (order_at orders order).target ≡ Some target
      → (order_at orders order).life ≡ Rests

-- an order of a side that no record cancels
pub record IsUncancelledOn (orders : List Order) (side : Side) (order : ℕ) : Type 0 where
  pub inside : order < length orders
  pub of_side : side_at orders order ≡ side
  pub uncancelled : (order_at orders order).cancelled ≡ None

-- the same as a test of the order
abbrev pub is_uncancelled_on : (side : Side) (o : Order) → Bool
is_uncancelled_on side o = is_none o.cancelled && same_side side o.side

-- no two orders have one key
abbrev pub HaveOwnKeys : (orders : List Order) → Type 0
HaveOwnKeys orders = AllPairs (λ first second. first.key ≢ second.key) orders

-- the order that has a key, of either side and of one side
abbrev pub order_with_key : (orders : List Order) (key : Key) → Option ℕ
order_with_key orders key =
    least_with (λ order. same_key (order_at orders order).key key) (length orders)

abbrev pub order_on_side_with_key : (orders : List Order) (side : Side) (key : Key) → Option ℕ
order_on_side_with_key orders side key =
    least_with (λ order. same_side side (side_at orders order)
    && same_key (order_at orders order).key key)
    (length orders)

-- if the life is Market, the price is the market price of the side
abbrev pub HasMarketPriceIfMarket : (life : Life) (side : Side) (price : ℕ) → Type 0
HasMarketPriceIfMarket life side price = life ≡ Market → price ≡ market_price side

-- its quantity and its limit are a quantity and a price
abbrev pub OrderInRange : (o : Order) → Type 0
OrderInRange o = AreInRange o.quantity o.limit

-- each order of the list has such numbers
abbrev pub OrdersInRange : (orders : List Order) → Type 0
OrdersInRange orders = All OrderInRange orders
