-- The rule of continuous trading, by what each order trades with the incoming one.
use Rattle.std.specs.Prelude.{◌≡◌, ◌≤◌, ◌<◌, ◌⊎◌, ℕ, zero, suc, Bool, true, false, ◌==◌, nat_le, nat_lt, List, [], ◌∷◌, ◌++◌, Some, All, length, if◌then◌else◌, ◌&&◌}
use Rattle.audit_base.specs.declared.terms.Side.{Side}
use Rattle.audit_base.specs.declared.terms.Side.TheVariants.{Buy, Sell}
use Rattle.audit_base.specs.declared.terms.Life.TheVariants.{Rests}
use Rattle.audit_base.specs.declared.orders.Order.{Order}
use Rattle.audit_base.specs.declared.orders.Deal.{Deal}
use Rattle.audit_base.specs.Orders.{order_at, place_at, other_side}
use Rattle.audit_base.specs.Priority.{outranks}
use Rattle.audit_base.specs.Deals.{names_order, KeepsLimits}
use Rattle.audit_base.specs.Continuous.{cause, traded_before, traded_at, uncancelled_before, size_in_ledger, rests_before_in_ledger, left_before_in_ledger}
use Rattle.continuous_laws.specs.Fills.{share_by_rank}

-- the order at k is active after the record at place i: it came with the record, or it came before
-- and its life is Rests; no record up to i cancels it, and something is left of it
pub record IsActive (orders : List Order) (ledger : ℕ → ℕ → ℕ) (i k : ℕ) : Type 0 where
  pub here : (place_at orders k ≡ i) ⊎ (((order_at orders k).life ≡ Rests)
      × (place_at orders k < i))
  pub stands_yet : uncancelled_before (order_at orders k).cancelled (suc i) ≡ true
  pub has_left : ledger (suc i) k < size_in_ledger orders ledger k

-- an order of the first side and limit can trade with one of the second: they are a bid and an ask,
-- and the bid's limit is at least the ask's
abbrev pub sides_and_limits_meet : Side → Side → ℕ → ℕ → Bool
sides_and_limits_meet Buy Buy a b = false
sides_and_limits_meet Buy Sell a b = nat_le b a
sides_and_limits_meet Sell Buy a b = nat_le a b
sides_and_limits_meet Sell Sell a b = false

-- two orders can trade with each other by their sides and limits
abbrev pub orders_meet_by_sides : Order → Order → Bool
orders_meet_by_sides o r = sides_and_limits_meet o.side r.side o.limit r.limit

-- the places of the orders rise, and each target is before the order that replaces it
pub record IsInLogOrder (orders : List Order) : Type 0 where
  pub rising : (i j : ℕ) → i < j → j < length orders → place_at orders i < place_at orders j
  pub targets : (k t : ℕ) → k < length orders → (order_at orders k).target ≡ Some t → t < k

-- a deal of a bid and an ask
pub record NamesBidAndAsk (orders : List Order) (d : Deal) : Type 0 where
  pub bid : d.bid < length orders
  pub ask : d.ask < length orders
  pub buys : (order_at orders d.bid).side ≡ Buy
  pub sells : (order_at orders d.ask).side ≡ Sell

-- the order at k is the resting one of a deal: the deal names it, and its record is before the
-- cause of the deal
abbrev pub IsRestingOrderOf : List Order → Deal → ℕ → Type 0
IsRestingOrderOf orders d k = (names_order k d ≡ true) × (place_at orders k < cause orders d)

-- the rule holds at the record at place i: its deals keep the limits and are with orders that rest,
-- no order has traded more than its size, each order that rests and outranks one that traded has
-- nothing left after it, and no two orders that are active after it can trade with each other
pub record RuleHoldsAt (orders : List Order) (deals : List Deal) (i : ℕ) : Type 0 where
  pub limits : All (λ d. cause orders d ≡ i → KeepsLimits orders d) deals
  pub resting : All (λ d. cause orders d ≡ i → (k : ℕ) → IsRestingOrderOf orders d k
      → rests_before_in_ledger orders (traded_before orders deals) i k ≡ true) deals
  pub within : (k : ℕ) → k < length orders
      → traded_before orders deals (suc i) k ≤ size_in_ledger orders (traded_before orders deals) k
  pub priority : All (λ d. cause orders d ≡ i → (j k : ℕ) → IsRestingOrderOf orders d j
      → k < length orders → rests_before_in_ledger orders (traded_before orders deals) i k ≡ true
      → (order_at orders k).side ≡ (order_at orders j).side
      → outranks (order_at orders j).side (order_at orders k) (order_at orders j) ≡ true
      → size_in_ledger orders (traded_before orders deals) k
      ≤ traded_before orders deals (suc i) k) deals
  pub spread : (j k : ℕ) → j < length orders → k < length orders
      → IsActive orders (traded_before orders deals) i j
      → IsActive orders (traded_before orders deals) i k
      → orders_meet_by_sides (order_at orders j) (order_at orders k) ≡ false

-- every deal is of a bid and an ask, and the rule holds at each place
pub record RuleHoldsEverywhere (orders : List Order) (deals : List Deal) : Type 0 where
  pub sound : All (NamesBidAndAsk orders) deals
  pub each : (i : ℕ) → RuleHoldsAt orders deals i

-- what an incoming order can take of one that rests
unfoldable pub available_to_incoming : List Order → (ℕ → ℕ → ℕ) → ℕ → ℕ → ℕ
available_to_incoming orders ledger n k =
    if orders_meet_by_sides (order_at orders n) (order_at orders k)
    && rests_before_in_ledger orders ledger (place_at orders n) k
    then left_before_in_ledger orders ledger (place_at orders n) k else 0

-- against the incoming order at n, the order at k outranks the order at j, both taken as of the
-- side opposite to n's
abbrev pub ranks_ahead_against : List Order → ℕ → ℕ → ℕ → Bool
ranks_ahead_against orders n k j =
    outranks (other_side (order_at orders n).side) (order_at orders k)
    (order_at orders j)

-- what the resting orders trade with the order at n
unfoldable pub traded_with_incoming : List Order → List Deal → ℕ → ℕ → ℕ
traded_with_incoming orders deals n k =
    if k == n then 0 else traded_at orders deals (place_at orders n) k

-- each pair trades its share
pub record TradesAreShares (orders : List Order) (deals : List Deal) : Type 0 where
  pub sound : All (NamesBidAndAsk orders) deals
  pub some : All (λ d. 0 < d.quantity) deals
  pub limits : All (KeepsLimits orders) deals
  pub shares : (n k : ℕ) → n < length orders → k < length orders
      → traded_with_incoming orders deals n k
      ≡ share_by_rank (length orders) (ranks_ahead_against orders n)
      (available_to_incoming orders (traded_before orders deals) n)
      (size_in_ledger orders (traded_before orders deals) n) k

-- The expected trades, one incoming order after another.
abbrev pub deal_by_side : Side → ℕ → ℕ → ℕ → ℕ → Deal
deal_by_side Buy n k quantity price =
    record { place = 0; bid = n; ask = k; quantity = quantity; price = price }
deal_by_side Sell n k quantity price =
    record { place = 0; bid = k; ask = n; quantity = quantity; price = price }

-- the deal of the incoming order at n and the resting order at k, at the limit of the resting one
abbrev pub deal_with_resting : List Order → ℕ → ℕ → ℕ → Deal
deal_with_resting orders n k quantity = deal_by_side (order_at orders n).side n k quantity
    (order_at orders k).limit

-- the deals of the incoming order at n with the orders below k, one with each whose share is above
-- 0, in the order of the list
abbrev pub deals_with_resting : List Order → ℕ → (ℕ → ℕ) → ℕ → List Deal
deals_with_resting orders n shares zero = []
deals_with_resting orders n shares (suc k) =
    deals_with_resting orders n shares k ++ (if nat_lt 0 (shares k)
    then deal_with_resting orders n k (shares k) ∷ [] else [])

-- what the resting order at k trades with the incoming one at n: the smaller of what is available
-- of it, and what those that rank ahead of it leave of the size of the incoming one
abbrev pub share_with_incoming : List Order → List Deal → ℕ → ℕ → ℕ
share_with_incoming orders deals n k = share_by_rank (length orders) (ranks_ahead_against orders n)
    (available_to_incoming orders (traded_before orders deals) n)
    (size_in_ledger orders (traded_before orders deals) n) k

-- the deals so far, then those of the incoming order at n
abbrev pub deals_with_next_order : List Order → List Deal → ℕ → List Deal
deals_with_next_order orders deals n =
    deals ++ deals_with_resting orders n (share_with_incoming orders deals n) (length orders)

-- the expected deals of the first n orders, one incoming order after another
abbrev pub expected_deals_below : List Order → ℕ → List Deal
expected_deals_below orders zero = []
expected_deals_below orders (suc n) = deals_with_next_order orders (expected_deals_below orders n) n
