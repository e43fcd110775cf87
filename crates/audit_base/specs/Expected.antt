-- Expected trades: the one list of trades that the product writes for a history, under `uniform`,
-- `maximum` and `continuous`.
use Rattle.std.specs.Prelude.{◌≡◌, ℕ, ◌-◌, min, Bool, ◌&&◌, nat_lt, nat_le, List, ◌∷◌, Option, map, filter_map, flat_map, length, if◌then◌else◌, decimal}
use Rattle.std.specs.List.{enumerate_from, range_with_len}
use Rattle.audit_base.specs.declared.terms.Side.{Side}
use Rattle.audit_base.specs.declared.terms.Side.TheVariants.{Buy, Sell}
use Rattle.audit_base.specs.declared.terms.Rule.{Rule}
use Rattle.audit_base.specs.declared.terms.Rule.TheVariants as rule
use Rattle.audit_base.specs.declared.terms.VolumeRule.TheVariants as of_volume
use Rattle.audit_base.specs.declared.records.TradeRecord.{TradeRecord}
use Rattle.audit_base.specs.declared.orders.Order.{Order}
use Rattle.audit_base.specs.declared.orders.Deal.{Deal}
use Rattle.audit_base.specs.Least.{only_if}
use Rattle.audit_base.specs.Sums.{sum_below}
use Rattle.audit_base.specs.Orders.{order_at, place_at, side_at, limit_at, same_side, other_side}
use Rattle.audit_base.specs.Priority.{better}
use Rattle.audit_base.specs.Bounds.{IsBoundPrice}
use Rattle.audit_base.specs.Continuous.{incoming_order, traded_before, size_in_ledger, left_before_in_ledger, rests_before_in_ledger}
use Rattle.audit_base.specs.Calls.{IsGreatestVolume, IsGreatestUniformVolume}
use Rattle.audit_base.specs.Units.{uniform_units, maximum_units, if_both_uncancelled}

-- the deal of a bid and an ask, if its quantity is above 0
abbrev pub pair_deal : (quantity price : ℕ → ℕ → ℕ) (bid ask : ℕ) → Option Deal
pair_deal quantity price bid ask = only_if (nat_lt 0 (quantity bid ask))
    (record { place = 0; bid = bid; ask = ask; quantity = quantity bid ask; price = price bid ask })

-- one deal for each pair of a quantity above 0, in order of the bid and then of the ask, with the
-- places 1, 2 and so on
unfoldable pub pair_deals : (orders : List Order) (quantity price : ℕ → ℕ → ℕ) → List Deal
pair_deals orders quantity price = let indices = range_with_len 0 (length orders) in
    map (λ e. record e.1 { place = e.0 }) (enumerate_from 1
    (flat_map (λ bid. filter_map (pair_deal quantity price bid) indices) indices))

-- `uniform`: with the greatest volume and its bound, the pairs of units at the price of the bound
abbrev pub uniform_deals : (orders : List Order) (v bound : ℕ) → List Deal
uniform_deals orders v bound =
    pair_deals orders (if_both_uncancelled orders (uniform_units orders v)) (λ bid ask. bound)

-- they are the Expected trades
pub record IsExpectedUniform (orders : List Order) (deals : List Deal) : Type 0 where
  pub most : ℕ
  pub bound : ℕ
  pub greatest : IsGreatestUniformVolume orders most
  pub is_bound : IsBoundPrice of_volume.Uniform orders most bound
  pub pairs : deals ≡ uniform_deals orders most bound

-- `maximum`: with the greatest volume, the pairs of units at the ask's limit
abbrev pub maximum_deals : (orders : List Order) (v : ℕ) → List Deal
maximum_deals orders v =
    pair_deals orders (if_both_uncancelled orders (maximum_units orders v))
    (λ bid ask. limit_at orders ask)

-- they are the Expected trades
pub record IsExpectedMaximum (orders : List Order) (deals : List Deal) : Type 0 where
  pub most : ℕ
  pub greatest : IsGreatestVolume orders most
  pub pairs : deals ≡ maximum_deals orders most

-- a limit of one side meets one of the other: the bid's is at least the ask's
abbrev pub limits_meet : (side : Side) (limit other : ℕ) → Bool
limits_meet Buy limit other = nat_le other limit
limits_meet Sell limit other = nat_le limit other

-- two orders are of opposite sides and their limits meet
abbrev pub orders_meet : (first second : Order) → Bool
orders_meet first second =
    same_side (other_side first.side) second.side && limits_meet first.side first.limit second.limit

-- what the incoming order finds of a resting one: its Left, where it is of the other side,
-- meets the incoming one and rests before the record of the incoming one
unfoldable pub available_quantity : (orders : List Order) (ledger : ℕ → ℕ → ℕ)
    (incoming resting : ℕ) → ℕ
available_quantity orders ledger incoming resting =
    if orders_meet (order_at orders incoming) (order_at orders resting)
    && rests_before_in_ledger orders ledger (place_at orders incoming) resting
    then left_before_in_ledger orders ledger (place_at orders incoming) resting else 0

-- what it finds of all orders that are better than the resting one
abbrev pub available_quantity_ahead : (orders : List Order) (ledger : ℕ → ℕ → ℕ)
    (incoming resting : ℕ) → ℕ
available_quantity_ahead orders ledger incoming resting =
    sum_below (λ ahead. if better (order_at orders ahead) (order_at orders resting)
    then available_quantity orders ledger incoming ahead else 0) (length orders)

-- what the two trade: the smaller of what the incoming order finds of the resting one, and what
-- the better ones leave of the Size of the incoming order
abbrev pub incoming_share : (orders : List Order) (ledger : ℕ → ℕ → ℕ) (incoming resting : ℕ) → ℕ
incoming_share orders ledger incoming resting =
    min (available_quantity orders ledger incoming resting)
    (size_in_ledger orders ledger incoming
    - available_quantity_ahead orders ledger incoming resting)

-- the same of a bid and an ask, of which the later is the incoming one
unfoldable pub pair_share : (orders : List Order) (ledger : ℕ → ℕ → ℕ) (bid ask : ℕ) → ℕ
pair_share orders ledger bid ask =
    if same_side (side_at orders bid) Buy && same_side (side_at orders ask) Sell
    then (if nat_lt (place_at orders bid) (place_at orders ask)
    then incoming_share orders ledger ask bid else incoming_share orders ledger bid ask) else 0

-- the limit of the earlier of the two
abbrev pub resting_limit : (orders : List Order) (bid ask : ℕ) → ℕ
resting_limit orders bid ask =
    if nat_lt (place_at orders bid) (place_at orders ask)
    then limit_at orders bid else limit_at orders ask

-- `continuous`: each pair trades its share under these same deals, of which a share takes those of
-- earlier causes alone, at the limit of the resting order
abbrev pub IsExpectedContinuous : (orders : List Order) (deals : List Deal) → Type 0
IsExpectedContinuous orders deals = deals ≡
    pair_deals orders (pair_share orders (traded_before orders deals)) (resting_limit orders)

-- Expected trades of the rule
abbrev pub IsExpected : (the_rule : Rule) (orders : List Order) (deals : List Deal) → Type 0
IsExpected rule.Uniform orders deals = IsExpectedUniform orders deals
IsExpected rule.Maximum orders deals = IsExpectedMaximum orders deals
IsExpected rule.Continuous orders deals = IsExpectedContinuous orders deals
IsExpected rule.Matching orders deals = ⊥
IsExpected rule.Fair orders deals = ⊥

-- the trade record of a deal: the id is T and its number from 1,
-- the time that of the later of its two orders
abbrev pub trade_of_deal : (orders : List Order) (symbol : List ℕ) (number : ℕ) (d : Deal)
    → TradeRecord
trade_of_deal orders symbol number d = record {
  trade = 84 ∷ decimal number;
  time = (order_at orders (incoming_order orders d)).time;
  symbol = symbol;
  buy = (order_at orders d.bid).key;
  sell = (order_at orders d.ask).key;
  quantity = d.quantity;
  price = d.price;
}

-- one record for each deal, in their order
abbrev pub trades_of_deals : (orders : List Order) (symbol : List ℕ) (deals : List Deal)
    → List TradeRecord
trades_of_deals orders symbol deals =
    map (λ e. trade_of_deal orders symbol e.0 e.1) (enumerate_from 1 deals)
