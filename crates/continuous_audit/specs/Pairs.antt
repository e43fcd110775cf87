-- The pairs of a bid and an ask that trade with each other.
use Rattle.std.specs.Prelude.{◌≡◌, ◌<◌, ◌≤◌, ◌+◌, ◌⊎◌, ℕ, List, All, AllPairs, EachIndex, Contains, length, map, slice_index_or}
use Rattle.std.specs.Ordering.{nat_cmp, ordering_then}
use Rattle.std.specs.declared.cmp.Ordering.{Ordering}
use Rattle.audit_base.specs.Numbers.{greatest_quantity}
use Rattle.audit_base.specs.declared.terms.Side.{Side}
use Rattle.audit_base.specs.declared.terms.Side.TheVariants.{Buy, Sell}
use Rattle.audit_base.specs.declared.orders.Order.{Order}
use Rattle.audit_base.specs.declared.orders.Deal.{Deal}
use Rattle.audit_base.specs.Deals.{deal_at}
use Rattle.audit_base.specs.Continuous.{traded_before}
use Rattle.audit_base.specs.Expected.{pair_share, resting_limit}
use Rattle.continuous_audit.specs.declared.fills.Fill.{Fill}
use Rattle.continuous_audit.specs.declared.pairs.FillPair.{FillPair}

-- what is given past the end of a list of pairs, and the pair at an index
abbrev pub fill_pair_past_end : FillPair
fill_pair_past_end = record { bid = 0; ask = 0; quantity = 0 }

abbrev pub fill_pair_at : List FillPair → ℕ → FillPair
fill_pair_at pairs index = slice_index_or pairs index fill_pair_past_end

-- the pair of an incoming order of a side and a fill
abbrev pub fill_pair : Side → ℕ → Fill → FillPair
fill_pair Buy order fill = record { bid = order; ask = fill.index; quantity = fill.quantity }
fill_pair Sell order fill = record { bid = fill.index; ask = order; quantity = fill.quantity }

-- the bid and the ask of a pair
abbrev pub fill_pair_orders : FillPair → ℕ × ℕ
fill_pair_orders p = (p.bid, p.ask)

-- a pair is before another: by the bid, and then by the ask
abbrev pub FillPairBefore : FillPair → FillPair → Type 0
FillPairBefore p q = (p.bid < q.bid) ⊎ ((p.bid ≡ q.bid) × (p.ask < q.ask))

-- two pairs differ in the bid or in the ask
abbrev pub FillPairsDiffer : FillPair → FillPair → Type 0
FillPairsDiffer p q = (p.bid ≡ q.bid) → (p.ask ≡ q.ask) → ⊥

-- how pairs compare
abbrev pub fill_pair_cmp : FillPair → FillPair → Ordering
fill_pair_cmp p q = ordering_then (nat_cmp p.bid q.bid)
    (ordering_then (nat_cmp p.ask q.ask) (nat_cmp p.quantity q.quantity))

-- a pair of two of the first n orders, with its share under these deals
pub record IsSharedPair (orders : List Order) (deals : List Deal) (n : ℕ)
    (p : FillPair) : Type 0 where
  pub bid_inside : p.bid < n
  pub ask_inside : p.ask < n
  pub is : p.quantity ≡ pair_share orders (traded_before orders deals) p.bid p.ask

-- of the first n orders exactly the pairs that have a share, each once
pub record AreSharedPairs (orders : List Order) (deals : List Deal) (n : ℕ)
    (pairs : List FillPair) : Type 0 where
  pub each : All (IsSharedPair orders deals n) pairs
  pub complete : (bid ask : ℕ) → bid < n → ask < n
      → 0 < pair_share orders (traded_before orders deals) bid ask
      → Contains (map fill_pair_orders pairs) (bid, ask)
  pub apart : AllPairs FillPairsDiffer pairs

-- a pair of orders below a count, of a quantity that a deal may have
pub record IsFillPairInRange (count : ℕ) (p : FillPair) : Type 0 where
  pub bid_inside : p.bid < count
  pub ask_inside : p.ask < count
  pub some : 0 < p.quantity
  pub most : p.quantity ≤ greatest_quantity

-- the deal of a pair, with a number, at the limit of the earlier order
abbrev pub fill_pair_deal : List Order → ℕ → FillPair → Deal
fill_pair_deal orders number p = record {
  place = number;
  bid = p.bid;
  ask = p.ask;
  quantity = p.quantity;
  price = resting_limit orders p.bid p.ask;
}

-- one deal for each pair, numbered from 1
pub record AreFillPairDeals (orders : List Order) (pairs : List FillPair)
    (deals : List Deal) : Type 0 where
  pub count : length deals ≡ length pairs
  pub each : EachIndex pairs (λ k. deal_at deals k
      ≡ fill_pair_deal orders (k + 1) (fill_pair_at pairs k))
