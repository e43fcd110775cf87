-- The ranks that the code sorts in place of the orders of a side.
use Rattle.std.specs.Prelude.{◌≡◌, ◌<◌, ◌-◌, ℕ, List, [], ◌∷◌, All, AllPairs, Contains, if◌then◌else◌}
use Rattle.std.specs.Ordering.{nat_cmp, ordering_then}
use Rattle.std.specs.declared.cmp.Ordering.{Ordering}
use Rattle.audit_base.specs.Numbers.{IsPrice, price_end}
use Rattle.audit_base.specs.declared.terms.Side.{Side}
use Rattle.audit_base.specs.declared.terms.Side.TheVariants.{Buy, Sell}
use Rattle.audit_base.specs.declared.orders.Order.{Order}
use Rattle.audit_base.specs.Orders.{order_at, limit_at, is_uncancelled_on, IsUncancelledOn}
use Rattle.rank_order.specs.declared.ranks.Rank.{Rank}

-- the weight of a limit, of which less is better: of a bid 10^18 less the limit, of an ask the
-- limit itself
abbrev pub weight_of : Side → ℕ → ℕ
weight_of Buy limit = price_end - limit
weight_of Sell limit = limit

-- the rank of an order of a side at an index with this limit
abbrev pub rank_of : Side → ℕ → ℕ → Rank
rank_of side i limit = record { weight = weight_of side limit; index = i }

-- how ranks compare
abbrev pub rank_cmp : Rank → Rank → Ordering
rank_cmp a b = ordering_then (nat_cmp a.weight b.weight) (nat_cmp a.index b.index)

-- the rank of an order of a list
abbrev pub order_rank : ℕ → Order → Rank
order_rank i o = rank_of o.side i o.limit

-- its rank alone where it is of the side and no record cancels it, else no rank
abbrev pub rank_if : Side → ℕ → Order → List Rank
rank_if side i o = if is_uncancelled_on side o then order_rank i o ∷ [] else []

-- the index of a rank
abbrev pub index_of : Rank → ℕ
index_of r = r.index

-- the rank is that of an order of the side that no record cancels, whose limit is a price
pub record IsRankOf (orders : List Order) (side : Side) (r : Rank) : Type 0 where
  pub stands : IsUncancelledOn orders side r.index
  pub is : r ≡ order_rank r.index (order_at orders r.index)
  pub priced : IsPrice (limit_at orders r.index)

-- these are the ranks of the first n orders, by rising index
pub record AreRanks (orders : List Order) (side : Side) (n : ℕ) (ranks : List Rank) : Type 0 where
  pub only : All (IsRankOf orders side) ranks
  pub each : (i : ℕ) → i < n → IsUncancelledOn orders side i
      → Contains ranks (order_rank i (order_at orders i))
  pub within : All (λ r. r.index < n) ranks
  pub rising : AllPairs (λ r s. r.index < s.index) ranks
