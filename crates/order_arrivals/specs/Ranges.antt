-- What the trees of a sum along a chain have.
use Rattle.std.specs.Prelude.{◌≡◌, ◌<◌, ◌≤◌, ◌+◌, ◌^◌, ℕ, nat_lt, List, length, if◌then◌else◌}
use Rattle.audit_base.specs.Deals.{number_at}
use Rattle.audit_base.specs.Sums.{sum_below}
use Rattle.order_arrivals.specs.declared.sums.ChainSums.TheInside.{Inside}
use Rattle.order_arrivals.specs.declared.families.Families.{Families}
use Rattle.order_arrivals.specs.declared.prefix_sums.PrefixSums.{PrefixSums}
use Rattle.order_arrivals.specs.PrefixSums.{IsSumTree, number_in, total_in}
use Rattle.order_arrivals.specs.Sums.{amount_total}

-- the own number of an order, and the number behind those of its family
abbrev pub start_in : Families → ℕ → ℕ
start_in f order = number_at f.starts.items (order + 1)

abbrev pub end_in : Families → ℕ → ℕ
end_in f order = number_at f.starts.items (order + 1) + number_at f.sizes.items (order + 1)

-- the numbers of a tree are the amounts by a position of each order
pub record AreAmountsBy (amounts : List ℕ) (position : ℕ → ℕ) (s : PrefixSums) : Type 0 where
  pub tree : IsSumTree s
  pub room : length amounts + 1 < s.width
  pub sums : (i : ℕ) → i ≤ s.width → sum_below (number_in s) i
      ≡ sum_below (λ order. if nat_lt (position order) i then number_at amounts order else 0)
      (length amounts)
  pub total : total_in s ≡ amount_total amounts

-- each order has a range of numbers, and the trees have the amounts by their starts and ends
pub record AreRangeSums (s : Inside) : Type 0 where
  pub start_count : length s.families.starts.items ≡ length s.amounts.items + 1
  pub size_count : length s.families.sizes.items ≡ length s.amounts.items + 1
  pub some : (order : ℕ) → order < length s.amounts.items
      → 0 < number_at s.families.sizes.items (order + 1)
  pub within : (order : ℕ) → order < length s.amounts.items
      → end_in s.families order ≤ length s.amounts.items + 1
  pub by_start : AreAmountsBy s.amounts.items (start_in s.families) s.by_start
  pub by_end : AreAmountsBy s.amounts.items (end_in s.families) s.by_end
  pub fits : amount_total s.amounts.items < 2 ^ 128
