-- Numbers as the leaves of a tree of sums, in one list of nodes.
use Rattle.std.specs.Prelude.{◌≡◌, ◌<◌, ◌≤◌, ◌+◌, ◌-◌, ◌*◌, ◌^◌, ◌%◌, ◌==◌, ℕ, List, length, if◌then◌else◌}
use Rattle.audit_base.specs.Deals.{number_at}
use Rattle.audit_base.specs.Sums.{sum_below}
use Rattle.order_arrivals.specs.declared.prefix_sums.PrefixSums.{PrefixSums}

-- the number at an index, which is a leaf; and the sum of all numbers, which is the root
abbrev pub number_in : PrefixSums → ℕ → ℕ
number_in s index = number_at s.nodes.items (s.width + index)

abbrev pub total_in : PrefixSums → ℕ
total_in s = number_at s.nodes.items 1

-- each node before the leaves is the sum of its two children
abbrev pub AreNodesSums : List ℕ → ℕ → Type 0
AreNodesSums nodes width = (node : ℕ) → 0 < node → node < width
    → number_at nodes node ≡ number_at nodes (2 * node) + number_at nodes (2 * node + 1)

-- the number is a power of two
abbrev pub IsPowerOfTwo : ℕ → Type 0
IsPowerOfTwo width = (k : ℕ) × (width ≡ 2 ^ k)

-- a tree whose leaves are as many as a power of two
pub record IsSumTree (s : PrefixSums) : Type 0 where
  pub power : IsPowerOfTwo s.width
  pub some : 0 < s.width
  pub count : length s.nodes.items ≡ 2 * s.width
  pub sums : AreNodesSums s.nodes.items s.width

-- more than this many numbers, each 0
pub record AreZeros (count : ℕ) (s : PrefixSums) : Type 0 where
  pub tree : IsSumTree s
  pub more : count < s.width
  pub zeros : (index : ℕ) → number_in s index ≡ 0
  pub total : total_in s ≡ 0

-- the number at an index is this much more, and with it the sum of all
pub record IsAdded (index amount : ℕ) (old new : PrefixSums) : Type 0 where
  pub tree : IsSumTree new
  pub width : new.width ≡ old.width
  pub numbers : (i : ℕ) → i < old.width
      → number_in new i ≡ number_in old i + (if i == index then amount else 0)
  pub total : total_in new ≡ total_in old + amount

-- of two siblings the left one, where the node is the right one; else nothing
abbrev pub left_sibling : List ℕ → ℕ → ℕ
left_sibling nodes node = if node % 2 == 1 then number_at nodes (node - 1) else 0

-- on the way from a leaf to the root: of the nodes of a level, which begins at `first`, those
-- before this one and the sum so far are the numbers before an index
pub record IsSummedUpto (s : PrefixSums) (index node first sum : ℕ) : Type 0 where
  pub power : IsPowerOfTwo first
  pub from : first ≤ node
  pub inside : node < 2 * first
  pub level : first ≤ s.width
  pub whole : sum + sum_below (λ i. number_at s.nodes.items (first + i)) (node - first)
      ≡ sum_below (number_in s) index

-- on the way from a leaf to the root: the nodes below this one on the way have the amount
pub record IsAdding (nodes : List ℕ) (width index amount node : ℕ) (now : List ℕ) : Type 0 where
  pub count : length now ≡ length nodes
  pub inside : node < 2 * width
  pub sums : (j : ℕ) → 0 < j → j < width
      → number_at now j + (if j == node then amount else 0)
      ≡ number_at now (2 * j) + number_at now (2 * j + 1)
  pub same : (j : ℕ) → j ≤ node → number_at now j ≡ number_at nodes j
  pub leaves : (i : ℕ) → i < width
      → number_at now (width + i) + (if width + i == node then amount else 0)
      ≡ number_at nodes (width + i) + (if i == index then amount else 0)
  pub root : node ≡ 0 → number_at now 1 ≡ number_at nodes 1 + amount
