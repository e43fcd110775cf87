-- The numbering of the orders in which the families of their nodes are ranges.
use Rattle.std.specs.Prelude.{◌≡◌, ◌<◌, ◌≤◌, ◌+◌, ◌==◌, nat_le, ℕ, List, Option, None, Some, length, if◌then◌else◌}
use Rattle.audit_base.specs.declared.orders.Order.{Order}
use Rattle.audit_base.specs.Deals.{number_at}
use Rattle.audit_base.specs.Orders.{order_at}
use Rattle.audit_base.specs.Sums.{sum_below}
use Rattle.order_arrivals.specs.declared.families.Families.{Families}

-- the node of a target, and the parent of the node of an order: the order at index k is node
-- k + 1, and node 0 is the parent of the orders that replace none
abbrev pub node_of_target : Option ℕ → ℕ
node_of_target None = 0
node_of_target (Some target) = target + 1

abbrev pub parent_of : List Order → ℕ → ℕ
parent_of orders order = node_of_target (order_at orders order).target

-- the size of the family of an order, where its parent is this node, else nothing
abbrev pub size_under : List Order → List ℕ → ℕ → ℕ → ℕ
size_under orders sizes node order =
    if parent_of orders order == node then number_at sizes (order + 1) else 0

-- a family is the node and the families of its children; that of node 0 is all nodes
pub record AreFamilySizes (orders : List Order) (sizes : List ℕ) : Type 0 where
  pub count : length sizes ≡ length orders + 1
  pub each : (node : ℕ) → node ≤ length orders → number_at sizes node
      ≡ 1 + sum_below (size_under orders sizes node) (length orders)
  pub whole : number_at sizes 0 ≡ length orders + 1

-- where the orders from an index on have been added to the families of their parents
pub record AreFamilySizesFrom (orders : List Order) (from : ℕ) (sizes : List ℕ) : Type 0 where
  pub count : length sizes ≡ length orders + 1
  pub inside : from ≤ length orders
  pub each : (node : ℕ) → node ≤ length orders → number_at sizes node
      ≡ 1 + sum_below (λ order. if nat_le from order then size_under orders sizes node order else 0)
      (length orders)
  pub whole : number_at sizes 0 + sum_below (λ order. number_at sizes (order + 1)) from
      ≡ length orders + 1

-- the own number of each node: a family begins with its node, and the families of the children
-- follow each other behind it
pub record AreFamilyStarts (orders : List Order) (sizes : List ℕ) (upto : ℕ) (starts : List ℕ)
    : Type 0 where
  pub count : length starts ≡ length orders + 1
  pub root : number_at starts 0 ≡ 0
  pub each : (order : ℕ) → order < upto → number_at starts (order + 1)
      ≡ number_at starts (parent_of orders order) + 1
      + sum_below (size_under orders sizes (parent_of orders order)) order

-- the first number of each family that no node has yet, when the first orders have theirs
pub record AreFreeNumbers (orders : List Order) (sizes : List ℕ) (upto : ℕ) (starts free : List ℕ)
    : Type 0 where
  pub count : length free ≡ length orders + 1
  pub each : (node : ℕ) → node ≤ upto → number_at free node
      ≡ number_at starts node + 1 + sum_below (size_under orders sizes node) upto

-- the families of the orders of a list
pub record AreFamilies (orders : List Order) (f : Families) : Type 0 where
  pub sizes : AreFamilySizes orders f.sizes.items
  pub starts : AreFamilyStarts orders f.sizes.items (length orders) f.starts.items
