-- The orders of a side as steps: each order alone, or the orders of one limit together.
use Rattle.std.specs.Prelude.{◌≡◌, ◌<◌, ℕ, Bool, true, false, List, All, AllPairs, IsTrue, length, map, sum_by}
use Rattle.std.specs.List.{flat_map}
use Rattle.audit_base.specs.declared.terms.Side.{Side}
use Rattle.audit_base.specs.declared.orders.Order.{Order}
use Rattle.audit_base.specs.declared.orders.Deal.{Deal}
use Rattle.audit_base.specs.Deals.{number_at, traded}
use Rattle.audit_base.specs.Orders.{limit_at, quantity_at}
use Rattle.audit_base.specs.Priority.{better_limit}
use Rattle.call_picture.specs.declared.steps.SideStep.{SideStep}

-- A group is some orders of a side, by their indices in the order list, best first.

-- the best order of a group, and its limit
abbrev pub best_of_group : List ℕ → ℕ
best_of_group group = number_at group 0

abbrev pub limit_of_group : List Order → List ℕ → ℕ
limit_of_group orders group = limit_at orders (best_of_group group)

-- the step of a group: the limit of the best of its orders, and their quantities and traded
-- numbers added
abbrev pub step_of_group : List Order → List Deal → List ℕ → SideStep
step_of_group orders deals group = record {
  best = best_of_group group;
  orders = length group;
  limit = limit_of_group orders group;
  quantity = sum_by (quantity_at orders) group;
  traded = sum_by (traded deals) group;
}

-- each order of a group has the limit of the group
abbrev pub HasOneLimit : List Order → List ℕ → Type 0
HasOneLimit orders group = All (λ order. limit_at orders order ≡ limit_of_group orders group) group

-- the first of two limits is the better one of the side
abbrev pub IsBetterLimit : Side → ℕ → ℕ → Type 0
IsBetterLimit side first second = IsTrue (better_limit side first second)

-- ranked orders are cut into these groups, one after another: into groups of one limit each, of
-- which the first is the best, where they are drawn by limit, or else each order into its own
pub record AreGroups (orders : List Order) (side : Side) (by_limit : Bool) (ranks : List ℕ)
    (groups : List (List ℕ)) : Type 0 where
  pub whole : flat_map (λ group. group) groups ≡ ranks
  pub some : All (λ group. 0 < length group) groups
  pub of_one_limit : All (HasOneLimit orders) groups
  pub best_first : by_limit ≡ true
      → AllPairs (IsBetterLimit side) (map (limit_of_group orders) groups)
  pub alone : by_limit ≡ false → All (λ group. length group ≡ 1) groups

-- the steps are those of the groups into which the ranked orders are cut
pub record AreSteps (orders : List Order) (deals : List Deal) (side : Side) (by_limit : Bool)
    (ranks : List ℕ) (steps : List SideStep) : Type 0 where
  pub groups : List (List ℕ)
  pub cut : AreGroups orders side by_limit ranks groups
  pub each : steps ≡ map (step_of_group orders deals) groups
