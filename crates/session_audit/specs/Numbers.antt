-- Numbers that are kept of the orders, by their indices.
use Rattle.std.specs.Prelude.{◌≡◌, ◌<◌, ◌≤◌, ℕ, ◌+◌, ◌*◌, ◌^◌, List, Option, None, Some, slice_index_or, sum_by}
use Rattle.audit_base.specs.declared.orders.Order.{Order}
use Rattle.audit_base.specs.Orders.{quantity_at}
use Rattle.audit_base.specs.Continuous.{chain}
use Rattle.audit_base.specs.Deals.{number_at}
use Rattle.session_audit.specs.PhaseOrders.{list_below}

-- no number is above the written quantity of its order
abbrev pub WithinQuantities : List Order → List ℕ → Type 0
WithinQuantities orders numbers = (i : ℕ) → number_at numbers i ≤ quantity_at orders i

-- each number is at most 2^72, which 2^32 deals of 10^12 do not reach
abbrev pub AreBoundedTotals : List ℕ → Type 0
AreBoundedTotals numbers = (i : ℕ) → number_at numbers i ≤ 2 ^ 72

-- the target of an order is an index of both lists
abbrev pub IsTargetInside : Option ℕ → ℕ → ℕ → Type 0
IsTargetInside target n m = (t : ℕ) → target ≡ Some t → (t < n) × (t < m)

-- the two numbers of the target of an order, added, are below 2^128
abbrev pub TargetTotalFits : Option ℕ → List ℕ → List ℕ → Type 0
TargetTotalFits target traded totals =
    (t : ℕ) → target ≡ Some t → number_at traded t + number_at totals t < 2 ^ 128

-- what the target of an order and the chain of the target have traded
abbrev pub target_total : Option ℕ → List ℕ → List ℕ → ℕ
target_total None traded totals = 0
target_total (Some t) traded totals = number_at traded t + number_at totals t

-- what the orders of the chain of an order have traded
abbrev pub total_of_chain : List Order → List ℕ → ℕ → ℕ
total_of_chain orders traded i = sum_by (number_at traded) (chain orders i)

-- the numbers are what the chains of the first n orders have traded, each at most 2^72 for each
-- order before its own
pub record AreChainTotals (orders : List Order) (traded : List ℕ) (n : ℕ)
    (totals : List ℕ) : Type 0 where
  pub are : totals ≡ list_below (total_of_chain orders traded) n
  pub bounded : (i : ℕ) → i < n → number_at totals i ≤ i * 2 ^ 72
