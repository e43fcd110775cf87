-- The best of the orders so far that pass a test of their index.
use Rattle.std.specs.Prelude.{◌≡◌, ◌<◌, ℕ, Bool, true, false, List, Option, None, Some, if◌then◌else◌}
use Rattle.audit_base.specs.declared.orders.Order.{Order}
use Rattle.audit_base.specs.Orders.{order_at}
use Rattle.audit_base.specs.Priority.{better, Better}

-- the order at i, one of those below n, passes, and none of those that pass is better
pub record IsBestBelow (orders : List Order) (test : ℕ → Bool) (n i : ℕ) : Type 0 where
  pub below : i < n
  pub passes : test i ≡ true
  pub none_better : (j : ℕ) → j < n → test j ≡ true → Better orders j i → ⊥

-- the best of the orders below n that pass, if one does
abbrev pub IsFoundBelow : List Order → (ℕ → Bool) → ℕ → Option ℕ → Type 0
IsFoundBelow orders test n None = (j : ℕ) → j < n → test j ≡ false
IsFoundBelow orders test n (Some i) = IsBestBelow orders test n i

-- the better of the order at n and another one, if there is one
abbrev pub better_of : List Order → Option ℕ → ℕ → ℕ
better_of orders None n = n
better_of orders (Some i) n = if better (order_at orders n) (order_at orders i) then n else i

-- the best up to the order at n, from the best before it
abbrev pub next_best : List Order → (ℕ → Bool) → Option ℕ → ℕ → Option ℕ
next_best orders test held n = if test n then Some (better_of orders held n) else held
