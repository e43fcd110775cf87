-- What each order is in a phase, by one number that is kept of it: its quantity there, or 0
-- where it is gone.
use Rattle.std.specs.Prelude.{ℕ, ◌-◌, Bool, true, not, ◌&&◌, nat_lt, List, Option, None, Some, if◌then◌else◌}
use Rattle.audit_base.specs.declared.orders.Order.{Order}
use Rattle.audit_base.specs.Orders.{order_at}
use Rattle.audit_base.specs.Continuous.{is_cancelled_at_place}
use Rattle.audit_base.specs.Deals.{number_at}
use Rattle.session_audit.specs.Leaving.{size_if_target_rests}
use Rattle.session_audit.specs.PhaseOrders.{RoleInPhase, Carried, Own, Gone, role_in_phase, phase_order, list_below}

-- the number that is kept of an order
abbrev pub amount_in_phase : RoleInPhase → ℕ
amount_in_phase (Carried left) = left
amount_in_phase (Own quantity) = quantity
amount_in_phase Gone = 0

-- what an order is in the phase that begins at `first`, by its number
abbrev pub role_of_amount : ℕ → ℕ → Order → RoleInPhase
role_of_amount first amount o = if nat_lt 0 amount
    then (if nat_lt o.place first then Carried amount else Own amount)
    else Gone

-- the order has no target, or one whose number is not 0
abbrev pub target_has_amount : Option ℕ → List ℕ → Bool
target_has_amount None amounts = true
target_has_amount (Some t) amounts = nat_lt 0 (number_at amounts t)

-- the number of the order at an index, from the numbers of the orders before it
abbrev pub amount_by_earlier : List Order → ℕ → List ℕ → List ℕ → List ℕ → ℕ → ℕ
amount_by_earlier orders first left chain_traded amounts i = let o = order_at orders i in
    if nat_lt o.place first then number_at left i
    else size_if_target_rests o (target_has_amount o.target amounts) (number_at chain_traded i)

-- the numbers of the first n orders
abbrev pub amounts_below : List Order → ℕ → List ℕ → List ℕ → ℕ → List ℕ
amounts_below orders first left chain_traded n =
    let role = role_in_phase orders first (number_at left) (number_at chain_traded) in
    list_below (λ i. amount_in_phase (role i)) n

-- the first n orders as the list of the phase has them, by their numbers
abbrev pub phase_list_by_amounts : List Order → ℕ → ℕ → List ℕ → ℕ → List Order
phase_list_by_amounts orders first last amounts n =
    list_below (λ i. let o = order_at orders i in
    phase_order last o (role_of_amount first (number_at amounts i) o)) n
