-- What a phase leaves of each order, by numbers that are kept of them.
use Rattle.std.specs.Prelude.{◌≤◌, ℕ, ◌+◌, ◌-◌, Bool, true, ◌&&◌, not, nat_lt, List, Option, None, Some, All, is_some, if◌then◌else◌}
use Rattle.audit_base.specs.declared.orders.Order.{Order}
use Rattle.audit_base.specs.declared.orders.Deal.{Deal}
use Rattle.audit_base.specs.Orders.{order_at, place_at, may_rest}
use Rattle.audit_base.specs.Continuous.{cause, is_cancelled_at_place, uncancelled_before, size_of_order}
use Rattle.audit_base.specs.ContinuousRules.{ConformsContinuous}
use Rattle.audit_base.specs.Deals.{AreTotals, number_at}
use Rattle.session_audit.specs.PhaseOrders.{list_below, left_after_continuous}

-- what a call leaves of an order that has traded this much
abbrev pub call_leaves : Order → ℕ → ℕ
call_leaves o traded = if is_some o.cancelled then 0 else o.quantity - traded

-- what a call leaves of the first n orders, which have traded this much
abbrev pub left_numbers_after_call : List Order → List ℕ → ℕ → List ℕ
left_numbers_after_call orders traded n =
    list_below (λ i. call_leaves (order_at orders i) (number_at traded i)) n

-- a continuous phase that conforms, with what each order traded in it
pub record HasContinuousTotals (orders : List Order) (deals : List Deal) (traded : List ℕ)
    : Type 0 where
  pub conforms : ConformsContinuous orders deals
  pub totals : AreTotals orders deals traded

-- no deal has a cause after this place
abbrev pub EndsBy : List Order → List Deal → ℕ → Type 0
EndsBy orders deals last = All (λ d. cause orders d ≤ last) deals

-- the order was there before the place, and its life is Rests
abbrev pub waits_before : Order → ℕ → Bool
waits_before o p = may_rest o.life && nat_lt o.place p

-- the order rests before the place, if it has this size and has traded this much
abbrev pub rests_before_with : Order → ℕ → ℕ → ℕ → Bool
rests_before_with o p size traded =
    waits_before o p && (uncancelled_before o.cancelled p && nat_lt traded size)

-- an order has no target, or one that rests before the place p
abbrev pub target_rests_before : List Order → List ℕ → List ℕ → ℕ → Option ℕ → Bool
target_rests_before orders traded sizes p None = true
target_rests_before orders traded sizes p (Some t) =
    rests_before_with (order_at orders t) p (number_at sizes t) (number_at traded t)

-- the order at i has no target, or one that rests before its own place
abbrev pub has_resting_target : List Order → List ℕ → List ℕ → ℕ → Bool
has_resting_target orders traded sizes i =
    target_rests_before orders traded sizes (place_at orders i) (order_at orders i).target

-- the size of an order, where it is known whether its target rests
abbrev pub size_if_target_rests : Order → Bool → ℕ → ℕ
size_if_target_rests o target_rests chain_traded =
    if not (is_cancelled_at_place o.cancelled o.place) && target_rests
    then o.quantity - chain_traded else 0

-- the sizes of the first n orders
abbrev pub sizes_below : List Order → List Deal → ℕ → List ℕ
sizes_below orders deals n = list_below (size_of_order orders deals) n

-- what a continuous phase that ends at `last` leaves of an order, if it has this size and has
-- traded this much
abbrev pub continuous_leaves : Order → ℕ → ℕ → ℕ → ℕ
continuous_leaves o last size traded =
    if rests_before_with o (last + 1) size traded then size - traded else 0

-- what such a phase leaves of the first n orders
abbrev pub left_numbers_after_continuous : List Order → List Deal → ℕ → ℕ → List ℕ
left_numbers_after_continuous orders deals last n =
    list_below (left_after_continuous orders deals last) n
