-- Phase list: the order list of each phase, with the orders that earlier phases left.
--
-- In the first part `first` and `last` are the first and the last place of the phase, `left i` is
-- what the phases before left of the order at i, and `chain_traded i` is what its chain traded in
-- them. The second part says the same words of a day, in which a phase is named by its index, from
-- 0.
use Rattle.std.specs.Prelude.{ℕ, zero, suc, ◌-◌, Bool, true, false, ◌&&◌, nat_lt, nat_le, List, [], ◌∷◌, ◌++◌, Option, None, Some, sum_by, slice_index_or, if◌then◌else◌}
use Rattle.std.specs.List.{prefix_len}
use Rattle.audit_base.specs.declared.orders.Order.{Order}
use Rattle.audit_base.specs.declared.orders.Deal.{Deal}
use Rattle.audit_base.specs.Sums.{sum_below}
use Rattle.audit_base.specs.Orders.{order_at, place_at, quantity_at}
use Rattle.audit_base.specs.Deals.{traded}
use Rattle.audit_base.specs.CallOffences.{is_cancelled}
use Rattle.audit_base.specs.Continuous.{chain, is_placed_order, left_after, rests_after}
use Rattle.session_audit.specs.declared.phases.Phase.{Phase}
use Rattle.session_audit.specs.declared.phases.PhaseKind.{PhaseKind}
use Rattle.session_audit.specs.declared.phases.PhaseKind.TheVariants as kind
use Rattle.session_audit.specs.Phases.{phase_kind, first_place, end_place, phase_deals}

-- The first part: one phase.

-- What an order is in a phase: carried from an earlier phase, with what is left of it; an own order
-- of the phase, with its quantity there; or gone.
pub data RoleInPhase : Type 0 where
  Carried : (left : ℕ) → RoleInPhase
  Own : (quantity : ℕ) → RoleInPhase
  Gone : RoleInPhase

-- the order takes part in the phase: it is not gone
abbrev pub takes_part : RoleInPhase → Bool
takes_part (Carried left) = true
takes_part (Own quantity) = true
takes_part Gone = false

-- an order of an earlier phase is carried where something is left of it, else gone
abbrev pub carried_or_gone : ℕ → RoleInPhase
carried_or_gone left = if nat_lt 0 left then Carried left else Gone

-- an order has no target, or one that is not gone; `earlier` has what the orders before it are
abbrev pub target_takes_part : List RoleInPhase → Option ℕ → Bool
target_takes_part earlier None = true
target_takes_part earlier (Some t) = takes_part (slice_index_or earlier t Gone)

-- An order of the phase is own, with its written quantity less what its chain traded. It is gone
-- where it is cancelled at its own place, where its target is gone, or where this quantity is 0.
abbrev pub own_or_gone : List Order → (ℕ → ℕ) → List RoleInPhase → ℕ → RoleInPhase
own_or_gone orders chain_traded earlier i =
    let target_stays = target_takes_part earlier (order_at orders i).target in
    let quantity = quantity_at orders i - chain_traded i in
    if is_placed_order orders i && (target_stays && nat_lt 0 quantity) then Own quantity else Gone

-- what the order at i is in the phase; `earlier` has what the orders before it are
abbrev pub role_after_earlier : List Order → ℕ → (ℕ → ℕ) → (ℕ → ℕ) → List RoleInPhase → ℕ
    → RoleInPhase
role_after_earlier orders first left chain_traded earlier i =
    if nat_lt (place_at orders i) first then carried_or_gone (left i)
    else own_or_gone orders chain_traded earlier i

-- what each of the first n orders is in the phase
unfoldable pub roles_in_phase : List Order → ℕ → (ℕ → ℕ) → (ℕ → ℕ) → ℕ → List RoleInPhase
roles_in_phase orders first left chain_traded zero = []
roles_in_phase orders first left chain_traded (suc n) =
    let earlier = roles_in_phase orders first left chain_traded n in
    earlier ++ role_after_earlier orders first left chain_traded earlier n ∷ []

-- what the order at i is in the phase
abbrev pub role_in_phase : List Order → ℕ → (ℕ → ℕ) → (ℕ → ℕ) → ℕ → RoleInPhase
role_in_phase orders first left chain_traded i =
    role_after_earlier orders first left chain_traded
    (roles_in_phase orders first left chain_traded i) i

-- the place of the record that ends an order, where it is at most `last`
abbrev pub end_through : ℕ → Option ℕ → Option ℕ
end_through last None = None
end_through last (Some c) = if nat_le c last then Some c else None

-- An order in the list of the phase. A carried order has what is left of it as its quantity, and
-- no target. An own order has its quantity there, and its target. Both have their `cancelled`
-- where it is at most `last`. A gone order has its written quantity, no target, and its own
-- place as `cancelled`.
abbrev pub phase_order : ℕ → Order → RoleInPhase → Order
phase_order last o (Carried left) =
    record o { quantity = left; cancelled = end_through last o.cancelled; target = None }
phase_order last o (Own quantity) =
    record o { quantity = quantity; cancelled = end_through last o.cancelled }
phase_order last o Gone = record o { cancelled = Some o.place; target = None }

-- how many orders, from the first on, have a place of at most `last`
abbrev pub order_count_through : List Order → ℕ → ℕ
order_count_through orders last = prefix_len (λ o. nat_le o.place last) orders

-- the list of f(0), f(1) and so on up to f(n - 1)
abbrev pub list_below : {A : Type 0} → (ℕ → A) → ℕ → List A
list_below f zero = []
list_below f (suc n) = list_below f n ++ f n ∷ []

-- the order list of the phase: each order of place at most `last`, at the same index
unfoldable pub phase_list : List Order → ℕ → ℕ → (ℕ → ℕ) → (ℕ → ℕ) → List Order
phase_list orders first last left chain_traded = list_below
    (λ i. phase_order last (order_at orders i) (role_in_phase orders first left chain_traded i))
    (order_count_through orders last)

-- what a call leaves of the order at i, by the order list and the deals of the phase: what it
-- has not traded, but nothing where a record cancels it
abbrev pub left_after_call : List Order → List Deal → ℕ → ℕ
left_after_call orders deals i =
    if is_cancelled orders i then 0 else quantity_at orders i - traded deals i

-- what a continuous phase that ends at `last` leaves of it: what is left then, but nothing where it
-- does not rest then
abbrev pub left_after_continuous : List Order → List Deal → ℕ → ℕ → ℕ
left_after_continuous orders deals last i =
    if rests_after orders deals last i then left_after orders deals last i else 0

-- what a phase of a kind that ends at `last` leaves of it
abbrev pub left_after_phase : PhaseKind → List Order → List Deal → ℕ → ℕ → ℕ
left_after_phase kind.Uniform orders deals last i = left_after_call orders deals i
left_after_phase kind.Maximum orders deals last i = left_after_call orders deals i
left_after_phase kind.Continuous orders deals last i =
    left_after_continuous orders deals last i

-- The second part: the phases of a day.

-- what the order at i trades in the phase at index k
abbrev pub traded_in_phase : List Phase → List Order → List Deal → ℕ → ℕ → ℕ
traded_in_phase phases orders deals k i = traded (phase_deals phases orders deals k) i

-- what it trades in the phases before that
unfoldable pub traded_before_phase : List Phase → List Order → List Deal → ℕ → ℕ → ℕ
traded_before_phase phases orders deals k i =
    sum_below (λ j. traded_in_phase phases orders deals j i) k

-- what the orders of its chain trade in the phases before that
unfoldable pub chain_before_phase : List Phase → List Order → List Deal → ℕ → ℕ → ℕ
chain_before_phase phases orders deals k i =
    sum_by (traded_before_phase phases orders deals k) (chain orders i)

-- the order list of the phase at index k, where it is known what the phases before left
abbrev pub phase_list_from_left : List Phase → List Order → List Deal → ℕ → (ℕ → ℕ) → List Order
phase_list_from_left phases orders deals k left =
    phase_list orders (first_place phases k) (end_place phases k) left
    (chain_before_phase phases orders deals k)

-- Rest(k): what is left of each order after the first k phases. Rest(0) is 0 of each order, and
-- Rest(k) is what the k-th phase leaves of it, the one at index k - 1.
unfoldable pub left_after_phases : List Phase → List Order → List Deal → ℕ → ℕ → ℕ
left_after_phases phases orders deals zero = λ i. 0
left_after_phases phases orders deals (suc k) = left_after_phase (phase_kind phases k)
    (phase_list_from_left phases orders deals k (left_after_phases phases orders deals k))
    (phase_deals phases orders deals k) (end_place phases k)

-- what the order at i is in the phase at index k
abbrev pub role_in_phase_at : List Phase → List Order → List Deal → ℕ → ℕ → RoleInPhase
role_in_phase_at phases orders deals k = role_in_phase orders (first_place phases k)
    (left_after_phases phases orders deals k) (chain_before_phase phases orders deals k)

-- P: the order list of the phase at index k
abbrev pub phase_list_at : List Phase → List Order → List Deal → ℕ → List Order
phase_list_at phases orders deals k =
    phase_list_from_left phases orders deals k (left_after_phases phases orders deals k)
