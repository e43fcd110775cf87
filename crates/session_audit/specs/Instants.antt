-- Finding 16 by what is known of an order by itself: in an order list an order with another life
-- than Rests has no target, so it is an own order of its phase unless it is cancelled at its own
-- place.
use Rattle.std.specs.Prelude.{ℕ, Bool, ◌&&◌, not, List, Option, None, option_map, length}
use Rattle.audit_base.specs.declared.terms.Which.TheVariants as which
use Rattle.audit_base.specs.declared.orders.Order.{Order}
use Rattle.audit_base.specs.declared.findings.Property.TheVariants as property
use Rattle.audit_base.specs.declared.findings.Finding.{Finding}
use Rattle.audit_base.specs.Least.{any_below, least_with}
use Rattle.audit_base.specs.Orders.{order_at, place_at, may_rest}
use Rattle.audit_base.specs.Continuous.{is_cancelled_at_place}
use Rattle.audit_base.specs.Shows.{finding_at_record}
use Rattle.session_audit.specs.declared.phases.Phase.{Phase}
use Rattle.session_audit.specs.Phases.{is_call, phase_kind, is_in_phase}

-- the place is in a call phase
abbrev pub is_in_any_call : List Phase → ℕ → Bool
is_in_any_call phases place =
    any_below (λ k. is_call (phase_kind phases k) && is_in_phase phases k place) (length phases)

-- the order was placed in a call phase, and its life is not Rests
abbrev pub is_instant_order : List Phase → Order → Bool
is_instant_order phases o = not (may_rest o.life)
    && (not (is_cancelled_at_place o.cancelled o.place) && is_in_any_call phases o.place)

-- the least such order
abbrev pub first_instant_of_day : List Phase → List Order → Option Finding
first_instant_of_day phases orders =
    option_map
    (λ i. finding_at_record property.InstantOrder which.Orders (place_at orders i) None None)
    (least_with (λ i. is_instant_order phases (order_at orders i)) (length orders))
