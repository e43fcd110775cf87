-- When a day conforms, and its first offence.
use Rattle.std.specs.Prelude.{◌≡◌, ◌<◌, ℕ, Bool, ◌&&◌, not, List, Option, None, length, option_map, EachIndex, MatchOption}
use Rattle.audit_base.specs.declared.terms.Which.TheVariants as which
use Rattle.audit_base.specs.declared.orders.Order.{Order}
use Rattle.audit_base.specs.declared.orders.Deal.{Deal}
use Rattle.audit_base.specs.declared.findings.Property.TheVariants as property
use Rattle.audit_base.specs.declared.findings.Finding.{Finding}
use Rattle.audit_base.specs.Least.{least_with, any_below}
use Rattle.audit_base.specs.Orders.{order_at, place_at, may_rest}
use Rattle.audit_base.specs.Rules.{Conforms}
use Rattle.audit_base.specs.Shows.{finding_at_record}
use Rattle.audit_base.specs.Verdicts.{IsFirstOffence}
use Rattle.session_audit.specs.declared.phases.Phase.{Phase}
use Rattle.session_audit.specs.Phases.{rule_of, is_call, phase_kind, is_in_phase, phase_deals}
use Rattle.session_audit.specs.PhaseOrders.{takes_part, role_in_phase_at, phase_list_at}

-- the order at i is an own order of the phase at index k: its place is in the phase, and it
-- is not gone
abbrev pub is_own : List Phase → List Order → List Deal → ℕ → ℕ → Bool
is_own phases orders deals k i = is_in_phase phases k (place_at orders i)
    && takes_part (role_in_phase_at phases orders deals k i)

-- it is an own order of a call phase, and its life is not Rests
abbrev pub is_instant_in_call : List Phase → List Order → List Deal → ℕ → Bool
is_instant_in_call phases orders deals i = not (may_rest (order_at orders i).life)
    && any_below (λ k. is_call (phase_kind phases k) && is_own phases orders deals k i)
    (length phases)

-- finding 16: the least such order
unfoldable pub instant_finding : List Phase → List Order → List Deal → Option Finding
instant_finding phases orders deals =
    option_map
    (λ i. finding_at_record property.InstantOrder which.Orders (place_at orders i) None None)
    (least_with (is_instant_in_call phases orders deals) (length orders))

-- the deals of the phase at index k are as its rule asks, over its order list
abbrev pub PhaseConforms : List Phase → List Order → List Deal → ℕ → Type 0
PhaseConforms phases orders deals k = Conforms (rule_of (phase_kind phases k))
    (phase_list_at phases orders deals k) (phase_deals phases orders deals k)

-- Conforms (day): no call phase has an own order whose life is not Rests, and each phase conforms
pub record ConformsDay (phases : List Phase) (orders : List Order) (deals : List Deal)
    : Type 0 where
  pub admitted : instant_finding phases orders deals ≡ None
  pub each : EachIndex phases (PhaseConforms phases orders deals)

-- The first offence of the least phase that fails, over its order list and its deals. `count` is
-- the number of trades of the whole log, since the place of a volume finding is the one after
-- the last.
pub record IsPhaseOffence (phases : List Phase) (orders : List Order) (deals : List Deal)
    (count : ℕ) (finding : Finding) : Type 0 where
  pub phase : ℕ
  pub inside : phase < length phases
  pub before : (j : ℕ) → j < phase → PhaseConforms phases orders deals j
  pub fails : PhaseConforms phases orders deals phase → ⊥
  pub here : IsFirstOffence (rule_of (phase_kind phases phase))
      (phase_list_at phases orders deals phase)
      (phase_deals phases orders deals phase) count finding

-- the first offence of a day: finding 16, looked for in all call phases, or else that of a phase
abbrev pub IsDayOffence : List Phase → List Order → List Deal → ℕ → Finding → Type 0
IsDayOffence phases orders deals count finding =
    MatchOption (instant_finding phases orders deals)
    (IsPhaseOffence phases orders deals count finding) (λ f. finding ≡ f)
