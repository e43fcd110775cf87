-- The phases of a day, and the deals of each. A phase is named by its index in the list, from 0.
use Rattle.std.specs.Prelude.{◌≡◌, ◌<◌, ℕ, ◌+◌, ◌-◌, Bool, ◌&&◌, nat_lt, nat_le, is_some, List, AllPairs, filter, length, slice_index_or, if◌then◌else◌}
use Rattle.audit_base.specs.declared.terms.Rule.{Rule}
use Rattle.audit_base.specs.declared.terms.Rule.TheVariants as rule
use Rattle.audit_base.specs.declared.orders.Order.{Order}
use Rattle.audit_base.specs.declared.orders.Deal.{Deal}
use Rattle.audit_base.specs.Continuous.{cause}
use Rattle.audit_base.specs.RuleKinds.{call_rule}
use Rattle.session_audit.specs.declared.phases.Phase.{Phase}
use Rattle.session_audit.specs.declared.phases.PhaseKind.{PhaseKind}
use Rattle.session_audit.specs.declared.phases.PhaseKind.TheVariants as kind

-- the rule that the deals of a phase are judged by
abbrev pub rule_of : PhaseKind → Rule
rule_of kind.Uniform = rule.Uniform
rule_of kind.Maximum = rule.Maximum
rule_of kind.Continuous = rule.Continuous

-- a phase of this kind is a call, in which all orders meet at once
abbrev pub is_call : PhaseKind → Bool
is_call the_kind = is_some (call_rule (rule_of the_kind))

-- the phase that is read past the end of a list
abbrev pub missing_phase : Phase
missing_phase = record { kind = kind.Continuous; first = 0 }

-- the phase at an index
abbrev pub phase_at : List Phase → ℕ → Phase
phase_at phases k = slice_index_or phases k missing_phase

-- the greatest place that a record can have, 2^32 - 1
abbrev pub last_place : ℕ
last_place = 4294967295

-- how a phase trades
abbrev pub phase_kind : List Phase → ℕ → PhaseKind
phase_kind phases k = (phase_at phases k).kind

-- F: the first place of a phase
abbrev pub first_place : List Phase → ℕ → ℕ
first_place phases k = (phase_at phases k).first

-- E: the place at which a phase ends, which is the one before the next phase begins, or the
-- greatest place that a record can have
abbrev pub end_place : List Phase → ℕ → ℕ
end_place phases k =
    if nat_lt (k + 1) (length phases) then first_place phases (k + 1) - 1 else last_place

-- the phases of a day: there is one, the first begins at place 1, and the places at which they
-- begin rise strictly
pub record ArePhases (phases : List Phase) : Type 0 where
  pub some : 0 < length phases
  pub from_one : first_place phases 0 ≡ 1
  pub rising : AllPairs (λ p q. p.first < q.first) phases

-- a place lies in a phase
abbrev pub is_in_phase : List Phase → ℕ → ℕ → Bool
is_in_phase phases k place =
    nat_le (first_place phases k) place && nat_le place (end_place phases k)

-- the deals of a phase, in log order: those whose cause lies in it
unfoldable pub phase_deals : List Phase → List Order → List Deal → ℕ → List Deal
phase_deals phases orders deals k = filter (λ d. is_in_phase phases k (cause orders d)) deals
