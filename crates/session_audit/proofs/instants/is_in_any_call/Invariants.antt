use Rattle.std.proofs.Common.{◌≡◌, false}
use Rattle.std.specs.Prelude.{◌&&◌}
use Rattle.audit_base.specs.Least.{any_below}
use Rattle.session_audit.specs.Phases.{is_call, phase_kind, is_in_phase}
use Rattle.session_audit.proofs.instants.is_in_any_call.Given as goal

abbrev pub invariant-loop-index : goal.invariant-loop-index
invariant-loop-index l = any_below (λ k. is_call (phase_kind l.phases k) && is_in_phase l.phases k l.place) l.index ≡ false
