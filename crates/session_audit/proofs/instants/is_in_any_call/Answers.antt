use Rattle.std.proofs.Common.{◌∙◌, ap, sym, add-one, length}
use Rattle.std.specs.Prelude.{◌&&◌}
use Rattle.std.proofs.lemmas.Bool.{or_from}
use Rattle.audit_base.specs.Least.{any_below}
use Rattle.audit_base.proofs.LeastLemmas.{any-at}
use Rattle.session_audit.specs.Phases.{is_call, phase_kind, is_in_phase}
use Rattle.session_audit.proofs.instants.is_in_any_call.Goals as goal

pub returns-then-is_in_call : goal.returns-then-is_in_call
returns-then-is_in_call c =
    sym (any-at (λ k. is_call (phase_kind c.args.phases.now k) && is_in_phase c.args.phases.now k c.args.place) (length c.args.phases.now) c.loop-index.index c.loop-index-test.true (sym c.is_in_call.ensures ∙ c.if-is_in_call.true))

pub loop-index-preserved : goal.loop-index-preserved
loop-index-preserved c =
    ap (any_below (λ k. is_call (phase_kind c.args.phases.now k) && is_in_phase c.args.phases.now k c.args.place)) (add-one c.loop-index.index)
    ∙ or_from _ _ c.loop-index.invariant (sym c.is_in_call.ensures ∙ c.if-is_in_call.false)
