use Rattle.std.proofs.Common.{◌≡◌, List, sym, subst, IfOk}
use Rattle.std.proofs.lemmas.Result.{IfOk-weaker}
use Rattle.audit_base.specs.declared.orders.Deal.{Deal}
use Rattle.session_audit.specs.declared.phases.PhaseKind.{PhaseKind}
use Rattle.session_audit.specs.Progress.{HasPhaseTotals, left_numbers_after_phase}
use Rattle.session_audit.proofs.progress.leave_phase.Goals as goal

pub returns-in-Continuous : goal.returns-in-Continuous
returns-in-Continuous c =
    let orders = c.args.orders.now in
    subst (λ (k : PhaseKind). IfOk c.leave_continuous.result (λ left. (deals : List Deal) → HasPhaseTotals k orders deals c.args.last c.args.traded.now → left.items ≡ left_numbers_after_phase k orders deals c.args.last)) (sym c.in-Continuous.is)
    (IfOk-weaker c.leave_continuous.result _ _ (λ left are deals played. are deals (record { conforms = played.conforms; totals = played.totals }) played.ends) c.leave_continuous.ensures)
