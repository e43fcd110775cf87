-- The first offence of the least phase that fails is that of the day.
use Rattle.std.proofs.Common.{◌≡◌, ◌<◌, ℕ, List, Option, None, Some, length, sym, subst, ◌∙◌}
use Rattle.std.specs.Prelude.{MatchOption}
use Rattle.audit_base.specs.declared.orders.Order.{Order}
use Rattle.audit_base.specs.declared.orders.Deal.{Deal}
use Rattle.audit_base.specs.declared.findings.Finding.{Finding}
use Rattle.session_audit.specs.declared.phases.Phase.{Phase}
use Rattle.session_audit.specs.declared.phases.PhaseKind.{PhaseKind}
use Rattle.session_audit.specs.Phases.{rule_of, phase_kind, phase_deals}
use Rattle.session_audit.specs.PhaseOrders.{phase_list_at}
use Rattle.session_audit.specs.Days.{instant_finding, ConformsDay, IsPhaseOffence}
use Rattle.session_audit.specs.Audits.{IsBrokenDay}
use Rattle.session_audit.specs.Judging.{IsBrokenPhase}
use Rattle.session_audit.specs.Progress.{IsDaySoFar}

pub broken-phase : (phases : List Phase) (orders : List Order) (deals : List Deal) (count k : ℕ) (finding : Finding) → instant_finding phases orders deals ≡ None → k < length phases
    → (traded rest : List ℕ) → IsDaySoFar phases orders deals k traded rest → (here : List Order) (dealt : List Deal) (the_kind : PhaseKind)
    → here ≡ phase_list_at phases orders deals k → dealt ≡ phase_deals phases orders deals k → the_kind ≡ phase_kind phases k
    → IsBrokenPhase (rule_of the_kind) here dealt count finding → IsBrokenDay phases orders deals count finding
broken-phase phases orders deals count k finding admitted lt traded rest so_far here dealt the_kind here_is dealt_is kind_is broken =
    let at : IsBrokenPhase (rule_of (phase_kind phases k)) (phase_list_at phases orders deals k) (phase_deals phases orders deals k) count finding =
    subst (λ (t : PhaseKind). IsBrokenPhase (rule_of t) (phase_list_at phases orders deals k) (phase_deals phases orders deals k) count finding) kind_is
    (subst (λ (h : List Order). IsBrokenPhase (rule_of the_kind) h (phase_deals phases orders deals k) count finding) here_is
    (subst (λ (d : List Deal). IsBrokenPhase (rule_of the_kind) here d count finding) dealt_is broken)) in
    let offence : IsPhaseOffence phases orders deals count finding = record { phase = k; inside = lt; before = so_far.conformed; fails = at.fails; here = at.offence } in
    record {
      offence = subst (λ (o : Option Finding). MatchOption o (IsPhaseOffence phases orders deals count finding) (λ f. finding ≡ f)) (sym admitted) offence;
      fails = λ (c : ConformsDay phases orders deals). at.fails (c.each k lt);
    }

some-none : (f : Finding) → Some f ≡ None → ⊥
some-none f e = cc

pub broken-instant : (phases : List Phase) (orders : List Order) (deals : List Deal) (count : ℕ) (finding : Finding) → instant_finding phases orders deals ≡ Some finding → IsBrokenDay phases orders deals count finding
broken-instant phases orders deals count finding is = record {
  offence = subst (λ (o : Option Finding). MatchOption o (IsPhaseOffence phases orders deals count finding) (λ f. finding ≡ f)) (sym is) (λ _. finding);
  fails = λ (c : ConformsDay phases orders deals). some-none finding (sym is ∙ c.admitted);
}
