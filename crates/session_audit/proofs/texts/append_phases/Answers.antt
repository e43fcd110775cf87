use Rattle.std.proofs.Common.{◌∙◌, ap, sym, List, ℕ, ◌++◌}
use Rattle.std.proofs.lemmas.Result.{on_ok_weaker}
use Rattle.session_audit.specs.declared.phases.PhaseKind.TheVariants as kind
use Rattle.session_audit.proofs.TextLemmas.{phases-joined, one-line}
use Rattle.session_audit.proofs.texts.append_phases.Goals as goal

pub returns : goal.returns
returns c =
    let text = phases-joined c.args.phases.now (record { kind = kind.Uniform; first = 0 }) (sym c.is_empty.ensures ∙ c.if-is_empty.false) in
    on_ok_weaker c.append_rest.result (λ rest. one-line c.args.out.now.items c.append_phase.new.out.items c.append_rest.new.out.items _ _ c.in_ok-append_phase.ensures rest ∙ ap (λ (ls : List ℕ). c.args.out.now.items ++ ls) (sym text)) c.append_rest.ensures
