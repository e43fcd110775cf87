use Rattle.std.proofs.Common.{Some, sym, ap, ◌∙◌}
use Rattle.audit_base.specs.declared.findings.Finding.{Finding}
use Rattle.instruction_history.specs.Flaws.{flaw_finding}
use Rattle.matching_core.proofs.DraftLemmas.{resolved-found, resolved-deals}
use Rattle.matching_core.proofs.resolving.resolve_all.Goals as goal

pub returns-in-Some : goal.returns-in-Some
returns-in-Some g c =
    rw (c.requires.orders, c.requires.symbol)
    (resolved-found g.M.HistoryGhost.orders g.M.HistoryGhost.symbol c.args.trades.now c.in_ok-kept.field-0.kept.sound (flaw_finding c.in_ok-kept.field-0.kept.flaw) c.finding.result (ap flaw_finding c.in-Some.is ∙ ap (λ (f : Finding). Some f) (sym c.finding.ensures)) c.in_ok-kept.ensures.kept.known)

pub returns : goal.returns
returns g c =
    rw (c.requires.orders, c.requires.symbol)
    (resolved-deals g.M.HistoryGhost.orders g.M.HistoryGhost.symbol c.args.trades.now c.in_ok-kept.field-0.kept.sound (flaw_finding c.in_ok-kept.field-0.kept.flaw) c.requires.fits_places (ap flaw_finding c.in-None.is) c.in_ok-kept.ensures.kept.known)
