use Rattle.std.proofs.Common.{ap, sym, ◌∙◌}
use Rattle.record_verdict.specs.Scopes.{unadmitted_order_finding}
use Rattle.log_verdict.proofs.AuditLemmas.{admitted, history_found, order_found}
use Rattle.log_verdict.proofs.both_logs.after_orders.Goals as goal

pub returns-in-Some-clause-decides : goal.returns-in-Some-clause-decides
returns-in-Some-clause-decides g c = λ entries has taken.
    let refused = ap (unadmitted_order_finding c.args.scope.now.admission) (sym c.orders.ensures.same) ∙ sym c.first_unadmitted-unadmitted.ensures ∙ c.in-Some.is in
    c.after_finding.ensures.decides entries taken
    (order_found c.args.scope.now g.S.SymbolGhost.symbol entries c.in-Ok.history c.in-Some.finding c.requires.symbol
    (c.in-Ok.ensures.well_formed entries has) (c.in-Ok.ensures.orders entries has) refused)

pub returns-in-None-clause-decides : goal.returns-in-None-clause-decides
returns-in-None-clause-decides g c = λ entries has taken.
    let admits = ap (unadmitted_order_finding c.args.scope.now.admission) (sym c.orders.ensures.same) ∙ sym c.first_unadmitted-unadmitted.ensures ∙ c.in-None.is in
    c.after_history.ensures.decides entries taken
    (admitted c.args.scope.now g.S.SymbolGhost.symbol entries c.in-Ok.history c.requires.symbol (c.in-Ok.ensures.well_formed entries has) (c.in-Ok.ensures.orders entries has) admits)

pub returns-in-Err-clause-decides : goal.returns-in-Err-clause-decides
returns-in-Err-clause-decides g c = λ entries has taken.
    c.after_finding-in-Err.ensures.decides entries taken
    (history_found c.args.scope.now g.S.SymbolGhost.symbol entries c.in-Err.finding c.requires.symbol (c.in-Err.ensures.found entries has))
