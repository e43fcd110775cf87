use Rattle.std.proofs.Common.{◌∙◌, sym, ap, List, ℕ}
use Rattle.audit_base.specs.declared.orders.Order.{Order}
use Rattle.audit_base.specs.Trades.{deals_of_symbol, trades_finding}
use Rattle.record_verdict.proofs.JudgeLemmas.{deals-counted, given-resolved}
use Rattle.record_verdict.proofs.judging.given_by_trades.Goals as goal

pub end-requires : goal.end-requires
end-requires g c = record { entries = c.args.trades.now; has = c.in_ok-draft.ensures; fits_places = c.requires.fits_places }

pub of-requires-clause-counted : goal.of-requires-clause-counted
of-requires-clause-counted g c = λ none.
    rw (c.end.ensures.deals c.args.trades.now c.in_ok-draft.ensures none, c.end.ensures.count c.args.trades.now c.in_ok-draft.ensures) (deals-counted g.M.HistoryGhost.orders g.M.HistoryGhost.symbol c.args.trades.now)

pub of-requires-clause-fits_places : goal.of-requires-clause-fits_places
of-requires-clause-fits_places g c = rw (c.end.ensures.count c.args.trades.now c.in_ok-draft.ensures) c.requires.fits_places

pub returns-clause-gives : goal.returns-clause-gives
returns-clause-gives g c =
    let trades = c.args.trades.now in
    let found = ap (λ (os : List Order). trades_finding os c.args.scope.now.symbol trades) c.requires.orders ∙ ap (λ (s : List ℕ). trades_finding g.M.HistoryGhost.orders s trades) c.requires.symbol in
    let deals = ap (λ (os : List Order). deals_of_symbol os c.args.scope.now.symbol trades) c.requires.orders ∙ ap (λ (s : List ℕ). deals_of_symbol g.M.HistoryGhost.orders s trades) c.requires.symbol in
    rw c.of.ensures.found
    (given-resolved c.args.scope.now c.args.history trades c.end.result c.requires.admitted (c.end.ensures.history ∙ sym c.requires.orders) (c.end.ensures.count trades c.in_ok-draft.ensures)
    (found ∙ c.end.ensures.finding trades c.in_ok-draft.ensures) (λ none. c.end.ensures.deals trades c.in_ok-draft.ensures none ∙ sym deals))
