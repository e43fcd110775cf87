use Rattle.std.proofs.Common.{Err, ap, sym, ◌∙◌}
use Rattle.trade_reports.proofs.PairLemmas.{ends-disagreement, ends-lone, ends-paired, trades-few}
use Rattle.trade_reports.specs.Pairings.{unpaired_finding}
use Rattle.trade_reports.proofs.pairing_draft.PairingDraft.end.Goals as goal

pub returns-in-Some-clause-pairs : goal.returns-in-Some-clause-pairs
returns-in-Some-clause-pairs g c = λ reports is. ends-disagreement g.K.Collector.has_taken c.args.self reports is c.in-Some.lone c.in-Some.is ∙ ap Err (sym c.finding.ensures)

pub returns-in-Some-least-clause-pairs : goal.returns-in-Some-least-clause-pairs
returns-in-Some-least-clause-pairs g c = λ reports is.
    ends-lone g.K.Collector.has_taken c.args.self reports is c.in-Some-least.ensures.some.0 c.in-Some-least.first c.in_default.is c.in-Some-least.ensures.some.1 c.in-Some-least.ensures.least
    ∙ ap Err (ap unpaired_finding (sym c.without_second.ensures) ∙ sym c.finding-in-Some-least.ensures)

pub returns-clause-pairs : goal.returns-clause-pairs
returns-clause-pairs g c = λ reports is. ends-paired g.K.Collector.has_taken c.args.self reports is c.in_default.is c.in-None.ensures.none

pub returns-clause-fits_places : goal.returns-clause-fits_places
returns-clause-fits_places g c = λ place.
    let paired = ends-paired g.K.Collector.has_taken c.args.self place.entries place.has c.in_default.is c.in-None.ensures.none in
    trades-few g.K.Collector.has_taken c.args.self.trades place.entries place.fits_places paired
