use Rattle.std.proofs.Common.{ℕ, ap, sym, subst, ◌∙◌}
use Rattle.trade_reports.specs.declared.reports.PlacedReport.{PlacedReport}
use Rattle.trade_reports.specs.Drafts.{TakesPair}
use Rattle.trade_reports.proofs.PairLemmas.{known-second}
use Rattle.trade_reports.proofs.pairing_draft.take_report.Goals as goal

pub returns : goal.returns
returns g c = λ all at known.
    let first = c.in-Some.first.now in
    let report = c.args.report.now in
    known-second g.K.Collector.has_taken c.args.firsts.now c.forget_latest.new.self c.args.lone.now c.take_pair.new.lone c.args.trades.now c.take_pair.new.trades first report all
    (sym (known.waits report.trade) ∙ c.in-Some.ensures.first) known
    (λ q. c.forget_latest.ensures report.trade q c.in-Some.ensures.some)
    (subst (λ (p : PlacedReport). TakesPair g.K.Collector.has_taken c.args.lone.now first p c.args.trades.now c.take_pair.new.trades c.take_pair.new.lone) (ap (λ (k : ℕ). record { place = k; report = report }) at) c.in_ok-take_pair.ensures)
