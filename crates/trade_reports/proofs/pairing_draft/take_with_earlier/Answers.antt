use Rattle.std.proofs.Common.{ℕ, ap, sym, subst, ◌∙◌}
use Rattle.trade_reports.specs.declared.reports.PlacedReport.{PlacedReport}
use Rattle.trade_reports.specs.Drafts.{TakesPair}
use Rattle.trade_reports.proofs.PairLemmas.{known-second, ok-map}
use Rattle.trade_reports.proofs.pairing_draft.take_with_earlier.Goals as goal

pub returns-in-Some : goal.returns-in-Some
returns-in-Some g c =
    ok-map c.take_pair.result _ _ (λ _ takes all at known.
    known-second g.K.Collector.has_taken c.args.firsts.now c.take_earlier.new.self c.args.lone.now c.take_pair.new.lone c.args.trades.now c.take_pair.new.trades c.in-Some.first c.args.report.now all
    (sym (known.waits c.args.report.now.trade) ∙ sym c.take_earlier.ensures.first ∙ c.in-Some.is) known c.take_earlier.ensures.others
    (subst (λ (p : PlacedReport). TakesPair g.K.Collector.has_taken c.args.lone.now c.in-Some.first p c.args.trades.now c.take_pair.new.trades c.take_pair.new.lone) (ap (λ (k : ℕ). record { place = k; report = c.args.report.now }) at) takes))
    c.take_pair.ensures
