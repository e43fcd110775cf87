use Rattle.std.proofs.Common.{Option, Some, ◌≡◌, ap, sym, ◌∙◌}
use Rattle.trade_reports.specs.Drafts.{report_held_in, latest_waiting, latest_or_earlier}
use Rattle.trade_reports.specs.declared.reports.PlacedReport.{PlacedReport}
use Rattle.trade_reports.proofs.FirstLemmas.{earlier-waits}
use Rattle.trade_reports.proofs.first_reports.FirstReports.least.Goals as goal

pub returns-in-Some-clause-some : goal.returns-in-Some-clause-some
returns-in-Some-clause-some c =
    let self = c.args.self.now in
    let apart = self.apart c.if-self.true c.in-Some.latest c.in-Some.is in
    let latest : latest_waiting self ≡ Some c.in-Some.latest = rw c.if-self.true c.in-Some.is in
    let waits = earlier-waits (report_held_in self.earlier) c.in-Some.latest apart c.least.result c.least.ensures.some in (
      waits.0,
      ap (λ (latest : Option PlacedReport). latest_or_earlier latest waits.0 (report_held_in self.earlier waits.0)) latest ∙ waits.1
          ∙ ap (λ (first : PlacedReport). Some first) (sym c.earlier.ensures),
    )
