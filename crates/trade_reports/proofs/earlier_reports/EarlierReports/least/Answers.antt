use Rattle.std.proofs.Common.{length, ◌+◌, ◌≤◌, arith, subst, sym, Some}
use Rattle.trade_reports.specs.Drafts.{IsEarliestHeld}
use Rattle.trade_reports.specs.declared.reports.PlacedReport.{PlacedReport}
use Rattle.trade_reports.proofs.PairLemmas.{least-more, least-none, least-some}
use Rattle.trade_reports.proofs.earlier_reports.EarlierReports.least.Goals as goal

pub loop-i-preserved : goal.loop-i-preserved
loop-i-preserved c =
    subst (λ (first : PlacedReport). IsEarliestHeld c.args.self.now (c.loop-i.i + 1) (Some first)) (sym c.earlier.ensures)
    (least-more c.args.self.now c.loop-i.i c.loop-i.least c.in-Some.field-0-0.now c.in-Some.first.now c.loop-i.invariant c.in-Some.ensures.value c.in-Some.ensures.entry)

pub returns-after-loop-i-clause-none : goal.returns-after-loop-i-clause-none
returns-after-loop-i-clause-none c =
    let all : length c.args.self.now.map.entries ≤ c.loop-i.i = omega (arith, c.len-i-end.ensures.len, c.loop-i-test.false) in
    least-none c.args.self.now c.loop-i.i c.loop-i.least c.loop-i.invariant all

pub returns-after-loop-i-clause-least : goal.returns-after-loop-i-clause-least
returns-after-loop-i-clause-least c =
    let all : length c.args.self.now.map.entries ≤ c.loop-i.i = omega (arith, c.len-i-end.ensures.len, c.loop-i-test.false) in
    least-some c.args.self.now c.loop-i.i c.loop-i.least c.loop-i.invariant all
