use Rattle.std.proofs.Common.{◌∙◌, sym}
use Rattle.std.specs.Prelude.{slice_get}
use Rattle.std.proofs.lemmas.Result.{IfOk-weaker}
use Rattle.further_checks.specs.FurtherRules.{further_findings}
use Rattle.day_verdicts.specs.SymbolAnswers.{told_by}
use Rattle.day_verdicts.proofs.CheckLemmas.{accepted-found, false-of-not, none-found, rejected-stays, true-of-not, unasked-stays}
use Rattle.day_verdicts.proofs.symbol_reports.report_after_checks.Goals as goal

pub returns-then-not-report : goal.returns-then-not-report
returns-then-not-report c =
    sym (rejected-stays (slice_get (further_findings c.args.checks c.args.orders.now c.args.deals.now c.args.times.now) 0) (told_by c.args.report) (false-of-not c.args.report.accepted c.if-not-report.true))

pub returns-then-not-any : goal.returns-then-not-any
returns-then-not-any c =
    sym (unasked-stays c.nothing_is_found_unasked.ensures c.args.checks c.args.orders.now c.args.deals.now c.args.times.now (told_by c.args.report) (sym c.any.ensures ∙ c.if-not-any.true))

pub returns-in-Some : goal.returns-in-Some
returns-in-Some c =
    let found = slice_get (further_findings c.args.checks c.args.orders.now c.args.deals.now c.args.times.now) 0 in
    let is = c.further_findings_begin_with_the_first.ensures c.args.checks c.args.orders.now c.args.deals.now c.args.times.now ∙ sym c.first_further_finding.ensures ∙ c.in-Some.is in
    IfOk-weaker c.report_of_finding.result _ _ (λ told is_told. is_told ∙ sym (accepted-found found c.in-Some.finding (told_by c.args.report) is (true-of-not c.args.report.accepted c.if-not-report.false))) c.report_of_finding.ensures

pub returns-in-None : goal.returns-in-None
returns-in-None c =
    let found = slice_get (further_findings c.args.checks c.args.orders.now c.args.deals.now c.args.times.now) 0 in
    let is = c.further_findings_begin_with_the_first.ensures c.args.checks c.args.orders.now c.args.deals.now c.args.times.now ∙ sym c.first_further_finding.ensures ∙ c.in-None.is in
    sym (none-found found (told_by c.args.report) is)
