use Rattle.std.proofs.Common.{◌≡◌, ◌∙◌, ap, length, arith}
use Rattle.offence_list.specs.Answers.{answers_below}
use Rattle.further_checks.specs.FurtherRules.{further_finding, further_findings}
use Rattle.further_checks.proofs.FurtherLemmas.{failure-read, findings-further}
use Rattle.further_checks.proofs.checking.further_findings.Goals as goal

pub loop-index-preserved : goal.loop-index-preserved
loop-index-preserved c =
    let k = c.loop-index.index in
    let is = failure-read c.args.checks c.args.orders.now c.args.deals.now c.args.times.now c.args.traded.now c.requires.totals c.requires.deal_list.named k c.index-deals-index.result c.index-times-index.result c.further_failure-failure.result
    c.loop-index-test.true (omega (arith, c.loop-index-test.true, c.requires.times)) c.index-deals-index.is c.index-times-index.is c.further_failure-failure.ensures in
    findings-further c.args.checks c.args.orders.now c.args.deals.now c.args.times.now c.args.traded.now c.requires.totals c.requires.deal_list.named k c.loop-index.found.items c.push_answer.new.answers.items c.further_failure-failure.result
    c.loop-index.invariant is c.in_ok-push_answer.ensures

pub returns : goal.returns
unfolding further_findings
returns c =
    let all : c.loop-index.index ≡ length c.args.deals.now = omega (arith, c.loop-index.auto.index-end) in
    c.loop-index.invariant ∙ ap (answers_below (further_finding c.args.checks c.args.orders.now c.args.deals.now c.args.times.now)) all
