use Rattle.std.proofs.Common.{◌≡◌, ◌∙◌, sym, subst, ℕ, None, length, add-one, arith}
use Rattle.audit_base.specs.Least.{least_answer}
use Rattle.audit_base.proofs.LeastLemmas.{least-at, least-none_more}
use Rattle.further_checks.specs.FurtherRules.{further_finding, first_further_finding}
use Rattle.further_checks.proofs.FurtherLemmas.{failure-read}
use Rattle.further_checks.proofs.checking.first_further_finding.Goals as goal

pub returns-in-Some : goal.returns-in-Some
unfolding first_further_finding
returns-in-Some c =
    let finds = further_finding c.args.checks c.args.orders.now c.args.deals.now c.args.times.now in
    let k = c.loop-index.index in
    let is = failure-read c.args.checks c.args.orders.now c.args.deals.now c.args.times.now c.args.traded.now c.requires.totals c.requires.deal_list.named k c.index-deals-index.result c.index-times-index.result c.further_failure-found.result
    c.loop-index-test.true (omega (arith, c.loop-index-test.true, c.requires.times)) c.index-deals-index.is c.index-times-index.is c.further_failure-found.ensures in
    sym (least-at finds (length c.args.deals.now) k c.in-Some.finding c.loop-index-test.true c.loop-index.invariant (sym is ∙ c.in-Some.is))

pub loop-index-preserved : goal.loop-index-preserved
loop-index-preserved c =
    let finds = further_finding c.args.checks c.args.orders.now c.args.deals.now c.args.times.now in
    let k = c.loop-index.index in
    let is = failure-read c.args.checks c.args.orders.now c.args.deals.now c.args.times.now c.args.traded.now c.requires.totals c.requires.deal_list.named k c.index-deals-index.result c.index-times-index.result c.further_failure-found.result
    c.loop-index-test.true (omega (arith, c.loop-index-test.true, c.requires.times)) c.index-deals-index.is c.index-times-index.is c.further_failure-found.ensures in
    rw add-one (least-none_more finds k c.loop-index.invariant (sym is ∙ c.in_default.is))

pub returns : goal.returns
unfolding first_further_finding
returns c =
    let all : c.loop-index.index ≡ length c.args.deals.now = omega (arith, c.loop-index.auto.index-end) in
    sym (subst (λ (n : ℕ). least_answer (further_finding c.args.checks c.args.orders.now c.args.deals.now c.args.times.now) n ≡ None) all c.loop-index.invariant)
