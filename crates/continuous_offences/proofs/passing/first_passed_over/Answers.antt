use Rattle.std.proofs.Common.{◌∙◌, sym, arith}
use Rattle.order_arrivals.proofs.ArrivalLemmas.{named-read}
use Rattle.continuous_offences.proofs.PassedLemmas.{best-inside, passed-all, passed-at, passed-clean, passed-side}
use Rattle.continuous_offences.proofs.passing.first_passed_over.Goals as goal

pub passed_over-requires-clause-best : goal.passed_over-requires-clause-best
passed_over-requires-clause-best c = best-inside c.args.dealt.now c.requires.dealt c.args.start c.args.end c.requires.deals c.args.best c.requires.best

pub passed_over-requires-clause-named : goal.passed_over-requires-clause-named
passed_over-requires-clause-named c =
    let m = c.args.dealt.now.market.now in
    let market = c.requires.dealt.market in
    let within = c.requires.deals.within in
    let lt = c.loop-at-test.true in
    named-read m.orders.now m.deals.now market.deal_list m.incoming_deals.now market.incoming_deals c.loop-at.at (omega arith) c.index-deals-incoming_deals.result c.index-deals-incoming_deals.is

pub passed_over-requires-clause-side : goal.passed_over-requires-clause-side
passed_over-requires-clause-side c = passed-side c.args.dealt.now c.requires.dealt c.args.start c.args.end c.requires.deals c.args.best c.requires.best c.loop-at.at c.loop-at.auto.at c.loop-at-test.true c.index-deals-incoming_deals.result c.index-deals-incoming_deals.is

pub loop-at-preserved : goal.loop-at-preserved
loop-at-preserved c = passed-clean c.args.dealt.now c.requires.dealt c.args.start c.args.end c.requires.deals c.args.best c.requires.best c.loop-at.at c.loop-at.auto.at c.loop-at-test.true c.loop-at.invariant c.index-deals-incoming_deals.result c.index-deals-incoming_deals.is (sym c.passed_over.ensures ∙ c.in_default.is)

pub returns-in-Some : goal.returns-in-Some
returns-in-Some c = passed-at c.args.dealt.now c.requires.dealt c.args.start c.args.end c.requires.deals c.args.best c.requires.best c.loop-at.at c.loop-at.auto.at c.loop-at-test.true c.loop-at.invariant c.index-deals-incoming_deals.result c.index-deals-incoming_deals.is c.in-Some.offence (sym c.passed_over.ensures ∙ c.in-Some.is)

pub returns : goal.returns
returns c = passed-all c.args.dealt.now c.requires.dealt c.args.start c.args.end c.requires.deals c.args.best c.requires.best (λ i from below. c.loop-at.invariant i from (let done = c.loop-at-test.false in omega arith))
