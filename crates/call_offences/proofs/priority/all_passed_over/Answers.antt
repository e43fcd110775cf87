use Rattle.std.proofs.Common.{◌≡◌, ◌∙◌, ap, length, arith}
use Rattle.audit_base.specs.declared.terms.Side.TheVariants.{Buy, Sell}
use Rattle.offence_list.specs.Answers.{answers_below}
use Rattle.offence_list.specs.CallLists.{priority_finding, priority_offences}
use Rattle.call_offences.proofs.ListingLemmas.{inside-further}
use Rattle.call_offences.proofs.PassedLemmas.{best-on_side, passed-further}
use Rattle.call_offences.proofs.priority.all_passed_over.Goals as goal

pub passed_over-offence-requires-clause-short_bid : goal.passed_over-offence-requires-clause-short_bid
passed_over-offence-requires-clause-short_bid c = best-on_side c.args.orders.now c.args.deals.now Buy c.args.short_bid c.requires.short_bid

pub passed_over-offence-requires-clause-short_ask : goal.passed_over-offence-requires-clause-short_ask
passed_over-offence-requires-clause-short_ask c = best-on_side c.args.orders.now c.args.deals.now Sell c.args.short_ask c.requires.short_ask

pub deals-preserved : goal.deals-preserved
deals-preserved c = (
  passed-further c.args.orders.now c.args.deals.now c.args.traded.now c.requires.order_list c.requires.totals c.args.short_bid c.args.short_ask c.requires.short_bid c.requires.short_ask
      c.requires.deal_list.named c.deals.deal-index c.deals-test.true c.deal-item.result c.deal-item.is c.deals.found.items c.push_answer.new.answers.items c.passed_over-offence.result c.deals.invariant.0 c.passed_over-offence.ensures.passed c.in_ok-push_answer.ensures,
  inside-further c.args.orders.now c.deals.found.items c.push_answer.new.answers.items c.passed_over-offence.result c.deals.invariant.1 c.passed_over-offence.ensures.inside c.in_ok-push_answer.ensures,
)

pub returns-clause-list : goal.returns-clause-list
unfolding priority_offences
returns-clause-list c =
    let all : c.deals.deal-index ≡ length c.args.deals.now = omega (arith, c.deals.auto.deal-index-end) in
    c.deals.invariant.0 ∙ ap (answers_below (priority_finding c.args.orders.now c.args.deals.now)) all
