use Rattle.std.proofs.Common.{◌∙◌, ap, arith, sym, subst, suc, Option}
use Rattle.std.specs.Option.{option_or}
use Rattle.audit_base.specs.Orders.{place_at}
use Rattle.continuous_audit.specs.Records.{AreTradedBefore}
use Rattle.continuous_audit.proofs.NumberLemmas.{traded-then}
use Rattle.offence_list.specs.declared.offences.ListedOffence.{ListedOffence}
use Rattle.offence_list.specs.ContinuousLists.{offence_at_place}
use Rattle.continuous_offences.specs.DealFacts.{IsOffenceOf}
use Rattle.continuous_offences.proofs.EnterLemmas.{books-later}
use Rattle.continuous_offences.proofs.ReadyLemmas.{books-here, books-next, dealt-now, split-rises}
use Rattle.continuous_offences.proofs.StateLemmas.{place-of}
use Rattle.continuous_offences.proofs.state.ListingState.next_offence.Goals as goal

pub first_deal_offence-by_itself-requires-clause-before : goal.first_deal_offence-by_itself-requires-clause-before
first_deal_offence-by_itself-requires-clause-before c =
    let m = c.args.market.now in
    let is = c.requires.market in
    let kept = c.requires.ready.before in
    subst (AreTradedBefore m.orders.now m.deals.now (place_at m.orders.now c.args.order)) (sym c.deref.ensures.value)
    (traded-then m.orders.now is.order_list m.deals.now is.deal_list m.incoming_deals.now is.incoming_deals c.args.order c.requires.order c.args.self.now.before.added c.args.self.now.before.traded.items kept.split kept.totals)

pub passed_over-passed-requires-clause-dealt : goal.passed_over-passed-requires-clause-dealt
passed_over-passed-requires-clause-dealt c = dealt-now _ _ _ c.requires.market c.requires.order c.requires.arrivals c.deref-2.ensures.value c.first_deal_offence-by_itself.ensures.running

pub passed_over-passed-requires-clause-deals : goal.passed_over-passed-requires-clause-deals
passed_over-passed-requires-clause-deals c =
    let m = c.args.market.now in
    let before = c.requires.ready.before in
    let after = c.first_deal_offence-by_itself.ensures.running in
    record {
      from = split-rises m.incoming_deals.now c.args.order _ _ before.totals.inside before.split after.split;
      within = after.totals.inside;
      split = before.split;
      later = after.split;
    }

pub passed_over-passed-requires-clause-books : goal.passed_over-passed-requires-clause-books
passed_over-passed-requires-clause-books c =
    let m = c.args.market.now in
    books-here m.orders.now c.requires.market.order_list m.deals.now c.args.order c.requires.order c.args.self.now.books c.requires.ready.books

pub crossed-crossed-requires-clause-dealt : goal.crossed-crossed-requires-clause-dealt
crossed-crossed-requires-clause-dealt c = dealt-now _ _ _ c.requires.market c.requires.order c.requires.arrivals c.deref-2.ensures.value c.first_deal_offence-by_itself.ensures.running

pub enter-requires-clause-dealt : goal.enter-requires-clause-dealt
enter-requires-clause-dealt c = dealt-now _ _ _ c.requires.market c.requires.order c.requires.arrivals c.deref-2.ensures.value c.first_deal_offence-by_itself.ensures.running

pub crossed-crossed-requires-clause-books : goal.crossed-crossed-requires-clause-books
crossed-crossed-requires-clause-books c =
    let m = c.args.market.now in
    let p = place_at m.orders.now c.args.order in
    books-later m.orders.now m.deals.now c.args.order p (suc p) (suc p) (suc p) _ (omega arith) (omega arith) c.passed_over-passed.ensures.books

pub returns-clause-found : goal.returns-clause-found
returns-clause-found c =
    let m = c.args.market.now in
    let made = c.first_of.ensures ∙ ap (option_or c.first_deal_offence-by_itself.result) c.first_of-later.ensures in
    subst (λ (o : Option ListedOffence). IsOffenceOf m.orders.now o (offence_at_place m.orders.now m.deals.now (place_at m.orders.now c.args.order))) (sym made)
    (place-of m.orders.now m.deals.now (place_at m.orders.now c.args.order) _ _ _ c.first_deal_offence-by_itself.ensures.found c.passed_over-passed.ensures.found c.crossed-crossed.ensures.found)

pub returns-clause-ready : goal.returns-clause-ready
returns-clause-ready c =
    let m = c.args.market.now in
    record {
      before = c.add_deals_of.ensures;
      after = c.first_deal_offence-by_itself.ensures.running;
      books = books-next m.orders.now c.requires.market.order_list m.deals.now c.args.order c.requires.order _ c.in_ok-enter.ensures;
    }
