use Rattle.std.proofs.Common.{◌≤◌, ◌∙◌, ℕ, Some, sym, ap, subst, arith, inl, inr}
use Rattle.std.proofs.lemmas.Bool.{cases_eq}
use Rattle.audit_base.specs.declared.flaws.Flaw.{Flaw}
use Rattle.audit_base.specs.Flaws.{IsEvidenceInside, finding_of}
use Rattle.audit_base.specs.Orders.{order_at}
use Rattle.audit_base.specs.Priority.{better}
use Rattle.continuous_audit.specs.IndexedDeals.{incoming_deal_at, resting_order_at}
use Rattle.continuous_audit.proofs.FlawLemmas.{priority-after, shown-there}
use Rattle.continuous_audit.proofs.PassLemmas.{pass-none-first, pass-found-first, resting-opposite, resting-upto}
use Rattle.continuous_audit.proofs.passing.check_priority.Goals as goal

pub outranks-requires-clause-side : goal.outranks-requires-clause-side
outranks-requires-clause-side c = c.requires.best.of_side ∙ sym (resting-opposite c.args.market.now.orders.now c.requires.market.order_list c.args.market.now.deals.now c.requires.market.deal_list c.args.market.now.incoming_deals.now c.requires.market.incoming_deals c.args.order c.requires.order
    c.args.numbers.now.start c.args.numbers.now.running.added c.requires.dealt.known.running.totals.inside c.requires.dealt.split c.requires.dealt.known.running.split c.loop-at.at c.loop-at.auto.at c.loop-at-test.true)

pub priority_flaw-requires-clause-over : goal.priority_flaw-requires-clause-over
priority_flaw-requires-clause-over c = shown-there c.args.market.now c.args.order c.requires.order c.args.numbers.now c.requires.dealt c.args.best.index (let e = c.requires.best.earlier in omega arith)

pub priority_flaw-requires-clause-resting : goal.priority_flaw-requires-clause-resting
priority_flaw-requires-clause-resting c = shown-there c.args.market.now c.args.order c.requires.order c.args.numbers.now c.requires.dealt (resting_order_at c.args.market.now c.loop-at.at)
    (resting-upto c.args.market.now.orders.now c.requires.market.order_list c.args.market.now.deals.now c.requires.market.deal_list c.args.market.now.incoming_deals.now c.requires.market.incoming_deals c.args.order c.requires.order
    c.args.numbers.now.start c.args.numbers.now.running.added c.requires.dealt.known.running.totals.inside c.requires.dealt.split c.requires.dealt.known.running.split c.loop-at.at c.loop-at.auto.at c.loop-at-test.true)

pub returns : goal.returns
returns c ys e s = record {
  inside = tt;
  same = pass-none-first c.args.market.now.orders.now c.requires.market.order_list c.args.market.now.deals.now c.requires.market.deal_list c.args.market.now.incoming_deals.now c.requires.market.incoming_deals c.args.order c.requires.order
      c.args.numbers.now.start c.args.numbers.now.running.added c.requires.dealt.known.running.totals.inside c.requires.dealt.split c.requires.dealt.known.running.split c.args.best ys e s (λ i from below. c.loop-at.invariant i from (omega arith));
}

pub returns-then-outranks : goal.returns-then-outranks
returns-then-outranks c ys e s =
    let orders = c.args.market.now.orders.now in
    let over_upto : c.args.best.index ≤ c.args.order = let b = c.requires.best.earlier in omega arith in
    let resting_upto = resting-upto orders c.requires.market.order_list c.args.market.now.deals.now c.requires.market.deal_list c.args.market.now.incoming_deals.now c.requires.market.incoming_deals c.args.order c.requires.order
    c.args.numbers.now.start c.args.numbers.now.running.added c.requires.dealt.known.running.totals.inside c.requires.dealt.split c.requires.dealt.known.running.split c.loop-at.at c.loop-at.auto.at c.loop-at-test.true in
    let flaw_is = c.priority_flaw.ensures ∙ priority-after c.args.market.now c.args.order c.requires.order c.args.numbers.now c.requires.dealt (incoming_deal_at c.args.market.now c.loop-at.at) c.args.best.index over_upto resting_upto in
    record {
      inside = subst (λ (f : Flaw). IsEvidenceInside orders f.evidence) (sym flaw_is) (let inside = c.requires.order in omega arith, let inside = c.requires.order in omega arith);
      same = pass-found-first orders c.requires.market.order_list c.args.market.now.deals.now c.requires.market.deal_list c.args.market.now.incoming_deals.now c.requires.market.incoming_deals c.args.order c.requires.order
          c.args.numbers.now.start c.args.numbers.now.running.added c.requires.dealt.known.running.totals.inside c.requires.dealt.split c.requires.dealt.known.running.split c.args.best ys e s c.loop-at.at c.loop-at.auto.at c.loop-at-test.true c.loop-at.invariant (sym c.outranks.ensures ∙ c.if-outranks.true)
          ∙ ap (λ (f : Flaw). Some (finding_of orders f)) (sym flaw_is);
    }

pub loop-at-preserved : goal.loop-at-preserved
loop-at-preserved c i from below = elim (cases_eq i c.loop-at.at) [
  | inr ne ↦ c.loop-at.invariant i from (omega (arith, ne))
  | inl e ↦ ap (λ (j : ℕ). better (order_at c.args.market.now.orders.now c.args.best.index) (order_at c.args.market.now.orders.now (resting_order_at c.args.market.now j))) e ∙ sym c.outranks.ensures ∙ c.if-outranks.false
]
