use Rattle.std.proofs.Common.{◌≡◌, ◌∙◌, sym, ap, refl, subst, ℕ, None, Some, length, add-one, arith, inl, inr}
use Rattle.std.specs.Prelude.{option_map}
use Rattle.audit_base.specs.declared.terms.Side.TheVariants.{Buy, Sell}
use Rattle.audit_base.specs.Flaws.{finding_of}
use Rattle.audit_base.specs.Least.{least_answer}
use Rattle.audit_base.proofs.LeastLemmas.{cases_Option, least-at, least-none_more}
use Rattle.audit_base.proofs.OffenceLemmas.{no_offence-fair}
use Rattle.fairness.proofs.PassingLemmas.{best-stands, unfair, unfair-is, unfair-breaks}
use Rattle.fairness.proofs.checking.check_passing.Goals as goal

pub unfair_flaw-requires-clause-short_bid : goal.unfair_flaw-requires-clause-short_bid
unfair_flaw-requires-clause-short_bid c = best-stands c.args.orders.now c.args.deals.now Buy c.args.short_bid
    c.requires.short_bid

pub unfair_flaw-requires-clause-short_ask : goal.unfair_flaw-requires-clause-short_ask
unfair_flaw-requires-clause-short_ask c = best-stands c.args.orders.now c.args.deals.now Sell c.args.short_ask
    c.requires.short_ask

pub returns-in-Some-clause-offence : goal.returns-in-Some-clause-offence
returns-in-Some-clause-offence c =
    let bid = c.requires.short_bid in
    let ask = c.requires.short_ask in
    let is = unfair-is c.args.orders.now c.args.deals.now c.args.traded.now c.requires.order_list c.requires.totals c.args.short_bid c.args.short_ask bid ask c.requires.matching c.loop-deal.deal-index c.loop-deal-test.true c.deal-item.result c.deal-item.is in
    let found : unfair c.args.orders.now c.args.deals.now c.loop-deal.deal-index ≡ Some c.finding.result = sym is ∙ ap (option_map (finding_of c.args.orders.now)) (sym c.unfair_flaw.ensures.unfair ∙ c.in-Some.is) ∙ ap Some (sym c.finding.ensures) in
    sym (least-at (unfair c.args.orders.now c.args.deals.now) (length c.args.deals.now) c.loop-deal.deal-index c.finding.result c.loop-deal-test.true c.loop-deal.invariant found)

pub returns-in-Some-clause-fair : goal.returns-in-Some-clause-fair
returns-in-Some-clause-fair c = (
  λ e. cc,
  λ fair.
      let bid = c.requires.short_bid in
      let ask = c.requires.short_ask in
      absurd (unfair-breaks c.args.orders.now c.args.deals.now c.args.traded.now c.requires.order_list c.requires.totals c.args.short_bid c.args.short_ask bid ask c.requires.matching c.loop-deal.deal-index c.loop-deal-test.true c.deal-item.result c.deal-item.is c.in-Some.flaw (sym c.unfair_flaw.ensures.unfair ∙ c.in-Some.is) c.deals_in_range.ensures fair),
)

pub loop-deal-preserved : goal.loop-deal-preserved
loop-deal-preserved c =
    let bid = c.requires.short_bid in
    let ask = c.requires.short_ask in
    let is = unfair-is c.args.orders.now c.args.deals.now c.args.traded.now c.requires.order_list c.requires.totals c.args.short_bid c.args.short_ask bid ask c.requires.matching c.loop-deal.deal-index c.loop-deal-test.true c.deal-item.result c.deal-item.is in
    let none : unfair c.args.orders.now c.args.deals.now c.loop-deal.deal-index ≡ None =
    sym is ∙ ap (option_map (finding_of c.args.orders.now)) (sym c.unfair_flaw.ensures.unfair ∙ elim (cases_Option c.unfair_flaw.result) [ inl e ↦ e | inr some ↦ absurd (c.in_default.not-Some some.0 some.1) ]) in
    rw add-one (least-none_more (unfair c.args.orders.now c.args.deals.now) c.loop-deal.deal-index c.loop-deal.invariant none)

pub returns-clause-fair : goal.returns-clause-fair
returns-clause-fair c = (
  λ e.
      let all : c.loop-deal.deal-index ≡ length c.args.deals.now = omega (arith, c.loop-deal.auto.deal-index-end) in
      no_offence-fair c.args.orders.now c.args.deals.now c.requires.matching (subst (λ (n : ℕ). least_answer (unfair c.args.orders.now c.args.deals.now) n ≡ None) all c.loop-deal.invariant),
  λ fair. refl,
)
