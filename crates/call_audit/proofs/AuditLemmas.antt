-- A fair matching and the greatest volume of the rule decide the audit.
use Rattle.std.proofs.Common.{◌≡◌, ℕ, ◌<◌, ◌≤◌, List, All, Option, Some, sym, ap, ◌∙◌, subst}
use Rattle.std.specs.Prelude.{option_map, ◌+◌}
use Rattle.audit_base.specs.declared.terms.Side.{Side}
use Rattle.audit_base.specs.declared.terms.Side.TheVariants.{Buy, Sell}
use Rattle.audit_base.specs.declared.terms.CallRule.TheVariants as call
use Rattle.audit_base.specs.declared.terms.VolumeRule.{VolumeRule}
use Rattle.audit_base.specs.declared.orders.Order.{Order}
use Rattle.audit_base.specs.declared.orders.Deal.{Deal}
use Rattle.audit_base.specs.declared.orders.Cut.{Cut}
use Rattle.audit_base.specs.declared.findings.Finding.{Finding}
use Rattle.audit_base.specs.declared.flaws.DueOrder.{DueOrder}
use Rattle.audit_base.specs.declared.flaws.Evidence.TheVariants.{Volume}
use Rattle.audit_base.specs.RuleKinds.{asks_one_price}
use Rattle.audit_base.specs.Orders.{IsOrderList}
use Rattle.audit_base.specs.Deals.{volume, NamesOrders, DealsInRange, AreTotals}
use Rattle.audit_base.specs.Bounds.{IsBoundPrice}
use Rattle.audit_base.specs.Units.{due_by_rank}
use Rattle.audit_base.specs.Flaws.{finding_of}
use Rattle.audit_base.specs.CallOffences.{best_short, IsGreatestUnder, IsCallOffence}
use Rattle.audit_base.proofs.VerdictLemmas.{call_offence-fails}
use Rattle.call_laws.proofs.ConformLemmas.{conforms-fair, conforms-greatest, greatest-conforms, only-quantities}
use Rattle.call_laws.proofs.ShortLemmas.{best-stands, lesser-best}
use Rattle.call_laws.proofs.VolumeLemmas.{reached, due_order, below, early-offence, late-offence}
use Rattle.matching_core.specs.declared.outcomes.Outcome.{Outcome}
use Rattle.matching_core.specs.declared.outcomes.Outcome.TheVariants as outcome
use Rattle.call_audit.specs.FairMatchings.{IsFairMatching, IsFairMatchingOffence}
use Rattle.call_audit.specs.Audits.{IsGreatestOf, IsBrokenCall, IsCallOutcome}
use Rattle.call_audit.specs.Dues.{order_with_due}
use Rattle.call_audit.specs.Outcomes.{best_short_with_due, IsBestShortWithDue, IsVolumeFinding, IsVolumeOutcome}

-- what is said of the best short orders is what the finding of the volume shows
module _ (orders : List Order) (known : List ℕ × ℕ) (count most : ℕ) where
  pub volume-finding : (traded : List ℕ) (v : ℕ) (bid ask : Option DueOrder) (finding : Finding) → traded ≡ known.0 → v ≡ known.1
      → IsBestShortWithDue orders traded most Buy bid → IsBestShortWithDue orders traded most Sell ask
      → finding ≡ finding_of orders (record { place = count + 1; evidence = Volume (record { reached = v; greatest = most }) bid ask }) → IsVolumeFinding orders known count most finding
  volume-finding traded v bid ask finding traded_is v_is short_bid short_ask is deals totals =
      let are = subst (AreTotals orders deals) (sym traded_is) totals in
      let first = short_bid deals are ∙ ap (λ (t : List ℕ). best_short_with_due orders deals t most Buy) traded_is in
      let second = short_ask deals are ∙ ap (λ (t : List ℕ). best_short_with_due orders deals t most Sell) traded_is in
      is ∙ (λ j. finding_of orders (record { place = count + 1; evidence = Volume (record { reached = v_is j; greatest = most }) (first j) (second j) }))

-- a first offence, which no deals that conform have
broken : (r : VolumeRule) (orders : List Order) (deals : List Deal) (count : ℕ) (finding : Finding) → DealsInRange deals → IsCallOffence (call.Greatest r) orders deals count finding → IsBrokenCall r orders deals count finding
broken r orders deals count finding ranges offence = record { offence = offence; fails = call_offence-fails (call.Greatest r) orders deals count finding ranges offence }

-- a finding before the volume is the first offence
pub broken_early : (r : VolumeRule) (orders : List Order) (deals : List Deal) (count : ℕ) (finding : Finding) → DealsInRange deals
    → IsFairMatchingOffence (asks_one_price r) orders deals finding → IsBrokenCall r orders deals count finding
broken_early r orders deals count finding ranges some = broken r orders deals count finding ranges (early-offence (call.Greatest r) orders deals count finding some)

-- the best short order of a side, with its due of the greatest volume
short-due : (orders : List Order) (deals : List Deal) (totals : List ℕ) (side : Side) (most v i : ℕ) → AreTotals orders deals totals → most ≡ v → best_short orders deals side ≡ Some i
    → best_short_with_due orders deals totals most side ≡ Some (due_order orders deals side v i)
short-due orders deals totals side most v i are same e =
    let s = best-stands orders deals side i e in
    ap (option_map (order_with_due orders totals most)) e
    ∙ (λ j. Some (record { order = record { index = i; traded = are.each i s.inside j }; due = due_by_rank orders (s.of_side j) (same j) i }))

-- what is said of the volume of a fair matching is the answer of the audit
pub audited : (r : VolumeRule) (orders : List Order) (deals : List Deal) (count : ℕ) (most : Cut) (known : List ℕ × ℕ) (result : Outcome) → IsOrderList orders → All (NamesOrders orders) deals → DealsInRange deals
    → IsGreatestOf r orders most → IsFairMatching (asks_one_price r) orders deals known → IsVolumeOutcome orders known count most result → IsCallOutcome r orders deals count result
audited r orders deals count most known (outcome.Broken finding) list named ranges g f (lt, is) =
    let less : volume deals < volume g.deals = subst (λ v. v < volume g.deals) f.volume_is (subst (λ v. known.1 < v) (sym g.reached) lt) in
    let n = (conforms-fair r orders g.deals g.conforms).0 in
    let bid = lesser-best orders deals g.deals f.matching n less Buy in
    let ask = lesser-best orders deals g.deals f.matching n less Sell in
    let first = short-due orders deals known.0 Buy most.volume (volume g.deals) bid.0 f.totals (sym g.reached) bid.1 in
    let second = short-due orders deals known.0 Sell most.volume (volume g.deals) ask.0 f.totals (sym g.reached) ask.1 in
    let shows = is deals f.totals ∙ (λ j. finding_of orders (record { place = count + 1; evidence = Volume (record { reached = f.volume_is j; greatest = sym g.reached j }) (first j) (second j) })) in
    broken r orders deals count finding ranges (late-offence r orders deals count finding f.no_offence (below r orders deals g.deals count bid.0 ask.0 finding list g.ranges g.conforms less bid.1 ask.1 shows))
audited r orders deals count most known (outcome.Conforms reached_is) list named ranges g f (le, is) =
    let over : volume g.deals ≤ volume deals = subst (λ v. volume g.deals ≤ v) f.volume_is (subst (λ v. v ≤ known.1) (sym g.reached) le) in
    let c = reached r orders deals g.deals named f.no_offence g.conforms over in
    let same = sym (conforms-greatest r orders deals most.volume ranges c (subst (IsGreatestUnder r orders) g.reached (greatest-conforms r orders g.deals g.ranges g.conforms))) in
    rw is (record {
      conforms = c;
      totals = f.totals;
      volume_is = f.volume_is;
      bound_is = record { volume_is = same; shows = subst (λ v. IsBoundPrice r orders v most.price) same g.bound };
      only = λ i lt. only-quantities r orders deals list ranges c i;
    })
