use Rattle.std.proofs.Common.{◌≡◌, ◌<◌, ◌∙◌, sym, ap, None, Some, length, arith}
use Rattle.std.specs.Prelude.{option_map}
use Rattle.audit_base.specs.Deals.{deal_at, deal_past_end}
use Rattle.audit_base.specs.CallOffences.{matching_finding, matching_offence}
use Rattle.audit_base.proofs.OffenceLemmas.{get_or-default, no_offence-matching, no_offence-one_price, matching-no_offence}
use Rattle.audit_base.proofs.LeastLemmas.{least-at}
use Rattle.matching_core.specs.DealFlaws.{finding_at_deal}
use Rattle.matching_core.proofs.CheckLemmas.{finding_read, gone_further, on_true, true_on}
use Rattle.matching_core.proofs.checking.check_matching.Goals as goal

pub deals-preserved : goal.deals-preserved
deals-preserved c =
    let orders = c.args.orders.now in
    let deals = c.args.deals.now in
    let k = c.deals.deal-index in
    let lt : k < length deals = c.deals-test.true in
    let d_is : c.deal-item.result ≡ deal_at deals k = c.deal-item.is ∙ get_or-default deals k c.deal-item.result deal_past_end lt in
    let first_is : c.index-deals-0.result ≡ deal_at deals 0 = c.index-deals-0.is ∙ get_or-default deals 0 c.index-deals-0.result deal_past_end (omega arith) in
    let read = finding_read c.args.uniform orders deals k lt c.requires.named c.deal-item.result d_is c.deals.traded.items c.deals.volume c.value-quantity.result c.deals.invariant c.value-quantity.ensures.same (rw c.value-quantity.ensures.same c.value-quantity.ensures.in_range.most) c.index-deals-0.result c.add_deal-bid_traded.result.0 c.add_deal-bid_traded.result.1 first_is c.add_deal-bid_traded.ensures.bid c.add_deal-bid_traded.ensures.ask in
    let none : matching_finding c.args.uniform orders deals k ≡ None = sym read ∙ ap (option_map (finding_at_deal orders c.deal-item.result)) (sym c.matching_evidence.ensures.first ∙ c.in_default.is) in
    gone_further c.args.uniform orders deals k lt c.requires.named c.deal-item.result d_is c.deals.traded.items c.deals.volume c.value-quantity.result c.deals.invariant c.value-quantity.ensures.same (rw c.value-quantity.ensures.same c.value-quantity.ensures.in_range.most) c.add_deal-bid_traded.new.traded.items c.add_deal-bid_traded.ensures.added none

pub returns-in-Some-clause-found : goal.returns-in-Some-clause-found
returns-in-Some-clause-found c finding is =
    let orders = c.args.orders.now in
    let deals = c.args.deals.now in
    let k = c.deals.deal-index in
    let lt : k < length deals = c.deals-test.true in
    let d_is : c.deal-item.result ≡ deal_at deals k = c.deal-item.is ∙ get_or-default deals k c.deal-item.result deal_past_end lt in
    let first_is : c.index-deals-0.result ≡ deal_at deals 0 = c.index-deals-0.is ∙ get_or-default deals 0 c.index-deals-0.result deal_past_end (omega arith) in
    let read = finding_read c.args.uniform orders deals k lt c.requires.named c.deal-item.result d_is c.deals.traded.items c.deals.volume c.value-quantity.result c.deals.invariant c.value-quantity.ensures.same (rw c.value-quantity.ensures.same c.value-quantity.ensures.in_range.most) c.index-deals-0.result c.add_deal-bid_traded.result.0 c.add_deal-bid_traded.result.1 first_is c.add_deal-bid_traded.ensures.bid c.add_deal-bid_traded.ensures.ask in
    let here : finding_at_deal orders c.deal-item.result c.in-Some.evidence ≡ finding = sym c.finding.ensures ∙ cc in
    let found : matching_finding c.args.uniform orders deals k ≡ Some finding = sym read ∙ ap (option_map (finding_at_deal orders c.deal-item.result)) (sym c.matching_evidence.ensures.first ∙ c.in-Some.is) ∙ ap Some here in
    least-at (matching_finding c.args.uniform orders deals) (length deals) k finding lt c.deals.invariant.clean found

pub returns-clause-matching : goal.returns-clause-matching
returns-clause-matching c =
    let all : c.deals.deal-index ≡ length c.args.deals.now = omega (arith, c.deals.auto.deal-index-end) in
    no_offence-matching c.args.uniform c.args.orders.now c.args.deals.now c.requires.named (rw (← all) c.deals.invariant.clean)

pub returns-clause-one_price : goal.returns-clause-one_price
returns-clause-one_price c =
    let all : c.deals.deal-index ≡ length c.args.deals.now = omega (arith, c.deals.auto.deal-index-end) in
    let none : matching_offence c.args.uniform c.args.orders.now c.args.deals.now ≡ None = rw (← all) c.deals.invariant.clean in
    on_true c.args.uniform (λ uniform. no_offence-one_price c.args.uniform c.args.orders.now c.args.deals.now uniform none)

pub returns-in-Some-clause-only : goal.returns-in-Some-clause-only
returns-in-Some-clause-only c finding is matching one_price =
    let found = returns-in-Some-clause-found c finding is in
    let none = matching-no_offence c.args.uniform c.args.orders.now c.args.deals.now matching (λ uniform. true_on c.args.uniform uniform one_price) in
    absurd cc
