-- Under each rule of a call some list of deals conforms, and each list of deals conforms or has a first offence.
use Rattle.std.proofs.Common.{◌≡◌, ℕ, List, false, Option, Some, None, refl, inl, inr, All}
use Rattle.std.proofs.lemmas.Bool.{cases_lt}
use Rattle.audit_base.specs.declared.terms.Side.TheVariants.{Buy, Sell}
use Rattle.audit_base.specs.declared.terms.CallRule.{CallRule}
use Rattle.audit_base.specs.declared.terms.CallRule.TheVariants as call
use Rattle.audit_base.specs.declared.terms.VolumeRule.TheVariants as of_volume
use Rattle.audit_base.specs.RuleKinds.{rule_of_call, asks_one_price}
use Rattle.audit_base.specs.declared.orders.Order.{Order}
use Rattle.audit_base.specs.declared.orders.Deal.{Deal}
use Rattle.audit_base.specs.declared.findings.Finding.{Finding}
use Rattle.audit_base.specs.Orders.{IsOrderList, OrdersInRange}
use Rattle.audit_base.specs.Deals.{NamesOrders, traded, volume}
use Rattle.audit_base.specs.CallOffences.{matching_offence, fair_offence, offence_before_volume}
use Rattle.audit_base.specs.Flaws.{finding_of}
use Rattle.audit_base.specs.Verdicts.{IsRuleFinding}
use Rattle.audit_base.proofs.LeastLemmas.{cases_Option, option_or-parts}
use Rattle.audit_base.proofs.OffenceLemmas.{no_offence-matching, no_offence-fair}
use Rattle.call_laws.specs.Existence.{CallConformingListExists, ExpectedTradesExist, DuesExist, CallVerdictExists}
use Rattle.call_laws.proofs.ConformLemmas.{conforms-fair, only-quantities}
use Rattle.call_laws.proofs.ExtremeLemmas.{least-cut, greatest-executable}
use Rattle.call_laws.proofs.OptimumLemmas.{uniform-conforms, uniform-expected, uniform-ranges, maximum-conforms, maximum-expected, maximum-ranges}
use Rattle.call_laws.proofs.ShortLemmas.{lesser-best}
use Rattle.call_laws.proofs.VolumeLemmas.{reached, volume_flaw, below, early-offence, late-offence, first-of_call}

-- some list of deals conforms
pub conforming : CallConformingListExists
conforming call.Matching orders list ranges =
    let c = least-cut orders in
    let m = maximum-conforms orders c.0 list ranges c.1 in
    (_, maximum-ranges orders c.0 list ranges c.1, m.matching)
conforming call.Fair orders list ranges =
    let c = least-cut orders in
    let m = maximum-conforms orders c.0 list ranges c.1 in
    (_, maximum-ranges orders c.0 list ranges c.1, record { matching = m.matching; fair = m.fair })
conforming (call.Greatest of_volume.Uniform) orders list ranges =
    let c = greatest-executable orders in
    (_, uniform-ranges orders c.0 list ranges c.1, uniform-conforms orders c.0 list ranges c.1)
conforming (call.Greatest of_volume.Maximum) orders list ranges =
    let c = least-cut orders in
    (_, maximum-ranges orders c.0 list ranges c.1, maximum-conforms orders c.0 list ranges c.1)

-- so are the Expected trades, and each order has a due
pub expected-exist : ExpectedTradesExist
expected-exist of_volume.Uniform orders list ranges = let c = greatest-executable orders in (_, uniform-expected orders c.0 list ranges c.1)
expected-exist of_volume.Maximum orders list ranges = let c = least-cut orders in (_, maximum-expected orders c.0 list ranges c.1)

pub dues-exist : DuesExist
dues-exist the_rule orders list ranges i =
    let c = conforming (call.Greatest the_rule) orders list ranges in
    (traded c.0 i, only-quantities the_rule orders c.0 list c.1 c.2 i)

-- where nothing is found before the volume, the deals conform or their volume is the first offence
late_verdict : (r : CallRule) (orders : List Order) (deals : List Deal) (count : ℕ) → offence_before_volume r orders deals ≡ None → IsOrderList orders → OrdersInRange orders → All (NamesOrders orders) deals
    → (v : Option Finding) × IsRuleFinding (rule_of_call r) orders deals count v
late_verdict call.Matching orders deals count none list ranges named = (None, no_offence-matching false orders deals named none)
late_verdict call.Fair orders deals count none list ranges named =
    let parts = option_or-parts (matching_offence false orders deals) (fair_offence orders deals) none in
    let m = no_offence-matching false orders deals named parts.0 in
    (None, record { matching = m; fair = no_offence-fair orders deals m parts.1 })
late_verdict (call.Greatest r) orders deals count none list ranges named =
    let others = conforming (call.Greatest r) orders list ranges in
    elim (cases_lt (volume deals) (volume others.0)) [
      | inr most ↦ (None, reached r orders deals others.0 named none others.2 most)
      | inl lt ↦
          let parts = option_or-parts (matching_offence (asks_one_price r) orders deals) (fair_offence orders deals) none in
          let m = no_offence-matching (asks_one_price r) orders deals named parts.0 in
          let n = (conforms-fair r orders others.0 others.2).0 in
          let bid = lesser-best orders deals others.0 m n lt Buy in
          let ask = lesser-best orders deals others.0 m n lt Sell in
          let f = finding_of orders (volume_flaw orders deals count (volume others.0) bid.0 ask.0) in
          (Some f, first-of_call (call.Greatest r) orders deals count f (late-offence r orders deals count f none (below r orders deals others.0 count bid.0 ask.0 f list others.1 others.2 lt bid.1 ask.1 refl)))
    ]

-- each list of deals conforms or has a first offence
pub verdict : CallVerdictExists
verdict r orders deals count list ranges named range = elim (cases_Option (offence_before_volume r orders deals)) [
  | inr (f, some) ↦ (Some f, first-of_call r orders deals count f (early-offence r orders deals count f some))
  | inl none ↦ late_verdict r orders deals count none list ranges named
]
