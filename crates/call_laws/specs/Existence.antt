-- That a call always has an answer, as statements: an extreme over all prices, a list of deals that
-- conforms, and a verdict of the rule.
use Rattle.std.specs.Prelude.{ℕ, List, All, Option}
use Rattle.audit_base.specs.declared.terms.CallRule.{CallRule}
use Rattle.audit_base.specs.declared.terms.VolumeRule.{VolumeRule}
use Rattle.audit_base.specs.RuleKinds.{rule_of_call, rule_of_volume}
use Rattle.audit_base.specs.declared.orders.Order.{Order}
use Rattle.audit_base.specs.declared.orders.Deal.{Deal}
use Rattle.audit_base.specs.declared.orders.Cut.{Cut}
use Rattle.audit_base.specs.declared.findings.Finding.{Finding}
use Rattle.audit_base.specs.Orders.{IsOrderList, OrdersInRange}
use Rattle.audit_base.specs.Deals.{NamesOrders, DealsInRange}
use Rattle.audit_base.specs.Bounds.{IsLeastCut, IsGreatestExecutableVolume}
use Rattle.audit_base.specs.Rules.{Conforms, Only}
use Rattle.audit_base.specs.Expected.{IsExpected}
use Rattle.audit_base.specs.Verdicts.{IsRuleFinding}

-- each order list has a least cut over all prices
abbrev pub LeastCutExists : Type 0
LeastCutExists = (orders : List Order) → (c : Cut) × IsLeastCut orders c

-- each order list has a greatest executable volume over all prices
abbrev pub GreatestExecutableVolumeExists : Type 0
GreatestExecutableVolumeExists =
    (orders : List Order) → (c : Cut) × IsGreatestExecutableVolume orders c

-- under each rule of a call some list of deals conforms
abbrev pub CallConformingListExists : Type 0
CallConformingListExists = (the_rule : CallRule) (orders : List Order)
    → IsOrderList orders → OrdersInRange orders
    → (deals : List Deal) × DealsInRange deals × Conforms (rule_of_call the_rule) orders deals

-- under a rule that asks for a greatest volume there are Expected trades
abbrev pub ExpectedTradesExist : Type 0
ExpectedTradesExist = (the_rule : VolumeRule) (orders : List Order)
    → IsOrderList orders → OrdersInRange orders
    → (deals : List Deal) × IsExpected (rule_of_volume the_rule) orders deals

-- and each order has a due
abbrev pub DuesExist : Type 0
DuesExist =
    (the_rule : VolumeRule) (orders : List Order) → IsOrderList orders → OrdersInRange orders
    → (i : ℕ) → (due : ℕ) × Only (rule_of_volume the_rule) orders i due

-- under each rule of a call every list of deals conforms or has a first offence
abbrev pub CallVerdictExists : Type 0
CallVerdictExists = (the_rule : CallRule) (orders : List Order) (deals : List Deal) (count : ℕ)
    → IsOrderList orders → OrdersInRange orders → All (NamesOrders orders) deals
    → DealsInRange deals
    → (verdict : Option Finding) × IsRuleFinding (rule_of_call the_rule) orders deals count verdict
