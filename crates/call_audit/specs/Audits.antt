-- What an audit of a rule that asks for the greatest volume answers.
use Rattle.std.specs.Prelude.{◌≡◌, ◌<◌, ℕ, List, length, IsSomeAnd}
use Rattle.audit_base.specs.declared.terms.CallRule.TheVariants as call
use Rattle.audit_base.specs.declared.terms.VolumeRule.{VolumeRule}
use Rattle.audit_base.specs.declared.orders.Order.{Order}
use Rattle.audit_base.specs.declared.orders.Deal.{Deal}
use Rattle.audit_base.specs.declared.orders.Cut.{Cut}
use Rattle.audit_base.specs.declared.findings.Finding.{Finding}
use Rattle.audit_base.specs.Deals.{traded, volume, DealsInRange, AreTotals}
use Rattle.audit_base.specs.Bounds.{IsBoundPrice}
use Rattle.audit_base.specs.RuleKinds.{rule_of_volume}
use Rattle.audit_base.specs.Rules.{Conforms, Only}
use Rattle.audit_base.specs.CallOffences.{IsCallOffence}
use Rattle.matching_core.specs.declared.outcomes.Reached.{Reached}
use Rattle.matching_core.specs.declared.outcomes.Outcome.{Outcome}
use Rattle.matching_core.specs.declared.outcomes.Outcome.TheVariants as outcome

-- a greatest volume of the rule with its bound: some conforming list of deals has this volume, and
-- the price is the least that shows it
pub record IsGreatestOf (the_rule : VolumeRule) (orders : List Order) (most : Cut) : Type 0 where
  pub deals : List Deal
  pub ranges : DealsInRange deals
  pub conforms : Conforms (rule_of_volume the_rule) orders deals
  pub reached : volume deals ≡ most.volume
  pub bound : IsBoundPrice the_rule orders most.volume most.price

-- a bound of this volume under the rule
pub record IsReachedBound (the_rule : VolumeRule) (orders : List Order) (volume : ℕ)
    (bound : Cut) : Type 0 where
  pub volume_is : bound.volume ≡ volume
  pub shows : IsBoundPrice the_rule orders volume bound.price

-- the deals conform, with what each order traded (in every conforming list of deals the same), the
-- volume and the bound
pub record IsConformingCall (the_rule : VolumeRule) (orders : List Order) (deals : List Deal)
    (conforming : Reached) : Type 0 where
  pub conforms : Conforms (rule_of_volume the_rule) orders deals
  pub totals : AreTotals orders deals conforming.traded.0
  pub volume_is : conforming.traded.1 ≡ volume deals
  pub bound_is : IsSomeAnd conforming.bound (IsReachedBound the_rule orders (volume deals))
  pub only : (i : ℕ) → i < length orders
      → Only (rule_of_volume the_rule) orders i (traded deals i)

-- the deals do not conform, and this is the first offence
pub record IsBrokenCall (the_rule : VolumeRule) (orders : List Order) (deals : List Deal)
    (count : ℕ) (finding : Finding) : Type 0 where
  pub offence : IsCallOffence (call.Greatest the_rule) orders deals count finding
  pub fails : Conforms (rule_of_volume the_rule) orders deals → ⊥

-- what an audit answers: that the deals conform, or their first offence. `count` is the number of
-- trades of the whole log
abbrev pub IsCallOutcome : VolumeRule → List Order → List Deal → ℕ → Outcome → Type 0
IsCallOutcome the_rule orders deals count (outcome.Conforms conforming) =
    IsConformingCall the_rule orders deals conforming
IsCallOutcome the_rule orders deals count (outcome.Broken finding) =
    IsBrokenCall the_rule orders deals count finding
