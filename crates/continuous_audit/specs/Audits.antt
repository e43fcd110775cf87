-- What the audit answers.
use Rattle.std.specs.Prelude.{◌≡◌, ℕ, List, None}
use Rattle.audit_base.specs.declared.terms.Rule.TheVariants as rule
use Rattle.audit_base.specs.declared.orders.Order.{Order}
use Rattle.audit_base.specs.declared.orders.Deal.{Deal}
use Rattle.audit_base.specs.declared.findings.Finding.{Finding}
use Rattle.audit_base.specs.Deals.{AreTotals, pair, volume}
use Rattle.audit_base.specs.Histories.{Regular}
use Rattle.audit_base.specs.Rules.{OnlyPair}
use Rattle.audit_base.specs.ContinuousRules.{ConformsContinuous}
use Rattle.audit_base.specs.ContinuousOffences.{IsContinuousOffence}
use Rattle.matching_core.specs.declared.outcomes.Reached.{Reached}
use Rattle.matching_core.specs.declared.outcomes.Outcome.{Outcome}
use Rattle.matching_core.specs.declared.outcomes.Outcome.TheVariants as outcome

-- the deals conform, with what each order traded and the volume; on a regular order list what each
-- pair trades is the only quantity that the rule allows it
pub record IsConformingContinuous (orders : List Order) (deals : List Deal)
    (reached : Reached) : Type 0 where
  pub conforms : ConformsContinuous orders deals
  pub totals : AreTotals orders deals reached.traded.0
  pub volume_is : reached.traded.1 ≡ volume deals
  pub no_bound : reached.bound ≡ None
  pub only : Regular orders → (bid ask : ℕ)
      → OnlyPair rule.Continuous orders bid ask (pair deals bid ask)

-- the deals do not conform, and this is the first offence
pub record IsBrokenContinuous (orders : List Order) (deals : List Deal)
    (finding : Finding) : Type 0 where
  pub offence : IsContinuousOffence orders deals finding
  pub fails : ConformsContinuous orders deals → ⊥

-- what the audit answers: that the deals conform, or their first offence
abbrev pub IsContinuousOutcome : List Order → List Deal → Outcome → Type 0
IsContinuousOutcome orders deals (outcome.Conforms reached) =
    IsConformingContinuous orders deals reached
IsContinuousOutcome orders deals (outcome.Broken finding) =
    IsBrokenContinuous orders deals finding
