-- What the audit of one phase answers, whatever its rule is.
use Rattle.std.specs.Prelude.{ℕ, List}
use Rattle.audit_base.specs.declared.terms.Rule.{Rule}
use Rattle.audit_base.specs.declared.orders.Order.{Order}
use Rattle.audit_base.specs.declared.orders.Deal.{Deal}
use Rattle.audit_base.specs.declared.findings.Finding.{Finding}
use Rattle.audit_base.specs.Deals.{AreTotals}
use Rattle.audit_base.specs.Rules.{Conforms}
use Rattle.audit_base.specs.Verdicts.{IsFirstOffence}
use Rattle.matching_core.specs.declared.outcomes.Reached.{Reached}
use Rattle.matching_core.specs.declared.outcomes.Outcome.{Outcome}
use Rattle.matching_core.specs.declared.outcomes.Outcome.TheVariants as outcome

-- the deals conform, with what each order traded
pub record IsConformingPhase (the_rule : Rule) (orders : List Order) (deals : List Deal)
    (conforming : Reached) : Type 0 where
  pub conforms : Conforms the_rule orders deals
  pub totals : AreTotals orders deals conforming.traded.0

-- the deals do not conform, and this is the first offence
pub record IsBrokenPhase (the_rule : Rule) (orders : List Order) (deals : List Deal) (count : ℕ)
    (finding : Finding) : Type 0 where
  pub offence : IsFirstOffence the_rule orders deals count finding
  pub fails : Conforms the_rule orders deals → ⊥

-- what the audit of a phase answers: that its deals conform, or their first offence
abbrev pub IsPhaseOutcome : Rule → List Order → List Deal → ℕ → Outcome → Type 0
IsPhaseOutcome the_rule orders deals count (outcome.Conforms conforming) =
    IsConformingPhase the_rule orders deals conforming
IsPhaseOutcome the_rule orders deals count (outcome.Broken finding) =
    IsBrokenPhase the_rule orders deals count finding
