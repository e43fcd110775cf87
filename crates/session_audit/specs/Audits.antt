-- What the audit of a day answers.
use Rattle.std.specs.Prelude.{◌≡◌, ℕ, List}
use Rattle.audit_base.specs.declared.orders.Order.{Order}
use Rattle.audit_base.specs.declared.orders.Deal.{Deal}
use Rattle.audit_base.specs.declared.findings.Finding.{Finding}
use Rattle.audit_base.specs.Deals.{AreTotals, volume}
use Rattle.session_audit.specs.declared.days.Day.{Day}
use Rattle.session_audit.specs.declared.days.Day.TheVariants as day
use Rattle.session_audit.specs.declared.phases.Phase.{Phase}
use Rattle.session_audit.specs.Days.{ConformsDay, IsDayOffence}

-- the day conforms, with what each order traded over the whole day, and the volume
pub record IsConformingDay (phases : List Phase) (orders : List Order) (deals : List Deal)
    (totals : List ℕ × ℕ) : Type 0 where
  pub conforms : ConformsDay phases orders deals
  pub totals_are : AreTotals orders deals totals.0
  pub volume_is : totals.1 ≡ volume deals

-- the day does not conform, and this is its first offence
pub record IsBrokenDay (phases : List Phase) (orders : List Order) (deals : List Deal) (count : ℕ)
    (finding : Finding) : Type 0 where
  pub offence : IsDayOffence phases orders deals count finding
  pub fails : ConformsDay phases orders deals → ⊥

-- what the audit answers: that the day conforms, or its first offence; `count` is the number of
-- trades of the whole log
abbrev pub IsDayOutcome : List Phase → List Order → List Deal → ℕ → Day → Type 0
IsDayOutcome phases orders deals count (day.Conforms totals) =
    IsConformingDay phases orders deals totals
IsDayOutcome phases orders deals count (day.Broken finding) =
    IsBrokenDay phases orders deals count finding
