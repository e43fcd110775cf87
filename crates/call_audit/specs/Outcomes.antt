-- What is said of the volume of a fair matching.
use Rattle.std.specs.Prelude.{◌≡◌, ◌<◌, ◌≤◌, ℕ, ◌+◌, List, Option, Some, option_map}
use Rattle.audit_base.specs.declared.terms.Side.{Side}
use Rattle.audit_base.specs.declared.terms.Side.TheVariants.{Buy, Sell}
use Rattle.audit_base.specs.declared.orders.Order.{Order}
use Rattle.audit_base.specs.declared.orders.Deal.{Deal}
use Rattle.audit_base.specs.declared.orders.Cut.{Cut}
use Rattle.audit_base.specs.declared.findings.Finding.{Finding}
use Rattle.audit_base.specs.declared.findings.Short.{Short}
use Rattle.audit_base.specs.declared.flaws.DueOrder.{DueOrder}
use Rattle.audit_base.specs.declared.flaws.Evidence.TheVariants.{Volume}
use Rattle.audit_base.specs.Deals.{AreTotals}
use Rattle.audit_base.specs.CallOffences.{best_short}
use Rattle.audit_base.specs.Flaws.{finding_of}
use Rattle.matching_core.specs.declared.outcomes.Outcome.{Outcome}
use Rattle.matching_core.specs.declared.outcomes.Outcome.TheVariants as outcome
use Rattle.call_audit.specs.Dues.{order_with_due}

-- the best short order of a side with its due, if it has one
abbrev pub best_short_with_due : List Order → List Deal → List ℕ → ℕ → Side → Option DueOrder
best_short_with_due orders deals traded most side =
    option_map (order_with_due orders traded most) (best_short orders deals side)

-- whichever deals the totals are of: the best short order of the side with its due
abbrev pub IsBestShortWithDue : List Order → List ℕ → ℕ → Side → Option DueOrder → Type 0
IsBestShortWithDue orders traded most side short =
    (deals : List Deal) → AreTotals orders deals traded
    → short ≡ best_short_with_due orders deals traded most side

-- whichever deals the totals are of: the finding of a volume below the greatest, after the last
-- trade, with the best short order of each side
abbrev pub IsVolumeFinding : List Order → List ℕ × ℕ → ℕ → ℕ → Finding → Type 0
IsVolumeFinding orders totals count most finding =
    let traded = totals.0 in let volumes : Short = record { reached = totals.1; greatest = most } in
    (deals : List Deal) → AreTotals orders deals traded → finding ≡ finding_of orders (record {
      place = count + 1;
      evidence = Volume volumes (best_short_with_due orders deals traded most Buy)
          (best_short_with_due orders deals traded most Sell);
    })

-- the finding where the volume is below the greatest, and else what was reached
abbrev pub IsVolumeOutcome : List Order → List ℕ × ℕ → ℕ → Cut → Outcome → Type 0
IsVolumeOutcome orders totals count most (outcome.Broken finding) =
    (totals.1 < most.volume) × IsVolumeFinding orders totals count most.volume finding
IsVolumeOutcome orders totals count most (outcome.Conforms conforming) =
    (most.volume ≤ totals.1) × (conforming ≡ record { traded = totals; bound = Some most })
