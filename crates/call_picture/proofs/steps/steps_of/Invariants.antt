use Rattle.std.specs.Prelude.{List, take}
use Rattle.audit_base.specs.declared.terms.Side.{Side}
use Rattle.audit_base.specs.declared.orders.Deal.{Deal}
use Rattle.audit_base.specs.Deals.{AreTotals}
use Rattle.audit_base.specs.Priority.{IsRanked}
use Rattle.call_picture.specs.Merging.{AreStepsSoFar, IsStepSmall}
use Rattle.call_picture.proofs.steps.steps_of.Given as goal

abbrev pub invariant-loop-at : goal.invariant-loop-at
invariant-loop-at l = IsStepSmall l.at l.step
    × ((deals : List Deal) (side : Side) → AreTotals l.orders deals l.traded → IsRanked l.orders side l.ranks
    → AreStepsSoFar l.orders deals side l.fn.by_limit (take l.at l.ranks) l.steps.items l.step)
