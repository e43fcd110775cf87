-- The laws of a call auction, as statements.
use Rattle.std.specs.Prelude.{◌≡◌, ◌≢◌, ◌<◌, ℕ, IsTrue, List, None}
use Rattle.audit_base.specs.declared.terms.Side.{Side}
use Rattle.audit_base.specs.declared.terms.Side.TheVariants.{Buy, Sell}
use Rattle.audit_base.specs.declared.terms.VolumeRule.{VolumeRule}
use Rattle.audit_base.specs.declared.orders.Order.{Order}
use Rattle.audit_base.specs.declared.orders.Deal.{Deal}
use Rattle.audit_base.specs.Orders.{limit_at, IsUncancelledOn, IsOrderList, OrdersInRange}
use Rattle.audit_base.specs.Deals.{traded, volume, DealsInRange}
use Rattle.audit_base.specs.Calls.{Matching, Fair}
use Rattle.audit_base.specs.RuleKinds.{rule_of_volume}
use Rattle.audit_base.specs.Rules.{Conforms, Only}
use Rattle.audit_base.specs.CallOffences.{is_short, best_short}
use Rattle.audit_base.specs.Units.{due_by_rank}

-- a fair matching fills its volume by rank: an order trades what the better ones leave
-- of the volume, up to its quantity
abbrev pub FairVolumeFillsByRank : Type 0
FairVolumeFillsByRank = (orders : List Order) (deals : List Deal)
    → IsOrderList orders → Matching orders deals → Fair orders deals
    → (side : Side) (i : ℕ) → IsUncancelledOn orders side i
    → traded deals i ≡ due_by_rank orders side (volume deals) i

-- two fair matchings of one volume trade the same with each order
abbrev pub FairVolumeFixesQuantities : Type 0
FairVolumeFixesQuantities = (orders : List Order) (first second : List Deal) → IsOrderList orders
    → Matching orders first → Fair orders first → Matching orders second → Fair orders second
    → volume first ≡ volume second → (i : ℕ) → traded first i ≡ traded second i

-- where the volume is the greatest that the rule allows, the limits of a short bid
-- and a short ask do not meet
abbrev pub ShortOrdersDoNotMeet : Type 0
ShortOrdersDoNotMeet = (the_rule : VolumeRule) (orders : List Order) (deals : List Deal)
    → OrdersInRange orders → DealsInRange deals → Conforms (rule_of_volume the_rule) orders deals
    → (bid ask : ℕ) → IsTrue (is_short orders deals Buy bid)
    → IsTrue (is_short orders deals Sell ask)
    → limit_at orders bid < limit_at orders ask

-- where another matching has a greater volume, each side has a short order, and so a best one
abbrev pub LowVolumeLeavesShortOrders : Type 0
LowVolumeLeavesShortOrders = (orders : List Order) (deals others : List Deal)
    → Matching orders deals → Matching orders others → volume deals < volume others
    → (side : Side) → best_short orders deals side ≢ None

-- under a rule that asks for a greatest volume, what an order trades in one
-- conforming list of deals is its due
abbrev pub OnlyQuantities : Type 0
OnlyQuantities = (the_rule : VolumeRule) (orders : List Order) (deals : List Deal)
    → IsOrderList orders → DealsInRange deals → Conforms (rule_of_volume the_rule) orders deals
    → (i : ℕ) → Only (rule_of_volume the_rule) orders i (traded deals i)

-- so its due is what the better ones leave of the volume that conforms, up to its quantity
abbrev pub DueByRank : Type 0
DueByRank = (the_rule : VolumeRule) (orders : List Order) (deals : List Deal)
    → IsOrderList orders → DealsInRange deals → Conforms (rule_of_volume the_rule) orders deals
    → (v : ℕ) → volume deals ≡ v → (side : Side) (i : ℕ) → IsUncancelledOn orders side i
    → Only (rule_of_volume the_rule) orders i (due_by_rank orders side v i)
