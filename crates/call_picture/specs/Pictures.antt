-- The picture of a call.
use Rattle.std.specs.Prelude.{◌≡◌, ◌<◌, ◌+◌, ◌^◌, ℕ, nat_lt, List, length}
use Rattle.audit_base.specs.declared.terms.Side.{Side}
use Rattle.audit_base.specs.declared.terms.Side.TheVariants.{Buy, Sell}
use Rattle.audit_base.specs.declared.orders.Order.{Order}
use Rattle.audit_base.specs.declared.orders.Deal.{Deal}
use Rattle.audit_base.specs.Deals.{volume}
use Rattle.audit_base.specs.Priority.{IsRanked}
use Rattle.call_picture.specs.declared.pictures.CallPicture.{CallPicture}
use Rattle.call_picture.specs.declared.pictures.SidePicture.{SidePicture}
use Rattle.call_picture.specs.declared.steps.SideStep.{SideStep}
use Rattle.call_picture.specs.Steps.{AreSteps}
use Rattle.call_picture.specs.Windows.{IsDrawn, quantity_of_steps}

-- a side of the picture: of the steps of its orders that no record cancels, best first, those
-- around the end of the volume. Beyond 400 orders the orders of one limit are one step
pub record IsSidePicture (orders : List Order) (deals : List Deal) (side : Side) (reached : ℕ)
    (picture : SidePicture) : Type 0 where
  pub ranks : List ℕ
  pub ranked : IsRanked orders side ranks
  pub by_limit : picture.by_limit ≡ nat_lt 400 (length ranks)
  pub all : List SideStep
  pub steps : AreSteps orders deals side picture.by_limit ranks all
  pub drawn : IsDrawn reached all picture.drawn

-- both sides, and the volume
pub record IsCallPicture (orders : List Order) (deals : List Deal)
    (picture : CallPicture) : Type 0 where
  pub bids : IsSidePicture orders deals Buy (volume deals) picture.bids
  pub asks : IsSidePicture orders deals Sell (volume deals) picture.asks
  pub volume_is : picture.volume ≡ volume deals

-- the quantities of a side up to the last step that is drawn, and the volume, fit an axis
pub record IsPictureInRange (picture : CallPicture) : Type 0 where
  pub bids : picture.bids.drawn.before + quantity_of_steps picture.bids.drawn.steps.items < 2 ^ 80
  pub asks : picture.asks.drawn.before + quantity_of_steps picture.asks.drawn.steps.items < 2 ^ 80
  pub volume : picture.volume < 2 ^ 80
