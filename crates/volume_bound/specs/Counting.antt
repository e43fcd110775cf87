-- What is counted at a price, and what of each side is added there.
use Rattle.volume_bound.specs.declared.sums.CountedSides.{CountedSides}
use Rattle.volume_bound.specs.Adding.{AreAddedLimits}
use Rattle.volume_bound.specs.Sides.{SideLimits}

-- first limits of each side, with their quantities added
pub record AreCountedSides (sides : SideLimits) (counted : CountedSides) : Type 0 where
  pub bids : AreAddedLimits sides.bids counted.bids
  pub asks : AreAddedLimits sides.asks counted.asks
