-- The first limits of a side, up to a price.
use Rattle.std.specs.Prelude.{◌≡◌, ◌≤◌, ℕ, Bool, true, List, take, length, sum_by, nat_lt, nat_le, if◌then◌else◌}
use Rattle.std.specs.List.{AllWithin}
use Rattle.volume_bound.specs.declared.limits.LimitQuantity.{LimitQuantity}
use Rattle.volume_bound.specs.declared.adding.Edge.{Edge}
use Rattle.volume_bound.specs.declared.adding.Edge.TheVariants.{Below, Upto}
use Rattle.volume_bound.specs.declared.adding.AddedLimits.{AddedLimits}
use Rattle.volume_bound.specs.Limits.{quantity_of_limits}

-- a limit counts: it is below the price, or at most the price
abbrev pub limit_counts : Edge → ℕ → Bool
limit_counts (Below p) limit = nat_lt limit p
limit_counts (Upto p) limit = nat_le limit p

-- the quantities of the limits that count, added
abbrev pub counted_quantity : Edge → List LimitQuantity → ℕ
counted_quantity edge limits =
    sum_by (λ l. if limit_counts edge l.limit then l.quantity else 0) limits

-- as many of the first limits as are counted, with their quantities added
pub record AreAddedLimits (limits : List LimitQuantity) (added : AddedLimits) : Type 0 where
  pub inside : added.count ≤ length limits
  pub whole : added.sum ≡ quantity_of_limits (take added.count limits)

-- the first n limits count
abbrev pub AllCount : Edge → List LimitQuantity → ℕ → Type 0
AllCount edge limits n = AllWithin (λ l. limit_counts edge l.limit ≡ true) limits 0 n
