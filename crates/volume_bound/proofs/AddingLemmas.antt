-- The first limits of a side that are added are those that count, once the next one does not.
use Rattle.std.proofs.Common.{◌≡◌, ◌≤◌, ◌<◌, ◌+◌, ℕ, true, false, List, length, take, get_or, sym, subst, arith}
use Rattle.std.specs.List.{AllWithin}
use Rattle.std.specs.List.Sorted.{IsNonDecreasingBy, IsPartitionedBy}
use Rattle.std.proofs.lemmas.Bool.{both_ways, false_from_ne_true}
use Rattle.std.proofs.lemmas.List.Sums.{sum_by-take-drop}
use Rattle.std.proofs.lemmas.List.Sorted.{IsPartitionedBy-ltb, IsPartitionedBy-leb}
use Rattle.audit_base.proofs.OffenceLemmas.{get_or-default}
use Rattle.volume_bound.specs.declared.limits.LimitQuantity.{LimitQuantity}
use Rattle.volume_bound.specs.declared.adding.Edge.{Edge}
use Rattle.volume_bound.specs.declared.adding.Edge.TheVariants.{Below, Upto}
use Rattle.volume_bound.specs.Limits.{quantity_of_limits}
use Rattle.volume_bound.specs.Adding.{AllCount, limit_counts, counted_quantity}
use Rattle.volume_bound.proofs.LimitLemmas.{first-passes}

-- no limit that counts comes after one that does not
parted : (edge : Edge) (limits : List LimitQuantity) → IsNonDecreasingBy (λ l. l.limit) limits → IsPartitionedBy (λ l. limit_counts edge l.limit) limits
parted (Below p) limits rising = IsPartitionedBy-ltb (λ l. l.limit) limits p rising
parted (Upto p) limits rising = IsPartitionedBy-leb (λ l. l.limit) limits p rising

module _ (edge : Edge) (limits : List LimitQuantity) (rising : IsNonDecreasingBy (λ l. l.limit) limits) where
  -- where the limit at k counts, those before it do
  pub count-upto : (k : ℕ) (e : LimitQuantity) → k < length limits → limit_counts edge (get_or limits k e).limit ≡ true → AllCount edge limits (k + 1)
  count-upto k e lt t j d low below =
      parted edge limits rising j k d (omega arith) lt (subst (λ (l : LimitQuantity). limit_counts edge l.limit ≡ true) (get_or-default limits k e d lt) t)

  -- where the limit at n does not count, none from there on does
  none-after : (n : ℕ) → ((d : LimitQuantity) → n < length limits → limit_counts edge (get_or limits n d).limit ≡ false) → AllWithin (λ l. limit_counts edge l.limit ≡ false) limits n (length limits)
  none-after n fails k d from below = false_from_ne_true _ (λ t. both_ways _ (fails d (omega arith)) (parted edge limits rising n k d from below t))

  -- the first n, which count, have the quantity of all that count if the next does not
  pub all-added : (n : ℕ) → n ≤ length limits → AllCount edge limits n → ((d : LimitQuantity) → n < length limits → limit_counts edge (get_or limits n d).limit ≡ false) → quantity_of_limits (take n limits) ≡ counted_quantity edge limits
  all-added n le count fails = sym (first-passes (λ l. limit_counts edge l.limit) limits n le (count, none-after n fails))

-- the first limits have at most the quantity of all
pub part-of : (limits : List LimitQuantity) (n : ℕ) → quantity_of_limits (take n limits) ≤ quantity_of_limits limits
part-of limits n = omega (arith, sum_by-take-drop (λ l. l.quantity) limits n)
