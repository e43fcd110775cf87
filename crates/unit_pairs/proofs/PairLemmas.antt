-- Pairs in another order.
use Rattle.std.proofs.Common.{List, map, IsPermutation}
use Rattle.std.proofs.lemmas.List.Sorted.{All-permutation, Contains-permutation, IsPermutation-map}
use Rattle.unit_pairs.specs.declared.lots.Lot.{Lot}
use Rattle.unit_pairs.specs.declared.meeting.UnitPair.{UnitPair}
use Rattle.unit_pairs.specs.Meeting.{unit_pair_orders, IsUnitPair, AreUnitPairs}

-- the same pairs in another order
pub pairs-moved : (bids asks : List Lot) (xs ys : List UnitPair) → IsPermutation xs ys → AreUnitPairs bids asks xs → AreUnitPairs bids asks ys
pairs-moved bids asks xs ys moved h = record {
  each = All-permutation (IsUnitPair bids asks) xs ys moved h.each;
  complete = λ k l hk hl some. Contains-permutation (map unit_pair_orders xs) (map unit_pair_orders ys) _ (IsPermutation-map unit_pair_orders xs ys moved) (h.complete k l hk hl some);
}
