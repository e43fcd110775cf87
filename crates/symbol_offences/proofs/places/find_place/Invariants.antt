use Rattle.std.proofs.Common.{◌-◌}
use Rattle.symbol_offences.proofs.PlaceLemmas.{IsBetween}
use Rattle.symbol_offences.proofs.places.find_place.Given as goal

-- the place is not outside of what is left
abbrev pub invariant-halves : goal.invariant-halves
invariant-halves g l = IsBetween (g.P.PlacedList.places l.fn.list) l.fn.place l.from l.to

abbrev pub decreases-halves : goal.decreases-halves
decreases-halves g l = l.to - l.from
