use Rattle.std.proofs.Common.{◌<◌, ◌+◌, ◌-◌, ◌/◌, ◌∙◌, sym, arith, length}
use Rattle.symbol_offences.proofs.PlaceLemmas.{between-all, no-place, place-found}
use Rattle.symbol_offences.proofs.places.find_place.Goals as goal

pub halves-init : goal.halves-init
halves-init g c = between-all (g.P.PlacedList.places c.args.list.now) c.args.place c.count-to.result c.count-to.ensures c.requires

pub returns-then-found-place : goal.returns-then-found-place
returns-then-found-place g c =
    let is = c.halves.invariant in
    let half : c.halves.from + (c.halves.to - c.halves.from) / 2 < c.halves.to = omega (arith, c.halves-test.true) in
    let below : c.halves.from + (c.halves.to - c.halves.from) / 2 < length (g.P.PlacedList.places c.args.list.now) = omega (arith, half, is.within) in
    sym (place-found (g.P.PlacedList.places c.args.list.now) c.args.place (c.halves.from + (c.halves.to - c.halves.from) / 2) is.rising below (sym c.place_at-found.ensures ∙ c.if-found-place.true))

pub returns : goal.returns
returns g c = sym (no-place (g.P.PlacedList.places c.args.list.now) c.args.place c.halves.from c.halves.to c.halves.invariant c.halves-test.false)
