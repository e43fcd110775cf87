use Rattle.std.proofs.Common.{◌≡◌, ◌++◌, take}
use Rattle.symbol_offences.specs.Telling.{offences_quoted}
use Rattle.symbol_offences.proofs.listing.append_each.Given as goal

-- the lines so far are written
abbrev pub invariant-loop-offence : goal.invariant-loop-offence
invariant-loop-offence l =
    l.out.items ≡ l.initial.out.items ++ offences_quoted l.orders l.quoted (take l.offence-index l.found)
