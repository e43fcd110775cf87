use Rattle.std.proofs.Common.{◌≡◌, ◌++◌, take}
use Rattle.std.specs.List.{flat_map}
use Rattle.symbol_offences.specs.OffenceLines.{quoted_failure}
use Rattle.symbol_offences.proofs.further.append_each.Given as goal

-- the lines so far are written
abbrev pub invariant-loop-finding : goal.invariant-loop-finding
invariant-loop-finding l =
    l.out.items ≡ l.initial.out.items ++ flat_map (quoted_failure l.quoted) (take l.finding-index l.found)
