use Rattle.std.proofs.Common.{◌-◌, length}
use Rattle.fix_days.specs.Undressings.{Undresses}
use Rattle.fix_days.proofs.undressing.undress.Given as goal

-- what was appended so far
abbrev pub invariant-units : goal.invariant-units
invariant-units l = Undresses l.fn.soh l.fn.text l.fn.at l.fn.ended l.initial.out.items l.out.items l.to

abbrev pub decreases-units : goal.decreases-units
decreases-units l = length l.fn.text - l.to
