-- What was picked is what passes of the cases seen so far.
use Rattle.std.proofs.Common.{◌≡◌, take}
use Rattle.case_keeper.specs.Cases.{passing_cases}
use Rattle.case_keeper.proofs.case_list.pick.Given as goal

abbrev pub invariant-loop-case : goal.invariant-loop-case
invariant-loop-case l = l.picked.items ≡ passing_cases l.filter (take l.case-index l.cases)
