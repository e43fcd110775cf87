use Rattle.std.proofs.Common.{◌≡◌, take}
use Rattle.continuous_audit.proofs.auditing.widen.Given as goal

abbrev pub invariant-loop-index : goal.invariant-loop-index
invariant-loop-index l = l.wide.items ≡ take l.index l.numbers
