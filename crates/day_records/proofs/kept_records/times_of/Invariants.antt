use Rattle.std.proofs.Common.{◌≡◌, take}
use Rattle.day_records.specs.KeptRecords.{times_listed}
use Rattle.day_records.proofs.kept_records.times_of.Given as goal

-- the times of the trades so far
abbrev pub invariant-loop-index : goal.invariant-loop-index
invariant-loop-index l = l.times.items ≡ times_listed (take l.index l.trades.trades)
