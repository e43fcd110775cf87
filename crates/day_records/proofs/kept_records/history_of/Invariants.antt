use Rattle.std.proofs.Common.{take}
use Rattle.day_records.specs.KeptRecords.{KnowsHistory}
use Rattle.day_records.proofs.kept_records.history_of.Given as goal

-- the history is known after the records so far
abbrev pub invariant-loop-index : goal.invariant-loop-index
invariant-loop-index l = KnowsHistory (take l.index l.orders.entries) l.history
