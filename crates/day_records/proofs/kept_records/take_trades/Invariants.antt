use Rattle.std.proofs.Common.{take}
use Rattle.day_records.specs.KeptRecords.{KnowsTrades}
use Rattle.day_records.proofs.kept_records.take_trades.Given as goal

-- the symbol is known after the trades so far
abbrev pub invariant-loop-index : goal.invariant-loop-index
invariant-loop-index l = KnowsTrades (take l.index l.trades.trades) l.initial.known l.known
