-- The index found is that of the newest of the logs seen so far.
use Rattle.std.proofs.Common.{take}
use Rattle.log_source.proofs.CursorLemmas.{IsNewest}
use Rattle.log_source.proofs.cursors.newest_index.Given as goal

abbrev pub invariant-loop-index : goal.invariant-loop-index
invariant-loop-index l = IsNewest (take l.index l.logs) l.name l.found
