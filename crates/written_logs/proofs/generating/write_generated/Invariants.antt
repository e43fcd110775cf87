-- the first records are written, and no more than are asked for
use Rattle.std.proofs.Common.{◌-◌, ◌≤◌}
use Rattle.written_logs.specs.GeneratedBlocks.{HasWrittenFirst}
use Rattle.written_logs.proofs.generating.write_generated.Given as goal

abbrev pub invariant-loop-written : goal.invariant-loop-written
invariant-loop-written g l =
    (l.written ≤ l.count) × HasWrittenFirst l.form l.start l.written l.state (g.K.Sink.state l.fn.out) (g.K.Sink.state l.out)

abbrev pub decreases-loop-written : goal.decreases-loop-written
decreases-loop-written g l = l.count - l.written
