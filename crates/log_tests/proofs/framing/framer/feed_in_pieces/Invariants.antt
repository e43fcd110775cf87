use Rattle.std.proofs.Common.{◌-◌, length, drop}
use Rattle.fix_framing.specs.Framing.{FramerHasRoom}
use Rattle.log_tests.proofs.framing.framer.feed_in_pieces.Given as goal

abbrev pub invariant-pieces : goal.invariant-pieces
invariant-pieces g l = FramerHasRoom g.H.Headers.headers l.framer (drop l.from l.text)

abbrev pub decreases-pieces : goal.decreases-pieces
decreases-pieces g l = length l.text - l.from
