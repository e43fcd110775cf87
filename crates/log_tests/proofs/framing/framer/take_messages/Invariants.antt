use Rattle.std.proofs.Common.{ℕ, List, length}
use Rattle.fix_framing.specs.Framing.{FramerHasRoom, bytes_unframed}
use Rattle.log_tests.proofs.framing.framer.take_messages.Given as goal

abbrev pub invariant-messages : goal.invariant-messages
invariant-messages g l = (piece : List ℕ) → FramerHasRoom g.H.Headers.headers l.initial.framer piece → FramerHasRoom g.H.Headers.headers l.framer piece

abbrev pub decreases-messages : goal.decreases-messages
decreases-messages g l = length (bytes_unframed l.framer)
