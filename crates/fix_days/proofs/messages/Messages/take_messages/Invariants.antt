use Rattle.std.proofs.Common.{◌≡◌, ℕ, List, None, length}
use Rattle.fix_framing.specs.Framing.{bytes_unframed}
use Rattle.fix_days.specs.Messages.{HasReadOf, HasText}
use Rattle.fix_days.proofs.messages.Messages.take_messages.Given as goal

-- what was read of a text stays read
abbrev pub invariant-messages : goal.invariant-messages
invariant-messages g l =
    (l.self.bad ≡ None) × HasText g.B.Bodies.has_taken l.self × (l.self.start ≡ l.initial.self.start)
    × ((text : List ℕ) → HasReadOf g.B.Bodies.has_taken l.initial.self text → HasReadOf g.B.Bodies.has_taken l.self text)

abbrev pub decreases-messages : goal.decreases-messages
decreases-messages g l = length (bytes_unframed l.self.framer)
