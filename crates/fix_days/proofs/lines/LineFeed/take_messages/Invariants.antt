use Rattle.std.proofs.Common.{◌≡◌, ℕ, List, None, length}
use Rattle.fix_days.specs.LineFeeds.{HasLines}
use Rattle.fix_days.specs.LineSteps.{HasDay, unread}
use Rattle.fix_days.proofs.lines.LineFeed.take_messages.Given as goal

-- what was read of a day stays read
abbrev pub invariant-messages : goal.invariant-messages
invariant-messages g l =
    (l.self.bad ≡ None) × HasDay g.S.SohGhost.text g.B.Bodies.has_taken l.fn.ended l.self
    × ((day : List ℕ) → HasLines g.S.SohGhost.text g.B.Bodies.has_taken l.fn.ended l.initial.self day → HasLines g.S.SohGhost.text g.B.Bodies.has_taken l.fn.ended l.self day)

abbrev pub decreases-messages : goal.decreases-messages
decreases-messages g l = length (unread l.self)
