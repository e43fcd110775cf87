-- The bytes so far were taken.
use Rattle.std.proofs.Common.{◌-◌, ◌≤◌, length, take, drop}
use Rattle.plain_logs.specs.DayFeeds.{HasRoomForPiece}
use Rattle.plain_logs.specs.Writers.{HasReadItems, TakesBytes}
use Rattle.plain_logs.proofs.by_lines.DayByLines.take_lines.Given as goal

abbrev pub invariant-lines : goal.invariant-lines
invariant-lines g l =
    (l.at ≤ length l.fn.piece) × HasRoomForPiece (HasReadItems g.T.DayWriter.items_of g.S.SohGhost.text) l.self (drop l.at l.fn.piece)
    × TakesBytes g.T.DayWriter.writes (HasReadItems g.T.DayWriter.items_of g.S.SohGhost.text) l.initial.self l.self (take l.at l.fn.piece) l.fn.out.items l.out.items

abbrev pub decreases-lines : goal.decreases-lines
decreases-lines g l = length l.fn.piece - l.at
