use Rattle.std.proofs.Common.{ℕ, List, ◌+◌, ◌∙◌, ap, length, sym, subst, take, drop, arith}
use Rattle.std.proofs.Math.Seq.{take-add}
use Rattle.std.proofs.lemmas.List.{drop-drop, length-drop, take-append-drop, take_all}
use Rattle.fix_days.proofs.UndressLemmas.{rest-all}
use Rattle.plain_logs.specs.DayFeeds.{HasRoomForPiece}
use Rattle.plain_logs.specs.Writers.{HasReadItems, TakesBytes, TakesFirst}
use Rattle.plain_logs.proofs.ByLinesLemmas.{room-left, takes-none, takes-on}
use Rattle.plain_logs.proofs.by_lines.DayByLines.take_lines.Goals as goal

pub lines-init : goal.lines-init
lines-init g c = (omega arith, c.requires, takes-none g.T.DayWriter.writes (HasReadItems g.T.DayWriter.items_of g.S.SohGhost.text) c.args.self.now c.args.out.now.items)

pub take_first-requires-clause-room : goal.take_first-requires-clause-room
take_first-requires-clause-room g c =
    subst (HasRoomForPiece (HasReadItems g.T.DayWriter.items_of g.S.SohGhost.text) c.lines.self) (sym (rest-all c.args.piece.now c.lines.at)) c.lines.invariant.1

pub lines-smaller : goal.lines-smaller
lines-smaller g c =
    let first = c.in_ok-count.ensures in
    let some = first.some in
    let inside = first.inside in
    let size = ap length (rest-all c.args.piece.now c.lines.at) ∙ length-drop c.lines.at c.args.piece.now in
    omega (arith, some, inside, size)

pub lines-preserved : goal.lines-preserved
lines-preserved g c =
    let piece = c.args.piece.now in
    let at = c.lines.at in
    let count = c.in_ok-count.count in
    let has = HasReadItems g.T.DayWriter.items_of g.S.SohGhost.text in
    let rest = drop at piece in
    let first = subst (λ (t : List ℕ). TakesFirst g.T.DayWriter.writes has c.lines.self c.take_first.new.self t count c.lines.out.items c.take_first.new.out.items) (rest-all piece at) c.in_ok-count.ensures in
    let inside = first.inside in
    let size = length-drop at piece in
    let before = c.lines.invariant.0 in (
      omega (arith, inside, size, before),
      subst (HasRoomForPiece has c.take_first.new.self) (drop-drop count at piece)
          (room-left g.T.DayWriter.writes has c.lines.self c.take_first.new.self (take count rest) (drop count rest) rest c.lines.out.items c.take_first.new.out.items (sym (take-append-drop count rest)) c.lines.invariant.1 first.takes),
      takes-on g.T.DayWriter.writes has c.args.self.now c.lines.self c.take_first.new.self (take at piece) (take count rest) (take (at + count) piece) c.args.out.now.items c.lines.out.items c.take_first.new.out.items (take-add at count piece) c.lines.invariant.2 first.takes,
    )

pub returns : goal.returns
returns g c =
    subst (λ (t : List ℕ). TakesBytes g.T.DayWriter.writes (HasReadItems g.T.DayWriter.items_of g.S.SohGhost.text) c.args.self.now c.lines.self t c.args.out.now.items c.lines.out.items) (take_all c.lines.at c.args.piece.now (omega arith)) c.lines.invariant.2
