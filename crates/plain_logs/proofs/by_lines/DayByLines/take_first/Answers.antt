use Rattle.std.proofs.Common.{sym, [], ◌∷◌, ◌+◌, take, drop, arith}
use Rattle.std.proofs.lemmas.List.{take-append-drop}
use Rattle.plain_logs.specs.Writers.{HasReadItems}
use Rattle.plain_logs.proofs.ByLinesLemmas.{ends-at, line-taken, no-end, no-end-before, room-left, room-part, takes-on}
use Rattle.plain_logs.proofs.by_lines.DayByLines.take_first.Goals as goal

pub take_part-requires-clause-one_line : goal.take_part-requires-clause-one_line
take_part-requires-clause-one_line g c = no-end c.args.bytes.now c.in_default.ensures

pub take_part-requires-2-clause-one_line : goal.take_part-requires-2-clause-one_line
take_part-requires-2-clause-one_line g c = no-end-before c.args.bytes.now c.in-Some.end c.in-Some.ensures

pub end_line-requires : goal.end_line-requires
end_line-requires g c =
    let left = room-left g.T.DayWriter.writes (HasReadItems g.T.DayWriter.items_of g.S.SohGhost.text) c.args.self.now c.take_part-2.new.self (take c.in-Some.end c.args.bytes.now) (drop c.in-Some.end c.args.bytes.now) c.args.bytes.now c.args.out.now.items c.take_part-2.new.out.items
    (sym (take-append-drop c.in-Some.end c.args.bytes.now)) c.requires.room c.in_ok-take_part-2.ensures in
    room-part g.T.DayWriter.writes g.T.DayWriter.items_of g.S.SohGhost.text c.take_part-2.new.self (drop c.in-Some.end c.args.bytes.now) 0 left (omega arith)

pub returns : goal.returns
returns g c =
    let found = c.in-Some.ensures in
    let high = found.0.high in
    record {
      some = omega arith;
      inside = omega (arith, high);
      takes = takes-on g.T.DayWriter.writes (HasReadItems g.T.DayWriter.items_of g.S.SohGhost.text) c.args.self.now c.take_part-2.new.self c.end_line.new.self (take c.in-Some.end c.args.bytes.now) (10 ∷ []) (take (c.in-Some.end + 1) c.args.bytes.now)
          c.args.out.now.items c.take_part-2.new.out.items c.end_line.new.out.items (ends-at c.args.bytes.now c.in-Some.end found) c.in_ok-take_part-2.ensures
          (line-taken g.T.DayWriter.writes g.T.DayWriter.items_of g.S.SohGhost.text c.take_part-2.new.self c.end_line.new.self c.take_part-2.new.out.items c.end_line.new.out.items c.in_ok-end_line.ensures);
    }
