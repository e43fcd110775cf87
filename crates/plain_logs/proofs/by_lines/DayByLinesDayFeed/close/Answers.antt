use Rattle.std.proofs.Common.{None, refl}
use Rattle.plain_logs.proofs.ByLinesLemmas.{day-ended}
use Rattle.plain_logs.proofs.by_lines.DayByLinesDayFeed.close.Goals as goal

pub returns : goal.returns
returns g c =
    day-ended g.T.DayWriter.writes g.T.DayWriter.items_of g.S.SohGhost.text g.T.DayWriter.last_items c.args.self c.end_line.new.self c.new-text.result.items c.end_line.new.out.items (record { text = c.append_end.new.out; bad = None }) c.new-text.ensures.items refl
    c.in_ok-end_line.ensures c.in_ok-append_end.ensures
