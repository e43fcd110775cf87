use Rattle.plain_logs.proofs.ByLinesLemmas.{piece-read}
use Rattle.plain_logs.proofs.by_lines.DayByLinesDayFeed.feed.Goals as goal

pub returns : goal.returns
returns g c =
    piece-read g.T.DayWriter.writes g.T.DayWriter.items_of g.S.SohGhost.text g.T.DayWriter.last_items c.args.self.now c.take_lines.new.self c.args.piece.now c.clear.new.self.items c.take_lines.new.out.items c.clear.ensures.items c.in_ok-take_lines.ensures
