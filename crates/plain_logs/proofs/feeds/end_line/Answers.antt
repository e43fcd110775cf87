use Rattle.std.proofs.Common.{refl}
use Rattle.plain_logs.proofs.FeedLemmas.{line-ends, lines-within}
use Rattle.plain_logs.proofs.feeds.end_line.Goals as goal

pub end_day-requires-clause-within : goal.end_day-requires-clause-within
end_day-requires-clause-within g c = lines-within g.W.SkippedGhost.skipped g.S.SohGhost.text c.args.feed.now c.requires.skipped c.requires.within

pub returns-clause-ends : goal.returns-clause-ends
returns-clause-ends g c = rw c.replace-lines.ensures.taken (line-ends g.W.SkippedGhost.skipped g.S.SohGhost.text c.args.feed.now c.end_day.new.self.bodies _ c.bodies_fit_messages.ensures.on_lines c.requires.skipped refl c.in_ok-end.ensures.ends)
