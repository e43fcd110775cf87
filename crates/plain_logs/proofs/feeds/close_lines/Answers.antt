use Rattle.std.proofs.Common.{refl}
use Rattle.plain_logs.proofs.FeedLemmas.{lines-ends, lines-within}
use Rattle.plain_logs.proofs.feeds.close_lines.Goals as goal

pub close-requires : goal.close-requires
close-requires g c = lines-within g.W.SkippedGhost.skipped g.S.SohGhost.text c.args.feed c.requires.skipped c.requires.within

pub returns : goal.returns
returns g c = lines-ends g.W.SkippedGhost.skipped g.S.SohGhost.text c.args.feed c.in_ok-day.day.bodies _ c.bodies_fit_messages.ensures.on_lines c.requires.skipped refl c.in_ok-day.ensures
