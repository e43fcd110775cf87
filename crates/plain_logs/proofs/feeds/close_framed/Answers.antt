use Rattle.std.proofs.Common.{refl}
use Rattle.plain_logs.proofs.FeedLemmas.{framed-ends, framed-within}
use Rattle.plain_logs.proofs.feeds.close_framed.Goals as goal

pub close-requires : goal.close-requires
close-requires g c = framed-within g.W.SkippedGhost.skipped c.args.feed c.requires.skipped c.requires.within

pub returns : goal.returns
returns g c = framed-ends g.W.SkippedGhost.skipped c.args.feed c.in_ok-day.day.bodies _ c.bodies_fit_messages.ensures.framed c.requires.skipped refl c.in_ok-day.ensures
