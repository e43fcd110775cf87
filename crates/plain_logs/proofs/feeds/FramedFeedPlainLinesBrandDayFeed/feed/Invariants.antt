-- what the feed has handed on before is skipped
use Rattle.fix_days.specs.Fronts.{framed_count}
use Rattle.plain_logs.proofs.feeds.FramedFeedPlainLinesBrandDayFeed.feed.Given as goal

abbrev pub ghosts-feed_framed : goal.ghosts-feed_framed
ghosts-feed_framed a = record { skipped = framed_count a.feed.now }
