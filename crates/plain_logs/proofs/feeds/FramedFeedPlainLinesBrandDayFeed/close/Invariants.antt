-- what the feed has handed on before is skipped
use Rattle.fix_days.specs.Fronts.{framed_count}
use Rattle.plain_logs.proofs.feeds.FramedFeedPlainLinesBrandDayFeed.close.Given as goal

abbrev pub ghosts-close_framed : goal.ghosts-close_framed
ghosts-close_framed a = record { skipped = framed_count a.feed }
