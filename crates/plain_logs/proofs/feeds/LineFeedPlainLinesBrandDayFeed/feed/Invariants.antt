-- what the feed has handed on before is skipped
use Rattle.fix_days.specs.Fronts.{line_count}
use Rattle.plain_logs.proofs.feeds.LineFeedPlainLinesBrandDayFeed.feed.Given as goal

abbrev pub ghosts-feed_lines : goal.ghosts-feed_lines
ghosts-feed_lines g a = record { skipped = line_count a.feed.now }
