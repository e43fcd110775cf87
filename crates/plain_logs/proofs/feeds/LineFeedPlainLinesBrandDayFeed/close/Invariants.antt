-- what the feed has handed on before is skipped
use Rattle.fix_days.specs.Fronts.{line_count}
use Rattle.plain_logs.proofs.feeds.LineFeedPlainLinesBrandDayFeed.close.Given as goal

abbrev pub ghosts-close_lines : goal.ghosts-close_lines
ghosts-close_lines g a = record { skipped = line_count a.feed }
