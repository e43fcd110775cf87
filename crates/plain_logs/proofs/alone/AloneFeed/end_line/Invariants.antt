-- what the feed has handed on before is skipped
use Rattle.fix_days.specs.Fronts.{line_count}
use Rattle.plain_logs.proofs.alone.AloneFeed.end_line.Given as goal

abbrev pub ghosts-end_line : goal.ghosts-end_line
ghosts-end_line g a = record { skipped = line_count a.feed.now }
