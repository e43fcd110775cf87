use Rattle.day_logs.proofs.reading.read_day.Given as goal

-- the day is the share that is asked for
abbrev pub ghosts-read_share : goal.ghosts-read_share
ghosts-read_share g a = record { share = a.share }
