use Rattle.log_tests.proofs.days.lines.read_in_pieces.Given as goal

-- the text that is given stands for SOH
abbrev pub ghosts-read_dressed : goal.ghosts-read_dressed
ghosts-read_dressed a = record { text = a.soh.now }
