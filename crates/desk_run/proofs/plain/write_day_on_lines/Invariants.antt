use Rattle.desk_run.proofs.plain.write_day_on_lines.Given as goal

-- the text that is given stands for SOH
abbrev pub ghosts-write_day_lines : goal.ghosts-write_day_lines
ghosts-write_day_lines g a = record { text = a.soh.items }
