use Rattle.std.proofs.Common.{◌≡◌}
use Rattle.day_page.specs.DayLines.{behind_commas}
use Rattle.day_page.proofs.lines.behind_commas.Given as goal

-- what is left is behind the commas so far
abbrev pub invariant-loop-comma : goal.invariant-loop-comma
invariant-loop-comma l = l.rest ≡ behind_commas l.comma l.line
