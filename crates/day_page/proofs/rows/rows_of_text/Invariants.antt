use Rattle.std.proofs.Common.{◌≡◌, ◌++◌, length}
use Rattle.day_page.specs.Rows.{rows_of_text}
use Rattle.day_page.proofs.rows.rows_of_text.Given as goal

-- the rows so far, and those of what is left, are those of the text
abbrev pub invariant-loop-rest : goal.invariant-loop-rest
invariant-loop-rest l = l.rows ++ rows_of_text l.asked l.rest ≡ rows_of_text l.asked l.text

abbrev pub decreases-loop-rest : goal.decreases-loop-rest
decreases-loop-rest l = length l.rest
