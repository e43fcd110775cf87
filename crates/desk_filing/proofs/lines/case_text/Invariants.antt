use Rattle.std.proofs.Common.{◌≡◌, take}
use Rattle.desk_filing.specs.Steps.{case_lines}
use Rattle.desk_filing.proofs.lines.case_text.Given as goal

-- the lines so far are written
abbrev pub invariant-loop-one : goal.invariant-loop-one
invariant-loop-one l = l.made.items ≡ case_lines (take l.one-index l.cases)
