use Rattle.std.proofs.Common.{◌≡◌, take}
use Rattle.std.specs.List.{flat_map}
use Rattle.case_run.specs.Lines.{case_line}
use Rattle.case_run.proofs.answers.list_text.Given as goal

-- the lines so far are written
abbrev pub invariant-loop-case : goal.invariant-loop-case
invariant-loop-case l = l.text.items ≡ flat_map case_line (take l.case-index l.cases)
