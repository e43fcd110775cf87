use Rattle.std.proofs.Common.{◌≡◌, ◌++◌, map, take}
use Rattle.audit_report.specs.LineParts.{part_text, later_parts_text}
use Rattle.audit_report.proofs.line_parts.append_rest.Given as goal

-- the parts so far are written
abbrev pub invariant-loop-part : goal.invariant-loop-part
invariant-loop-part l = l.out.items ≡ l.initial.out.items ++ later_parts_text (map part_text (take l.part-index l.parts))
