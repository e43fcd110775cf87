use Rattle.std.proofs.Common.{◌≡◌, ◌++◌, map, take}
use Rattle.audit_report.specs.LineParts.{later_parts_text}
use Rattle.session_audit.specs.Texts.{phase_text}
use Rattle.session_audit.proofs.texts.append_rest.Given as goal

abbrev pub invariant-loop-phase : goal.invariant-loop-phase
invariant-loop-phase l = l.out.items ≡ l.initial.out.items ++ later_parts_text (map phase_text (take l.phase-index l.phases))
