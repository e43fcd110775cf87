use Rattle.std.proofs.Common.{◌≡◌, ◌++◌}
use Rattle.session_audit.specs.Texts.{total_lines}
use Rattle.session_audit.proofs.texts.append_total_lines.Given as goal

abbrev pub invariant-loop-index : goal.invariant-loop-index
invariant-loop-index l = l.out.items ≡ l.initial.out.items ++ total_lines l.orders l.totals l.index
