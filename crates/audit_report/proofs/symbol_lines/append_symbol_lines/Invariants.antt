use Rattle.std.proofs.Common.{◌≡◌, ◌++◌, drop}
use Rattle.audit_report.specs.DayTexts.{symbol_front, symbol_lines, with_line_fronts}
use Rattle.audit_report.proofs.symbol_lines.append_symbol_lines.Given as goal

-- what is written, and what the bytes that are left give, is the whole
abbrev pub invariant-loop-byte : goal.invariant-loop-byte
invariant-loop-byte l = l.out.items ++ with_line_fronts (symbol_front l.symbol) l.begins (drop l.byte-index l.report)
    ≡ l.initial.out.items ++ symbol_lines l.symbol l.report
