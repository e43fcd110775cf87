use Rattle.std.proofs.Common.{◌≡◌, take}
use Rattle.std.specs.List.{list_all}
use Rattle.csv_logs.specs.Columns.{is_printable}
use Rattle.csv_logs.proofs.lines.is_printable.Given as goal

-- whether the bytes so far are printable
abbrev pub invariant-loop-byte : goal.invariant-loop-byte
invariant-loop-byte l = l.printable ≡ list_all is_printable (take l.byte-index l.line)
