use Rattle.std.proofs.Common.{◌≡◌, take}
use Rattle.std.specs.List.{list_all}
use Rattle.csv_logs.specs.Columns.{is_unquoted_byte}
use Rattle.csv_logs.proofs.lines.is_unquoted.Given as goal

-- whether the bytes so far are unquoted
abbrev pub invariant-loop-byte : goal.invariant-loop-byte
invariant-loop-byte l = l.unquoted ≡ list_all is_unquoted_byte (take l.byte-index l.line)
