use Rattle.std.proofs.Common.{◌≡◌, take}
use Rattle.std.specs.List.{list_all}
use Rattle.csv_logs.specs.Readers.{is_plain_byte}
use Rattle.csv_logs.proofs.lines.are_plain.Given as goal

-- whether the bytes so far are plain
abbrev pub invariant-loop-byte : goal.invariant-loop-byte
invariant-loop-byte l = l.plain ≡ list_all is_plain_byte (take l.byte-index l.text)
