use Rattle.std.proofs.Common.{◌≡◌, ◌==◌, take}
use Rattle.std.specs.Prelude.{◌%◌, count_by}
use Rattle.csv_logs.specs.Columns.{is_quote}
use Rattle.csv_logs.proofs.lines.has_odd_quotes.Given as goal

-- whether the bytes so far have an odd number of quotes
abbrev pub invariant-loop-byte : goal.invariant-loop-byte
invariant-loop-byte l = l.odd ≡ (count_by is_quote (take l.byte-index l.line) % 2 == 1)
