use Rattle.std.proofs.Common.{◌≡◌, take}
use Rattle.csv.specs.declared.parser.State.TheVariants.{StartField}
use Rattle.csv_logs.specs.Readers.{state_after_bytes, state_of}
use Rattle.csv_logs.proofs.lines.closes_quotes.Given as goal

-- the state is that behind the bytes so far
abbrev pub invariant-loop-byte : goal.invariant-loop-byte
invariant-loop-byte l = state_of l.state ≡ state_after_bytes StartField (take l.byte-index l.line)
