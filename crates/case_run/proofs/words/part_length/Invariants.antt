use Rattle.std.proofs.Common.{◌≡◌, ◌+◌, length, map}
use Rattle.std.specs.String.{string_bytes}
use Rattle.case_run.specs.Commands.{part_length}
use Rattle.case_run.proofs.words.part_length.Given as goal

-- no word so far is a separator
abbrev pub invariant-loop-word : goal.invariant-loop-word
invariant-loop-word l = record {
  counted : part_length (map string_bytes l.words) ≡ l.count + part_length (map string_bytes l.rest);
  inside : l.count + length l.rest ≡ length l.words;
}

abbrev pub decreases-loop-word : goal.decreases-loop-word
decreases-loop-word l = length l.rest
