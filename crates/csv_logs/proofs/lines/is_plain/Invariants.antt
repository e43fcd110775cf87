use Rattle.std.proofs.Common.{◌≡◌, true, length}
use Rattle.std.specs.List.{list_all}
use Rattle.csv_logs.specs.Readers.{is_plain_byte}
use Rattle.csv_logs.proofs.lines.is_plain.Given as goal

-- where what is left is plain, all is
abbrev pub invariant-parts : goal.invariant-parts
invariant-parts l = list_all is_plain_byte l.left ≡ true → list_all is_plain_byte l.fn.text ≡ true

abbrev pub decreases-parts : goal.decreases-parts
decreases-parts l = length l.left
