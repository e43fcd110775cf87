-- Counts of calls and faults, and the calls that are to fail.
use Rattle.std.specs.Prelude.{ℕ, ◌+◌, ◌-◌, ◌^◌, ◌==◌, min, Bool, List, if◌then◌else◌}
use Rattle.std.specs.List.{list_any}

-- the count after one more: a count stays at the greatest value that it can show
abbrev pub count_after : ℕ → ℕ
count_after count = min (count + 1) (2 ^ 64 - 1)

-- the faults after a call: one more where it failed as it was to
abbrev pub faults_after : Bool → ℕ → ℕ
faults_after fails faults = if fails then count_after faults else faults

-- the number is among those of the calls that are to fail
abbrev pub is_failing_number : ℕ → List ℕ → Bool
is_failing_number number fails = list_any (λ n. n == number) fails
