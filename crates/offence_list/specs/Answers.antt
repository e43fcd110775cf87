-- All answers to a question that is asked of each of several numbers.
use Rattle.std.specs.Prelude.{ℕ, List, [], ◌∷◌, ◌++◌, Option, None, Some, filter_map}
use Rattle.std.specs.List.{range_with_len}

-- what `answer` gives at the numbers below n at which it gives anything, in order of the numbers
abbrev pub answers_below : {A : Type 0} → (ℕ → Option A) → ℕ → List A
answers_below answer n = filter_map answer (range_with_len 0 n)

-- a list with one more answer at its end, where there is one
abbrev pub with_answer : {A : Type 0} → List A → Option A → List A
with_answer answers None = answers
with_answer answers (Some answer) = answers ++ answer ∷ []
