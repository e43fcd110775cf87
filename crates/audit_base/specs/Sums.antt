-- Sums and counts over the numbers below a number.
use Rattle.std.specs.Prelude.{ℕ, zero, suc, ◌+◌, Bool, true, false}

-- f(0) and so on up to f(n - 1), added
abbrev pub sum_below : (ℕ → ℕ) → ℕ → ℕ
sum_below f zero = 0
sum_below f (suc n) = sum_below f n + f n

-- 1 for true and 0 for false
abbrev pub one_if : Bool → ℕ
one_if true = 1
one_if false = 0

-- how many of the numbers from 1 to n pass the test
abbrev pub count_upto : (ℕ → Bool) → ℕ → ℕ
count_upto test n = sum_below (λ k. one_if (test (k + 1))) n
