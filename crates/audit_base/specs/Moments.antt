-- What contracts see of a point in time.
use Rattle.std.specs.Prelude.{ℕ, Bool, ◌==◌, ◌&&◌, ◌||◌, nat_lt}

-- a second, which orders stamps, and the fraction in nanoseconds
pub record Moment : Type 0 where
  pub second : ℕ
  pub nano : ℕ

-- every second of a stamp is below this: 10,000 years of 12 months of 31 days,
-- each of its minutes with 61 seconds
abbrev pub end_of_time : ℕ
end_of_time = 326764800000

-- one moment is before another
abbrev pub is_before : Moment → Moment → Bool
is_before a b = nat_lt a.second b.second || ((a.second == b.second) && nat_lt a.nano b.nano)
