-- A range with a limit more.
use Rattle.std.specs.Prelude.{ℕ, nat_lt, Option, None, Some, if◌then◌else◌}
use Rattle.continuous_picture.specs.declared.ranges.LimitRange.{LimitRange}

-- the lesser and the greater of two limits
abbrev pub lesser : ℕ → ℕ → ℕ
lesser limit low = if nat_lt limit low then limit else low

abbrev pub greater : ℕ → ℕ → ℕ
greater high limit = if nat_lt high limit then limit else high

-- the range with a limit more, where there is one
abbrev pub with_limit : Option LimitRange → Option ℕ → Option LimitRange
with_limit range None = range
with_limit None (Some limit) = Some (record { low = limit; high = limit })
with_limit (Some range) (Some limit) =
    Some (record { low = lesser limit range.low; high = greater range.high limit })
