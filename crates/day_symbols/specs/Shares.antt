-- Shares of a day's symbols.
use Rattle.std.specs.Prelude.{ℕ, Bool, true, ◌&&◌, ◌==◌, ◌-◌, ◌%◌, ◌≤◌, Option, List, [], filter, length, map, nat_le, option_and_then, option_map, position, unwrap_or}
use Rattle.std.specs.List.{range_with_len, slice_index_or}
use Rattle.audit_base.specs.Least.{only_if}
use Rattle.audit_base.specs.Names.{name_form}
use Rattle.audit_base.specs.Orders.{same_name}

-- A share number/count of a day.
pub record DayShare : Type 0 where
  pub number : ℕ
  pub count : ℕ

-- the greatest number of shares
abbrev pub most_shares : ℕ
most_shares = 65536

-- The number of a share is one of the shares that there are, from 1, and they are not too many.
pub record IsDayShare (share : DayShare) : Type 0 where
  pub first : 1 ≤ share.number
  pub among : share.number ≤ share.count
  pub within_most : share.count ≤ most_shares

-- the share number/count, where 1 ≤ number ≤ count and there are at most as many shares
abbrev pub day_share_of : ℕ → ℕ → Option DayShare
day_share_of number count =
    only_if (nat_le 1 number && nat_le number count && nat_le count most_shares)
    (record { number = number; count = count })

-- the whole day is the share 1/1
abbrev pub whole_day : DayShare
whole_day = record { number = 1; count = 1 }

-- the symbol at an index has the number index + 1: this is K, K + N, K + 2N and so on
abbrev pub is_in_share : DayShare → ℕ → Bool
is_in_share share index = index % share.count == share.number - 1

-- the indices of a share among this many first ones, in order
abbrev pub indices_in : DayShare → ℕ → List ℕ
indices_in share count = filter (is_in_share share) (range_with_len 0 count)

-- the index in the share of a symbol, by its index in the day: how many symbols of the share are
-- before it
abbrev pub index_in_share : DayShare → ℕ → ℕ
index_in_share share index = length (indices_in share index)

-- the symbols of a share, in their order
abbrev pub symbols_in : DayShare → List (List ℕ) → List (List ℕ)
symbols_in share symbols =
    map (λ index. slice_index_or symbols index []) (indices_in share (length symbols))

-- the records of a symbol are looked at, unless it was met before and is outside the share
abbrev pub is_looked_at : DayShare → List (List ℕ) → List ℕ → Bool
is_looked_at share symbols text =
    unwrap_or (option_map (is_in_share share)
    (option_and_then (λ name. position (same_name name) symbols) (name_form text))) true
