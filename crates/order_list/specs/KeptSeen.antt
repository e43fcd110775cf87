-- What a key names, as 8 bytes hold it.
use Rattle.std.specs.Prelude.{ℕ, ◌/◌, ◌%◌, Option, None, Some, nat_eq, nat_lt, if◌then◌else◌}
use Rattle.audit_base.specs.declared.terms.Side.{Side}
use Rattle.audit_base.specs.declared.terms.Side.TheVariants.{Buy, Sell}
use Rattle.order_list.specs.declared.keys.SeenRecord.{SeenRecord}
use Rattle.order_list.specs.declared.kept_seen.KeptSeen.{KeptSeen}

-- the number of a side, and the side that has a number
abbrev pub side_number : Option Side → ℕ
side_number None = 0
side_number (Some Buy) = 1
side_number (Some Sell) = 2

abbrev pub side_from : ℕ → Option Side
side_from number =
    if nat_eq number 0 then None else (if nat_eq number 1 then Some Buy else Some Sell)

-- the index that a number means: 2^30 - 1 is none
abbrev pub index_from : ℕ → Option ℕ
index_from number = if nat_lt number 1073741823 then Some number else None

-- what is kept so
abbrev pub seen_from : KeptSeen → SeenRecord
seen_from kept = record {
  place = kept.place;
  side = side_from (kept.order % 4);
  index = index_from (kept.order / 4);
}
