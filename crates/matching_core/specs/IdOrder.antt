-- The order of trade ids, and the place of one in a list of them.
use Rattle.std.specs.Prelude.{ℕ, Bool, List, [], ◌∷◌, Option, None, Some, length, if◌then◌else◌}
use Rattle.std.specs.List.{list_all}
use Rattle.std.specs.Ordering.{nat_cmp, ordering_then, is_lt}
use Rattle.std.specs.Cmp.Lexicographic.{slice_cmp}
use Rattle.std.specs.declared.cmp.Ordering.{Ordering}
use Rattle.audit_base.specs.Orders.{same_name}

-- which of two ids comes first: the shorter, and of two of one length the one of the smaller bytes
abbrev pub compare_ids : List ℕ → List ℕ → Ordering
compare_ids a b = ordering_then (nat_cmp (length a) (length b)) (slice_cmp nat_cmp a b)

-- the id is greater than each of these
abbrev pub is_above_ids : List (List ℕ × ℕ) → List ℕ → Bool
is_above_ids listed id = list_all (λ e. is_lt (compare_ids e.0 id)) listed

-- the place that is given with the first of these that is the id
abbrev pub rising_place_of_id : List (List ℕ × ℕ) → List ℕ → Option ℕ
rising_place_of_id [] id = None
rising_place_of_id (e ∷ rest) id = if same_name e.0 id then Some e.1 else rising_place_of_id rest id
