-- Ids of which each is greater than those before it, as they are kept: their bytes in one row.
use Rattle.std.specs.Prelude.{◌≡◌, ◌<◌, ◌≤◌, ◌+◌, ℕ, List, [], length, take, drop, map, get_or}
use Rattle.std.specs.List.{All}
use Rattle.std.specs.declared.cmp.Ordering.TheVariants.{Less}
use Rattle.matching_core.specs.declared.rising_ids.RisingId.{RisingId}
use Rattle.matching_core.specs.IdOrder.{compare_ids}

-- an id, by where its bytes lie
abbrev pub id_text : List ℕ → RisingId → List ℕ
id_text bytes own = take own.size (drop own.start bytes)

-- the ids with the places of their trades
abbrev pub ids_with_places : List ℕ → List RisingId → List (List ℕ × ℕ)
ids_with_places bytes ids = map (λ own. (id_text bytes own, own.place)) ids

-- the id at an index of a list with places
abbrev pub id_at : List (List ℕ × ℕ) → ℕ → List ℕ
id_at listed i = (get_or listed i ([], 0)).0

-- each id is greater than those before it
abbrev pub AreRisingIds : List (List ℕ × ℕ) → Type 0
AreRisingIds listed =
    (i j : ℕ) → i < j → j < length listed → compare_ids (id_at listed i) (id_at listed j) ≡ Less

-- the bytes of an id are there
abbrev pub IsIdInside : List ℕ → RisingId → Type 0
IsIdInside bytes own = own.start + own.size ≤ length bytes

-- the bytes of each of these ids are there
abbrev pub AreIdsInside : List ℕ → List RisingId → Type 0
AreIdsInside bytes ids = All (IsIdInside bytes) ids

-- the bytes of each id are there, and the ids rise
pub record HoldsRisingIds (bytes : List ℕ) (ids : List RisingId) : Type 0 where
  pub inside : AreIdsInside bytes ids
  pub rises : AreRisingIds (ids_with_places bytes ids)
