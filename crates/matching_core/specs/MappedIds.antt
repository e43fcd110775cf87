-- Trade ids as two maps hold them.
use Rattle.std.specs.Prelude.{ℕ, List, [], Option}
use Rattle.indexmap.specs.IndexMap.{get}
use Rattle.audit_base.specs.Orders.{same_name}
use Rattle.seeded_hash.specs.ShortPairs.{same_block, short_pair_of, value_by_pair}
use Rattle.matching_core.specs.declared.mapped_ids.MappedIds.{MappedIds}

-- the place of an id, as two maps hold it
abbrev pub mapped_place_of_id : MappedIds → List ℕ → Option ℕ
mapped_place_of_id ids id =
    value_by_pair (get same_block ids.short) (get same_name ids.long id) (short_pair_of id [])
