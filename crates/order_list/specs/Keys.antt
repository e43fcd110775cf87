-- What the keys of a history name, as two maps hold it, and which key has a number.
use Rattle.std.specs.Prelude.{◌≡◌, ◌<◌, ℕ, List, ◌∷◌, [], Option, Some, None, length, option_and_then, option_map, slice_get, if◌then◌else◌}
use Rattle.indexmap.specs.IndexMap.{get}
use Rattle.audit_base.specs.declared.names.Key.{Key}
use Rattle.audit_base.specs.declared.terms.Side.{Side}
use Rattle.audit_base.specs.Names.{is_name}
use Rattle.audit_base.specs.Orders.{same_key, same_side}
use Rattle.seeded_hash.specs.declared.short_pairs.ShortPair.{ShortPair}
use Rattle.seeded_hash.specs.ShortPairs.{same_block, short_pair_of, value_by_pair, first_text, second_text}
use Rattle.order_list.specs.declared.keys.Keys.{Keys}
use Rattle.order_list.specs.declared.keys.KeyNumber.{KeyNumber}
use Rattle.order_list.specs.declared.keys.SeenRecord.{SeenRecord}
use Rattle.order_list.specs.declared.kept_seen.KeptSeen.{KeptSeen}
use Rattle.order_list.specs.KeptSeen.{seen_from}

-- what the maps have of a key, if it is there
abbrev pub kept_in : Keys → Key → Option KeptSeen
kept_in keys key =
    value_by_pair (get same_block keys.short) (get same_key keys.long key)
    (short_pair_of key.firm key.id)

-- one key more: it has this, and every other key has what it had
abbrev pub PutsKey : Keys → Keys → Key → KeptSeen → Type 0
PutsKey old new key kept =
    (other : Key) → kept_in new other
    ≡ (if same_key key other then Some kept else kept_in old other)

-- what a key names in the maps, if it is there
abbrev pub record_seen_in : Keys → Key → Option SeenRecord
record_seen_in keys key = option_map seen_from (kept_in keys key)

-- one key more: it names this, and every other key names what it did
abbrev pub AddsKey : Keys → Keys → Key → SeenRecord → Type 0
AddsKey old new key seen =
    (other : Key) → record_seen_in new other
    ≡ (if same_key key other then Some seen else record_seen_in old other)

-- the index of what is seen, if it is an order of the side
abbrev pub index_on : Side → SeenRecord → Option ℕ
index_on side seen =
    option_and_then (λ own. if same_side own side then seen.index else None) seen.side

-- a text as a name; where it is none, `?`
abbrev pub name_from : List ℕ → List ℕ
name_from text = if is_name text then text else 63 ∷ []

-- the key that a pair of texts is of
abbrev pub key_of_pair : ShortPair → Key
key_of_pair pair =
    record { firm = name_from (first_text pair.block); id = name_from (second_text pair.block) }

-- what is given where no key has a number
abbrev pub no_key : Key
no_key = record { firm = 63 ∷ []; id = 63 ∷ [] }

-- the key of a pair that is listed
abbrev pub listed_key : Option ShortPair → Key
listed_key None = no_key
listed_key (Some pair) = key_of_pair pair

-- the key of an entry of either map; where there is no entry of a short key, the one that is listed
abbrev pub short_key : Option ShortPair → Option (ShortPair × KeptSeen) → Key
short_key listed None = listed_key listed
short_key listed (Some entry) = key_of_pair entry.0

abbrev pub long_key : Option (Key × KeptSeen) → Key
long_key None = no_key
long_key (Some entry) = entry.0

-- the key that has a number
abbrev pub key_in : Keys → KeyNumber → Key
key_in keys number = if number.is_short
    then short_key (slice_get keys.listed.items number.index) (slice_get keys.short.entries number.index)
    else long_key (slice_get keys.long.entries number.index)

-- some key has the number
abbrev pub IsNumbered : Keys → KeyNumber → Type 0
IsNumbered keys number = number.index
    < (if number.is_short then length keys.short.entries else length keys.long.entries)

-- this key has the number
pub record HasNumber (keys : Keys) (key : Key) (number : KeyNumber) : Type 0 where
  pub inside : IsNumbered keys number
  pub is : key_in keys number ≡ key

-- the key has the number now, and each number that a key had is still that of the key
pub record AddsNumber (old new : Keys) (key : Key) (added : KeyNumber) : Type 0 where
  pub has : HasNumber new key added
  pub keeps : (number : KeyNumber) → IsNumbered old number
      → HasNumber new (key_in old number) number
