-- Fields that need no counting: what is written of them is read as it was meant.
use Rattle.std.specs.Prelude.{ℕ, Bool, false, Option, Some, None, List, [], ◌∷◌, IsFalse}
use Rattle.fix_fields.specs.Grammar.{TagValue, IsTag, IsDelimited}
use Rattle.fix_fields.specs.Pairs.{is_data_field_pair}

-- whether the field right before counts the field with this tag: the two are a pair of the table
abbrev pub is_counted : Option TagValue → ℕ → Bool
is_counted None tag = false
is_counted (Some before) tag = is_data_field_pair before.tag tag

-- this is a field whose value ends at the next SOH, and no data field that the one before it counts
pub record IsOrdinary (before : Option TagValue) (field : TagValue) : Type 0 where
  pub tag_form : IsTag field.tag
  pub delimited : IsDelimited field.value
  pub uncounted : IsFalse (is_counted before field.tag)

-- fields whose values end at the next SOH, no two of which follow
-- one another as a pair of the table
abbrev pub AreOrdinary : Option TagValue → List TagValue → Type 0
AreOrdinary before [] = Unit {0}
AreOrdinary before (field ∷ fields) =
    IsOrdinary before field × AreOrdinary (Some field) fields
