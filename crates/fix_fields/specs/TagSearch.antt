-- A tag looked up among fields: the first field that has it, and whether there are more.
use Rattle.std.specs.Prelude.{ℕ, Bool, ◌==◌, Option, Some, None, List, position, count_by, if◌then◌else◌}
use Rattle.fix_fields.specs.declared.field.Field.{Field}
use Rattle.fix_fields.specs.declared.field.Found.{Found}
use Rattle.fix_fields.specs.declared.field.Found.TheVariants.{Absent, One, Many}

-- whether a field has the tag
abbrev pub has_tag : ℕ → Field → Bool
has_tag tag field = field.tag == tag

-- what is found, where the first index with the tag and the number of these are known
abbrev pub search_result : Option ℕ → ℕ → Found
search_result None count = Absent
search_result (Some first) count = if count == 1 then One first else Many first

-- the index of the first field with the tag, and whether it is the only one
abbrev pub search_for_tag : List Field → ℕ → Found
search_for_tag fields tag =
    search_result (position (has_tag tag) fields) (count_by (has_tag tag) fields)
