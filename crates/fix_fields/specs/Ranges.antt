-- Where the values of the fields are in the body.
use Rattle.std.specs.Prelude.{◌≡◌, ℕ, ◌+◌, ◌<◌, ◌≤◌, List, [], ◌∷◌, length, map, slice_range}
use Rattle.std.specs.Fmt.{decimal}
use Rattle.fix_fields.specs.declared.field.Field.{Field}
use Rattle.fix_fields.specs.Grammar.{TagValue, Fields, field_bytes}

-- what a range of the body shows
abbrev pub tag_value_of : List ℕ → Field → TagValue
tag_value_of body field = record { tag = field.tag; value = slice_range body field.from field.to }

-- what ranges of the body show, one after another
abbrev pub tag_values_of : List ℕ → List Field → List TagValue
tag_values_of body fields = map (tag_value_of body) fields

-- the range of the value of a field that begins at byte `at`: it is after the tag and the `=`
abbrev pub range_of : ℕ → TagValue → Field
range_of at field =
    let start = at + length (decimal field.tag) + 1 in
    record { tag = field.tag; from = start; to = start + length field.value }

-- the ranges of fields that follow one another from byte `at` on
abbrev pub ranges_of : ℕ → List TagValue → List Field
ranges_of at [] = []
ranges_of at (field ∷ fields) =
    range_of at field ∷ ranges_of (at + length (field_bytes field)) fields

-- the range of the field lies within the body, and a byte is after it
pub record HasRangeIn (body : List ℕ) (field : Field) : Type 0 where
  pub order : field.from ≤ field.to
  pub high : field.to < length body

-- these are the fields of the body, each with the range in which its value is
pub record AreFieldsOf (body : List ℕ) (fields : List Field) : Type 0 where
  pub read : Fields body (tag_values_of body fields)
  pub ranges : fields ≡ ranges_of 0 (tag_values_of body fields)

-- the body is fields, and these have been taken
pub record HandsFields (has_taken : List Field → Type 0) (body : List ℕ) : Type 0 where
  pub fields : List Field
  pub are : AreFieldsOf body fields
  pub taken : has_taken fields
