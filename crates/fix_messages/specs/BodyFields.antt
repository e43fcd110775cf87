-- The fields of a body, found one after another from its front: as many as can be read, and the
-- bytes that are left. The codes of `=` and SOH are 61 and 1.
use Rattle.std.specs.Prelude.{ℕ, zero, suc, ◌==◌, Bool, Option, Some, None, List, [], ◌∷◌, length, take, drop, slice_index, nat_lt, if◌then◌else◌}
use Rattle.std.specs.List.{before_first, after_first, position_or_len}
use Rattle.fix_fields.specs.Forms.{tag_form, length_form}
use Rattle.fix_fields.specs.Grammar.{TagValue, field_bytes}
use Rattle.fix_fields.specs.Ordinary.{is_counted}

-- the byte is `=`, which ends a tag
abbrev pub is_equals : ℕ → Bool
is_equals byte = byte == 61

-- the byte is SOH, which ends a field
abbrev pub is_end : ℕ → Bool
is_end byte = byte == 1

-- a size that is not 0
abbrev pub some_size : ℕ → Option ℕ
some_size size = if nat_lt 0 size then Some size else None

-- how many bytes a length field counts
abbrev pub counted_size : Option TagValue → Option ℕ
counted_size None = None
counted_size (Some before) = length_form before.value

-- how many bytes the value of a field with this tag has: as many as the field before it counts,
-- or those up to the first SOH
abbrev pub value_size : Option TagValue → ℕ → List ℕ → Option ℕ
value_size before tag bytes =
    if is_counted before tag then counted_size before
    else some_size (position_or_len is_end bytes)

-- the field with this tag, whose value has this many bytes, with SOH after them
abbrev pub ended_field : ℕ → List ℕ → Option ℕ → Option TagValue
ended_field tag bytes None = None
ended_field tag bytes (Some size) =
    if slice_index bytes size == 1 then Some (record { tag = tag; value = take size bytes })
    else None

-- the field with the tag that is before `=`
abbrev pub tagged_field : Option TagValue → Option ℕ → List ℕ → Option TagValue
tagged_field before None bytes = None
tagged_field before (Some tag) bytes = ended_field tag bytes (value_size before tag bytes)

-- the field at the front of the bytes, where `before` is the field right before it
abbrev pub next_field : Option TagValue → List ℕ → Option TagValue
next_field before bytes =
    tagged_field before (tag_form (before_first is_equals bytes))
    (after_first is_equals bytes)

-- fields from the front, and the bytes that are left after them
pub record FieldSplit : Type 0 where
  pub fields : List TagValue
  pub left : List ℕ

-- one field more at the front
abbrev pub with_front_field : TagValue → FieldSplit → FieldSplit
with_front_field field split = record { fields = field ∷ split.fields; left = split.left }

-- no field is read and these bytes are left, or the field is, and then what `later` gives
abbrev pub split_next : List ℕ → Option TagValue → (TagValue → FieldSplit) → FieldSplit
split_next bytes None later = record { fields = []; left = bytes }
split_next bytes (Some field) later = with_front_field field (later field)

-- at most `most` fields from the front
abbrev pub split_from : ℕ → Option TagValue → List ℕ → FieldSplit
split_from zero before bytes = record { fields = []; left = bytes }
split_from (suc most) before bytes =
    split_next bytes (next_field before bytes)
    (λ field. split_from most (Some field) (drop (length (field_bytes field)) bytes))

-- all fields that can be read from the front of a body: each takes a byte at least
unfoldable pub split_of : List ℕ → FieldSplit
split_of body = split_from (length body) None body

-- the fields of a body
abbrev pub fields_of : List ℕ → List TagValue
fields_of body = (split_of body).fields
