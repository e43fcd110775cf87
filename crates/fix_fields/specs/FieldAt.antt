-- One field of a body, by the byte at which it begins.
use Rattle.std.specs.Prelude.{◌≡◌, ◌≢◌, ℕ, Bool, ◌+◌, ◌<◌, ◌==◌, Option, Some, None, List, ◌∷◌, ◌++◌, length, take, drop, if◌then◌else◌}
use Rattle.std.specs.Fmt.{decimal}
use Rattle.audit_base.specs.Sizes.{soh}
use Rattle.fix_fields.specs.declared.field.Field.{Field}
use Rattle.fix_fields.specs.Grammar.{TagValue, IsField, IsTag, field_bytes}
use Rattle.fix_fields.specs.Pairs.{is_length_tag}
use Rattle.fix_fields.specs.Ranges.{HasRangeIn, tag_value_of, range_of}

-- whether the byte is `=` (61)
abbrev pub is_equals_sign : ℕ → Bool
is_equals_sign byte = byte == 61

-- the tag and `=` are at the front, as `size` bytes
pub record IsTagAt (bytes : List ℕ) (tag size : ℕ) : Type 0 where
  pub form : IsTag tag
  pub split : bytes ≡ decimal tag ++ 61 ∷ drop size bytes
  pub counted : size ≡ length (decimal tag) + 1

-- a value of n bytes is at the front, and SOH after it
pub record EndsAt (bytes : List ℕ) (n : ℕ) : Type 0 where
  pub within : n < length bytes
  pub split : bytes ≡ take n bytes ++ soh ∷ drop (n + 1) bytes

-- no value that meets the condition is at the front with SOH after it
abbrev pub NoValue : (List ℕ → Type 0) → List ℕ → Type 0
NoValue IsWanted bytes =
    (value more : List ℕ) → IsWanted value → bytes ≢ value ++ soh ∷ more

-- this field begins at byte `at` of the body, where `before` is the field right before it
pub record IsFieldAt (body : List ℕ) (at : ℕ) (before : Option TagValue) (field : Field)
    : Type 0 where
  pub bytes : drop at body ≡ field_bytes (tag_value_of body field) ++ drop (field.to + 1) body
  pub form : IsField before (tag_value_of body field)
  pub range : field ≡ range_of at (tag_value_of body field)
  pub within : HasRangeIn body field

-- the field right before, where its value may count the one after it
abbrev pub counter_of : Option Field → Option Field
counter_of None = None
counter_of (Some field) = if is_length_tag field.tag then Some field else None
