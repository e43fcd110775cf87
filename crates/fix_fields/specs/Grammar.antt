-- FIX 4.4 field syntax: which bytes are the body of a message, and what its fields are.
use Rattle.std.specs.Prelude.{◌≡◌, ◌≢◌, ℕ, Bool, false, ◌<◌, ◌==◌, ◌^◌, Option, Some, None, List, [], ◌∷◌, ◌++◌, length, IsTrue, IsFalse, MatchBool}
use Rattle.std.specs.Fmt.{decimal}
use Rattle.std.specs.List.{All, flat_map}
use Rattle.audit_base.specs.Sizes.{soh}
use Rattle.fix_fields.specs.Forms.{length_form}
use Rattle.fix_fields.specs.Pairs.{is_data_field_pair}

-- a field as it is written: its tag, and the bytes of its value
pub record TagValue : Type 0 where
  pub tag : ℕ
  pub value : List ℕ

-- the bytes of a field: the tag, `=` (61), the value, SOH
abbrev pub field_bytes : TagValue → List ℕ
field_bytes field = decimal field.tag ++ 61 ∷ (field.value ++ soh ∷ [])

-- the bytes of fields that follow one another
abbrev pub bytes_of : List TagValue → List ℕ
bytes_of fields = flat_map field_bytes fields

-- a tag has 1 to 9 digits, and no leading zero
pub record IsTag (tag : ℕ) : Type 0 where
  pub low : 0 < tag
  pub high : tag < 10 ^ 9

-- a value that the next SOH ends is one or more bytes, none of them SOH
pub record IsDelimited (value : List ℕ) : Type 0 where
  pub nonempty : 0 < length value
  pub no_end : All (λ b. b ≢ soh) value

-- The form of the value of a field with this tag, where `before` is the field right before it: that
-- of a data field right after its length field has as many bytes as that field says, whatever they
-- are; any other value is ended by the next SOH.
abbrev pub HasForm : Option TagValue → ℕ → List ℕ → Type 0
HasForm None tag value = IsDelimited value
HasForm (Some before) tag value =
    MatchBool (is_data_field_pair before.tag tag)
    (length_form before.value ≡ Some (length value)) (IsDelimited value)

-- this may be a field where `before` is the field right before it
pub record IsField (before : Option TagValue) (field : TagValue) : Type 0 where
  pub tag_form : IsTag field.tag
  pub value_form : HasForm before field.tag field.value

-- each may be a field after the one before it, and the first after `before`
abbrev pub AreFields : Option TagValue → List TagValue → Type 0
AreFields before [] = Unit {0}
AreFields before (field ∷ fields) = IsField before field × AreFields (Some field) fields

-- the last of the fields, or `before` where there is none
abbrev pub last_of : Option TagValue → List TagValue → Option TagValue
last_of before [] = before
last_of before (field ∷ fields) = last_of (Some field) fields

-- the first field is the message type, tag 35
abbrev pub begins_with_type : List TagValue → Bool
begins_with_type [] = false
begins_with_type (field ∷ fields) = field.tag == 35

-- the body is these fields one after another, and the first is the message type
pub record Fields (body : List ℕ) (fields : List TagValue) : Type 0 where
  pub bytes : body ≡ bytes_of fields
  pub forms : AreFields None fields
  pub typed : IsTrue (begins_with_type fields)

-- no bytes at the front can be read as a field after `before`
abbrev pub NoField : Option TagValue → List ℕ → Type 0
NoField before bytes =
    (field : TagValue) (more : List ℕ) → IsField before field
    → bytes ≢ field_bytes field ++ more

-- the first field of the body that cannot be read begins at byte n: before it
-- are fields, and no field begins there
pub record IsUnreadable (body : List ℕ) (n : ℕ) : Type 0 where
  pub front : List TagValue
  pub left : List ℕ
  pub bytes : body ≡ bytes_of front ++ left
  pub place : n ≡ length (bytes_of front)
  pub forms : AreFields None front
  pub nonempty : 0 < length left
  pub no_field : NoField (last_of None front) left

-- every field can be read, but there is none, or the first is not the message type
pub record LacksType (body : List ℕ) : Type 0 where
  pub fields : List TagValue
  pub bytes : body ≡ bytes_of fields
  pub forms : AreFields None fields
  pub untyped : IsFalse (begins_with_type fields)
