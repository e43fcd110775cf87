-- Notes of where the values of tags are.
use Rattle.std.specs.Prelude.{◌≡◌, ℕ, ◌==◌, nat_lt, Option, Some, List, [], ◌∷◌, IsSome, slice_index, if◌then◌else◌}
use Rattle.std.specs.List.{find}
use Rattle.std.specs.Option.{option_map}
use Rattle.fix_fields.specs.declared.field.Field.{Field}
use Rattle.fix_fields.specs.declared.field.ValueSpan.{ValueSpan}
use Rattle.fix_fields.specs.declared.field.ValueSpan.TheVariants.{Absent, One, Many}
use Rattle.fix_fields.specs.declared.notes.TagNotes.{TagNotes}
use Rattle.fix_fields.specs.Ranges.{HandsFields}

-- the fields with a tag, in their order
abbrev pub fields_with : ℕ → List Field → List Field
fields_with tag [] = []
fields_with tag (field ∷ fields) =
    if field.tag == tag then field ∷ fields_with tag fields else fields_with tag fields

-- where the value of the first of some fields is, and whether there are more
abbrev pub first_span : List Field → ValueSpan
first_span [] = Absent
first_span (field ∷ []) = One field.from field.to
first_span (field ∷ next ∷ fields) = Many field.from field.to

-- where the value of the first field with a tag is, and whether there are more
abbrev pub span_of_tag : List Field → ℕ → ValueSpan
span_of_tag fields tag = first_span (fields_with tag fields)

-- the greater tags that are noted, those that the tables of messages ask for, each with the place of
-- its note
abbrev pub later_places : List (ℕ × ℕ)
later_places = (110, 61) ∷ (111, 62) ∷ (150, 63) ∷ (527, 64) ∷ []

-- the place of the note of a tag, where it is noted: each tag below 61 is its own place
abbrev pub note_place : ℕ → Option ℕ
note_place tag =
    if nat_lt tag 61 then Some tag
    else option_map (λ p. p.1) (find (λ p. p.0 == tag) later_places)

-- the tag is noted
abbrev pub IsNotedTag : ℕ → Type 0
IsNotedTag tag = IsSome (note_place tag)

-- what a note says: how many fields have its tag, two where there are more,
-- and where the value of the first is
abbrev pub span_of_note : ℕ → ℕ → ℕ → ValueSpan
span_of_note count from to =
    if count == 0 then Absent else if count == 1 then One from to else Many from to

-- the note at a place
abbrev pub note_at : TagNotes → ℕ → ValueSpan
note_at notes place =
    span_of_note (slice_index notes.counts place) (slice_index notes.starts place)
    (slice_index notes.ends place)

-- what is found of a tag with one more field that has it
abbrev pub span_with_field : ValueSpan → Field → ValueSpan
span_with_field Absent field = One field.from field.to
span_with_field (One from to) field = Many from to
span_with_field (Many from to) field = Many from to

-- the notes say where the values of their tags are among the fields
abbrev pub AreNotesOf : TagNotes → List Field → Type 0
AreNotesOf notes fields =
    (tag place : ℕ) → note_place tag ≡ Some place → note_at notes place ≡ span_of_tag fields tag

-- the body is fields, and these are notes of them
abbrev pub HasNotes : List ℕ → TagNotes → Type 0
HasNotes body notes = HandsFields (AreNotesOf notes) body
