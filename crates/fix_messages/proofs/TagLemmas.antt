-- What the notes of a body say of its fields, in the words of the fields' values.
use Rattle.std.proofs.Common.{◌≡◌, ℕ, ◌<◌, ◌≤◌, Bool, true, false, cond, Some, None, Result, Ok, Err, Option, List, [], ◌∷◌, length, map, ap, sym, refl, subst, ◌∙◌}
use Rattle.std.specs.List.{All, slice_range}
use Rattle.std.proofs.lemmas.List.Elements.{All-head, All-tail, All-cons}
use Rattle.fix_fields.specs.declared.field.Field.{Field}
use Rattle.fix_fields.specs.declared.field.ValueSpan.{ValueSpan}
use Rattle.fix_fields.specs.declared.field.ValueSpan.TheVariants.{Absent, One, Many}
use Rattle.fix_fields.specs.declared.notes.TagNotes.{TagNotes}
use Rattle.fix_fields.specs.TagNotes.{AreNotesOf, HasNotes, fields_with, first_span, span_of_tag}
use Rattle.fix_fields.specs.Grammar.{TagValue, begins_with_type}
use Rattle.fix_fields.specs.Ranges.{HasRangeIn, tag_values_of}
use Rattle.fix_fields.proofs.LawLemmas.{AreFieldsOf-within}
use Rattle.fix_messages.specs.declared.meanings.MessageFault.{MessageFault}
use Rattle.fix_messages.specs.declared.meanings.MessageFault.TheVariants as fault
use Rattle.fix_messages.specs.BodyFields.{fields_of}
use Rattle.fix_messages.specs.Rows.{values_of, value_of, first_value_of, only_value, only_of, type_of}
use Rattle.fix_messages.proofs.BodyLemmas.{fields-are}

-- the values of some fields
values : List ℕ → List Field → List (List ℕ)
values body fields = map (λ f. slice_range body f.from f.to) fields

values-step : (b : Bool) (body : List ℕ) (f : Field) (fields : List Field) (rest : List (List ℕ)) → rest ≡ map (λ g. slice_range body g.from g.to) fields
    → cond b (slice_range body f.from f.to ∷ rest) rest ≡ map (λ g. slice_range body g.from g.to) (cond b (f ∷ fields) fields)
values-step true body f fields rest is = ap (λ (r : List (List ℕ)). slice_range body f.from f.to ∷ r) is
values-step false body f fields rest is = is

-- the values of a tag are those of the fields with the tag
values-with : (body : List ℕ) (tag : ℕ) (fields : List Field) → values_of tag (tag_values_of body fields) ≡ map (λ f. slice_range body f.from f.to) (fields_with tag fields)
values-with body tag [] = refl
values-with body tag (f ∷ fields) =
    values-step (Rattle.std.specs.Prelude.nat_eq f.tag tag) body f (fields_with tag fields) (values_of tag (tag_values_of body fields)) (values-with body tag fields)

-- what is noted says which value the tag has
abbrev pub only_placed : List ℕ → ℕ → ValueSpan → Result (Option (List ℕ)) MessageFault
only_placed body tag Absent = Ok None
only_placed body tag (One from to) = Ok (Some (slice_range body from to))
only_placed body tag (Many from to) = Err (fault.Repeated tag)

abbrev pub first_value : List ℕ → ValueSpan → List ℕ
first_value body Absent = []
first_value body (One from to) = slice_range body from to
first_value body (Many from to) = slice_range body from to

only-first : (body : List ℕ) (tag : ℕ) (fields : List Field) → only_placed body tag (first_span fields) ≡ only_of tag (map (λ f. slice_range body f.from f.to) fields)
only-first body tag [] = refl
only-first body tag (f ∷ []) = refl
only-first body tag (f ∷ g ∷ fields) = refl

value-first : (body : List ℕ) (fields : List Field) → first_value body (first_span fields) ≡ first_value_of (map (λ f. slice_range body f.from f.to) fields)
value-first body [] = refl
value-first body (f ∷ []) = refl
value-first body (f ∷ g ∷ fields) = refl

-- the range of a value that is noted lies in the body
InBody : List ℕ → ValueSpan → Type 0
InBody body Absent = Unit {0}
InBody body (One from to) = (from ≤ to) × (to < length body)
InBody body (Many from to) = (from ≤ to) × (to < length body)

within-first : (body : List ℕ) (fields : List Field) → All (HasRangeIn body) fields → InBody body (first_span fields)
unfolding InBody
within-first body [] all = tt
within-first body (f ∷ []) all = let here = All-head (HasRangeIn body) f [] all in (here.order, here.high)
within-first body (f ∷ g ∷ fields) all = let here = All-head (HasRangeIn body) f (g ∷ fields) all in (here.order, here.high)

within-step : (b : Bool) (body : List ℕ) (f : Field) (fields : List Field) → HasRangeIn body f → All (HasRangeIn body) fields → All (HasRangeIn body) (cond b (f ∷ fields) fields)
within-step true body f fields here rest = All-cons (HasRangeIn body) f fields here rest
within-step false body f fields here rest = rest

within-with : (body : List ℕ) (tag : ℕ) (fields : List Field) → All (HasRangeIn body) fields → All (HasRangeIn body) (fields_with tag fields)
within-with body tag [] all = all
within-with body tag (f ∷ fields) all =
    within-step (Rattle.std.specs.Prelude.nat_eq f.tag tag) body f (fields_with tag fields) (All-head (HasRangeIn body) f fields all)
    (within-with body tag fields (All-tail (HasRangeIn body) f fields all))

-- what is found by notes of a body
module _ (body : List ℕ) (notes : TagNotes) (has : HasNotes body notes) (tag : ℕ) (placed : ValueSpan) (all : List TagValue)
    (found : (fields : List Field) → AreNotesOf notes fields → placed ≡ span_of_tag fields tag) (is : fields_of body ≡ all) where
  shown-all : tag_values_of body has.fields ≡ all
  shown-all = sym (fields-are body (tag_values_of body has.fields) has.are.read) ∙ is

  pub says-only : only_placed body tag placed ≡ only_value tag all
  says-only =
      ap (only_placed body tag) (found has.fields has.taken) ∙ only-first body tag (fields_with tag has.fields)
      ∙ ap (only_of tag) (sym (values-with body tag has.fields)) ∙ ap (only_value tag) shown-all

  pub says-value : first_value body placed ≡ value_of tag all
  says-value =
      ap (first_value body) (found has.fields has.taken) ∙ value-first body (fields_with tag has.fields)
      ∙ ap first_value_of (sym (values-with body tag has.fields)) ∙ ap (value_of tag) shown-all

  says-within : InBody body placed
  says-within =
      subst (InBody body) (sym (found has.fields has.taken))
      (within-first body (fields_with tag has.fields) (within-with body tag has.fields (AreFieldsOf-within body has.fields has.are)))

  pub one-within : (from to : ℕ) → placed ≡ One from to → (from ≤ to) × (to < length body)
  unfolding InBody
  one-within from to e = subst (InBody body) e says-within

  pub many-within : (from to : ℕ) → placed ≡ Many from to → (from ≤ to) × (to < length body)
  unfolding InBody
  many-within from to e = subst (InBody body) e says-within

-- the type of a message is the value of its tag
type-first : (fields : List TagValue) → begins_with_type fields ≡ true → value_of 35 fields ≡ type_of fields
type-first [] typed = refl
type-first (f ∷ fields) typed = ap (λ (b : Bool). first_value_of (cond b (f.value ∷ values_of 35 fields) (values_of 35 fields))) typed

pub type-is : (body : List ℕ) (notes : TagNotes) (all : List TagValue) → HasNotes body notes → fields_of body ≡ all → value_of 35 all ≡ type_of all
type-is body notes all has is =
    let same : tag_values_of body has.fields ≡ all = sym (fields-are body (tag_values_of body has.fields) has.are.read) ∙ is in
    let typed : begins_with_type all ≡ true = ap begins_with_type (sym same) ∙ has.are.read.typed in
    type-first all typed
