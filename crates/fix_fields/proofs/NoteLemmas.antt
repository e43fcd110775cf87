-- Notes of tags, field by field.
use Rattle.std.proofs.Common.{◌≡◌, ◌≢◌, ℕ, zero, suc, ◌-◌, Bool, true, false, cond, eqb, ltb, Option, Some, None, List, [], ◌∷◌, ◌++◌, get_or, replicate, ap, sym, refl, ◌∙◌, inl, inr, arith}
use Rattle.std.specs.List.{find, list_all}
use Rattle.std.specs.Option.{option_map}
use Rattle.std.proofs.lemmas.Bool.{and_parts, cases_Bool, eqb-true}
use Rattle.std.proofs.lemmas.Bool.Decides.{nat_tests}
use Rattle.fix_fields.specs.declared.field.Field.{Field}
use Rattle.fix_fields.specs.declared.field.ValueSpan.{ValueSpan}
use Rattle.fix_fields.specs.declared.field.ValueSpan.TheVariants.{Absent, One, Many}
use Rattle.fix_fields.specs.declared.notes.TagNotes.{TagNotes}
use Rattle.fix_fields.specs.TagNotes.{AreNotesOf, fields_with, first_span, note_at, span_of_note, note_place, span_of_tag, later_places, span_with_field}

-- what is found in a list passes what all of it pass, and the test by which it was found
module _ (P Q : ℕ × ℕ → Bool) where
  found-step : (b : Bool) (p x : ℕ × ℕ) (rest : Option (ℕ × ℕ)) → P p ≡ b → Q p ≡ true → (rest ≡ Some x → (P x ≡ true) × (Q x ≡ true))
      → cond b (Some p) rest ≡ Some x → (P x ≡ true) × (Q x ≡ true)
  found-step true p x rest is all later found =
      let same : p ≡ x = cc found in (ap P (sym same) ∙ is, ap Q (sym same) ∙ all)
  found-step false p x rest is all later found = later found

  found-passes : (all : List (ℕ × ℕ)) (x : ℕ × ℕ) → list_all Q all ≡ true → find P all ≡ Some x → (P x ≡ true) × (Q x ≡ true)
  found-passes [] x every found = absurd (cc found)
  found-passes (p ∷ all) x every found =
      let both = and_parts (Q p) (list_all Q all) every in
      found-step (P p) p x (find P all) refl both.0 (found-passes all x both.1) found

-- the tag that is noted at a place
tag_at : ℕ → ℕ
tag_at place = cond (ltb place 61) place (get_or (110 ∷ 111 ∷ 150 ∷ 527 ∷ []) (place - 61) 0)

place-some : (found : Option (ℕ × ℕ)) (place : ℕ) → option_map (λ p. p.1) found ≡ Some place → (x : ℕ × ℕ) × (found ≡ Some x) × (x.1 ≡ place)
place-some None place is = absurd (cc is)
place-some (Some x) place is = (x, refl, (cc))

-- each place is that of its tag
all-own : list_all (λ p. eqb (tag_at p.1) p.0) later_places ≡ true
unfolding tag_at
all-own = refl

own-later : (tag place : ℕ) → option_map (λ p. p.1) (find (λ p. eqb p.0 tag) later_places) ≡ Some place → tag_at place ≡ tag
own-later tag place is =
    let some = place-some (find (λ p. eqb p.0 tag) later_places) place is in
    let passes = found-passes (λ p. eqb p.0 tag) (λ p. eqb (tag_at p.1) p.0) later_places some.0 all-own some.1 in
    ap tag_at (sym some.2) ∙ eqb-true (tag_at some.0.1) some.0.0 passes.1 ∙ eqb-true some.0.0 tag passes.0

own-below : (tag place : ℕ) → ltb tag 61 ≡ true → Some tag ≡ Some place → tag_at place ≡ tag
unfolding tag_at
own-below tag place low is =
    let same : tag ≡ place = cc is in
    ap (λ (n : ℕ). cond (ltb n 61) n (get_or (110 ∷ 111 ∷ 150 ∷ 527 ∷ []) (n - 61) 0)) (sym same) ∙ rw low refl

own-by : (b : Bool) (tag place : ℕ) → ltb tag 61 ≡ b → cond b (Some tag) (option_map (λ p. p.1) (find (λ p. eqb p.0 tag) later_places)) ≡ Some place → tag_at place ≡ tag
own-by true tag place low is = own-below tag place low is
own-by false tag place high is = own-later tag place is

own-tag : (tag place : ℕ) → note_place tag ≡ Some place → tag_at place ≡ tag
own-tag tag place is = own-by (ltb tag 61) tag place refl is

-- no two tags have one place
place-apart : (a b p q : ℕ) → note_place a ≡ Some p → note_place b ≡ Some q → q ≡ p → b ≡ a
place-apart a b p q first second same = sym (own-tag b q second) ∙ ap tag_at same ∙ own-tag a p first

-- one more field with the tag, or with another
with-more : (b : Bool) (tag : ℕ) (field : Field) (fields rest : List Field) → cond b (field ∷ fields ++ rest) (fields ++ rest) ≡ cond b (field ∷ fields) fields ++ rest
with-more true tag field fields rest = refl
with-more false tag field fields rest = refl

fields_with-append : (tag : ℕ) (fields : List Field) (field : Field) → fields_with tag (fields ++ field ∷ []) ≡ fields_with tag fields ++ fields_with tag (field ∷ [])
fields_with-append tag [] field = refl
fields_with-append tag (f ∷ fields) field =
    ap (λ (rest : List Field). cond (eqb f.tag tag) (f ∷ rest) rest) (fields_with-append tag fields field)
    ∙ with-more (eqb f.tag tag) tag f (fields_with tag fields) (fields_with tag (field ∷ []))

first-more : (fields : List Field) (field : Field) → first_span (fields ++ field ∷ []) ≡ span_with_field (first_span fields) field
first-more [] field = refl
first-more (f ∷ []) field = refl
first-more (f ∷ g ∷ fields) field = refl

append-none : (fields : List Field) → fields ++ [] ≡ fields
append-none [] = refl
append-none (f ∷ fields) = ap (λ (rest : List Field). f ∷ rest) (append-none fields)

placed-own : (fields : List Field) (field : Field) (tag : ℕ) → eqb field.tag tag ≡ true → span_of_tag (fields ++ field ∷ []) tag ≡ span_with_field (span_of_tag fields tag) field
placed-own fields field tag is =
    ap first_span (fields_with-append tag fields field ∙ ap (λ (b : Bool). fields_with tag fields ++ cond b (field ∷ []) []) is)
    ∙ first-more (fields_with tag fields) field

placed-other : (fields : List Field) (field : Field) (tag : ℕ) → eqb field.tag tag ≡ false → span_of_tag (fields ++ field ∷ []) tag ≡ span_of_tag fields tag
placed-other fields field tag is =
    ap first_span (fields_with-append tag fields field ∙ ap (λ (b : Bool). fields_with tag fields ++ cond b (field ∷ []) []) is ∙ append-none (fields_with tag fields))

-- a field whose tag is not noted changes nothing
pub notes-past : (notes : TagNotes) (fields : List Field) (field : Field) → note_place field.tag ≡ None → AreNotesOf notes fields → AreNotesOf notes (fields ++ field ∷ [])
notes-past notes fields field past are tag place has = elim (cases_Bool (eqb field.tag tag)) [
  | inl same ↦ let none : note_place tag ≡ None = ap note_place (sym (eqb-true field.tag tag same)) ∙ past in absurd (cc (none, has))
  | inr other ↦ are tag place has ∙ sym (placed-other fields field tag other)
]

-- a field that is noted at the place of its tag
pub notes-more : (old new : TagNotes) (fields : List Field) (field : Field) (at : ℕ) → note_place field.tag ≡ Some at → note_at new at ≡ span_with_field (note_at old at) field
    → ((other : ℕ) → other ≢ at → note_at new other ≡ note_at old other) → AreNotesOf old fields → AreNotesOf new (fields ++ field ∷ [])
notes-more old new fields field at own here others are tag place has = elim (cases_Bool (eqb field.tag tag)) [
  | inl same ↦
      let tags : field.tag ≡ tag = eqb-true field.tag tag same in
      let both : Some at ≡ Some place = sym own ∙ ap note_place tags ∙ has in
      let place-is : at ≡ place = cc both in
      ap (note_at new) (sym place-is) ∙ here ∙ ap (λ (p : ValueSpan). span_with_field p field) (ap (note_at old) place-is ∙ are tag place has)
      ∙ sym (placed-own fields field tag same)
  | inr other ↦
      let apart : place ≢ at = λ e. (let same : tag ≡ field.tag = place-apart field.tag tag at place own has e in
      let test : eqb field.tag tag ≡ true = grind (arith, nat_tests, same) in cc (test, other)) in
      others place apart ∙ are tag place has ∙ sym (placed-other fields field tag other)
]

zeros : (n k : ℕ) → get_or (replicate n zero) k zero ≡ zero
zeros zero k = refl
zeros (suc n) zero = refl
zeros (suc n) (suc k) = zeros n k

-- notes of no fields say that each tag is absent
pub notes-none : (notes : TagNotes) → notes.counts ≡ replicate 65 0 → AreNotesOf notes []
notes-none notes none tag place has =
    let count : get_or notes.counts place 0 ≡ 0 = ap (λ (counts : List ℕ). get_or counts place 0) none ∙ zeros 65 place in
    ap (λ (n : ℕ). span_of_note n (get_or notes.starts place 0) (get_or notes.ends place 0)) count

-- what a note says, by its count
pub noted-none : (count from to : ℕ) → count ≡ 0 → span_of_note count from to ≡ Absent
noted-none count from to none = ap (λ (n : ℕ). span_of_note n from to) none

pub noted-one : (count from to : ℕ) → count ≡ 1 → span_of_note count from to ≡ One from to
noted-one count from to one = ap (λ (n : ℕ). span_of_note n from to) one

pub noted-many : (count from to : ℕ) → count ≢ 0 → count ≢ 1 → span_of_note count from to ≡ Many from to
noted-many count from to some more =
    let zero_test : eqb count 0 ≡ false = grind (arith, nat_tests, some) in
    let one_test : eqb count 1 ≡ false = grind (arith, nat_tests, more) in rw (zero_test, one_test) refl
