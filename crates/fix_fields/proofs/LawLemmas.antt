-- What the crates above take from the definitions: one list of fields, the ranges within the body, and written fields that are read.
use Rattle.std.proofs.Common.{◌≡◌, ℕ, ◌+◌, ◌<◌, ◌≤◌, Bool, true, false, Option, Some, None, List, [], ◌∷◌, length, ap, sym, refl, subst, ◌∙◌, MatchBool, arith}
use Rattle.std.specs.List.{All}
use Rattle.std.proofs.lemmas.List.{append-nil, length-append}
use Rattle.std.proofs.lemmas.List.Elements.{All-nil, All-cons, All-weaker}
use Rattle.fix_fields.specs.declared.field.Field.{Field}
use Rattle.fix_fields.specs.Forms.{length_form}
use Rattle.fix_fields.specs.Pairs.{is_data_field_pair}
use Rattle.fix_fields.specs.Grammar.{TagValue, IsDelimited, HasForm, AreFields, Fields, IsUnreadable, LacksType, begins_with_type, field_bytes, bytes_of, last_of}
use Rattle.fix_fields.specs.Ordinary.{AreOrdinary}
use Rattle.fix_fields.specs.Ranges.{AreFieldsOf, HasRangeIn, tag_values_of, ranges_of, range_of}
use Rattle.fix_fields.proofs.GrammarLemmas.{one_reading, no_field_at_end}
use Rattle.fix_fields.proofs.ReadingLemmas.{length-field_bytes, same_reading, to_the_end, to_the_fault}

-- a body has one list of fields
pub Fields-only : (body : List ℕ) (fs gs : List TagValue) → Fields body fs → Fields body gs → fs ≡ gs
Fields-only body fs gs p q =
    (one_reading None fs gs [] [] p.forms q.forms (no_field_at_end (last_of None fs)) (no_field_at_end (last_of None gs))
    (append-nil (bytes_of fs) ∙ sym p.bytes ∙ q.bytes ∙ sym (append-nil (bytes_of gs)))).0

-- and no more than one answer
pub one_place : (body : List ℕ) (m n : ℕ) → IsUnreadable body m → IsUnreadable body n → m ≡ n
one_place body m n p q =
    let same = same_reading body p.front q.front p.left q.left (to_the_fault body m p) (to_the_fault body n q) in
    p.place ∙ ap (λ (fs : List TagValue). length (bytes_of fs)) same.0 ∙ sym q.place

-- fields to the end leave nothing that can't be read
whole_is_readable : (body : List ℕ) (fs : List TagValue) (n : ℕ) → body ≡ bytes_of fs → AreFields None fs → IsUnreadable body n → ⊥
whole_is_readable body fs n bytes forms q =
    let same = same_reading body fs q.front [] q.left (to_the_end body fs bytes forms) (to_the_fault body n q) in
    let size : 0 ≡ length q.left = ap length same.1 in omega (arith, q.nonempty)

pub fields_are_readable : (body : List ℕ) (fs : List TagValue) (n : ℕ) → Fields body fs → IsUnreadable body n → ⊥
fields_are_readable body fs n p q = whole_is_readable body fs n p.bytes p.forms q

pub untyped_is_readable : (body : List ℕ) (n : ℕ) → LacksType body → IsUnreadable body n → ⊥
untyped_is_readable body n p q = whole_is_readable body p.fields n p.bytes p.forms q

pub fields_are_typed : (body : List ℕ) (fs : List TagValue) → Fields body fs → LacksType body → ⊥
fields_are_typed body fs p q =
    let same = same_reading body fs q.fields [] [] (to_the_end body fs p.bytes p.forms) (to_the_end body q.fields q.bytes q.forms) in
    let typed : begins_with_type fs ≡ true = p.typed in
    let untyped : begins_with_type fs ≡ false = ap begins_with_type same.0 ∙ q.untyped in cc

-- ordinary fields are in the grammar
AreFields-ordinary : (before : Option TagValue) (fs : List TagValue) → AreOrdinary before fs → AreFields before fs
AreFields-ordinary before [] is = tt
AreFields-ordinary None (f ∷ fs) is =
    (record { tag_form = is.0.tag_form; value_form = is.0.delimited }, AreFields-ordinary (Some f) fs is.1)
AreFields-ordinary (Some b) (f ∷ fs) is =
    let test : is_data_field_pair b.tag f.tag ≡ false = is.0.uncounted in
    let form : HasForm (Some b) f.tag f.value =
    subst (λ (t : Bool). MatchBool t (length_form b.value ≡ Some (length f.value)) (IsDelimited f.value)) (sym test) is.0.delimited in
    (record { tag_form = is.0.tag_form; value_form = form }, AreFields-ordinary (Some f) fs is.1)

-- so what they write is read as them
pub Fields-ordinary : (fs : List TagValue) → AreOrdinary None fs → begins_with_type fs ≡ true → Fields (bytes_of fs) fs
Fields-ordinary fs is typed = record { bytes = refl; forms = AreFields-ordinary None fs is; typed = typed }

-- each range is in order, and ends before the end of the fields
ranges_of-within : (at : ℕ) (fs : List TagValue) → All (λ f. (f.from ≤ f.to) × (f.to < at + length (bytes_of fs))) (ranges_of at fs)
ranges_of-within at [] = All-nil (λ (f : Field). (f.from ≤ f.to) × (f.to < at + length (bytes_of [])))
ranges_of-within at (f ∷ fs) =
    let size = length-field_bytes f in
    let whole : length (bytes_of (f ∷ fs)) ≡ length (field_bytes f) + length (bytes_of fs) = length-append (field_bytes f) (bytes_of fs) in
    All-cons (λ (p : Field). (p.from ≤ p.to) × (p.to < at + length (bytes_of (f ∷ fs)))) (range_of at f) (ranges_of (at + length (field_bytes f)) fs)
    (omega arith, omega arith)
    (All-weaker (λ (p : Field). (p.from ≤ p.to) × (p.to < at + length (field_bytes f) + length (bytes_of fs)))
    (λ (p : Field). (p.from ≤ p.to) × (p.to < at + length (bytes_of (f ∷ fs))))
    (λ p is. (is.0, omega (arith, is.1))) (ranges_of (at + length (field_bytes f)) fs) (ranges_of-within (at + length (field_bytes f)) fs))

-- the ranges of a body's fields lie within it
pub AreFieldsOf-within : (body : List ℕ) (fields : List Field) → AreFieldsOf body fields → All (λ f. HasRangeIn body f) fields
AreFieldsOf-within body fields is =
    let size : length body ≡ length (bytes_of (tag_values_of body fields)) = ap length is.read.bytes in
    subst (λ (fs : List Field). All (λ f. HasRangeIn body f) fs) (sym is.ranges)
    (All-weaker (λ (p : Field). (p.from ≤ p.to) × (p.to < 0 + length (bytes_of (tag_values_of body fields)))) (λ (p : Field). HasRangeIn body p)
    (λ p w. record { order = w.0; high = omega (arith, w.1) }) (ranges_of 0 (tag_values_of body fields)) (ranges_of-within 0 (tag_values_of body fields)))
