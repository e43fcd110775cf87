-- A body has one reading: the field at the front of bytes is one and no other, so are all of them.
use Rattle.std.proofs.Common.{◌≡◌, ◌≢◌, ℕ, ◌+◌, Bool, true, false, Option, Some, None, List, [], ◌∷◌, ◌++◌, length, take, drop, MatchBool, ap, subst, sym, refl, ◌∙◌, arith}
use Rattle.std.specs.Fmt.{decimal}
use Rattle.std.proofs.lemmas.Fmt.{decimal_injective}
use Rattle.std.proofs.lemmas.List.{append_assoc, length-append, take_at, drop_at}
use Rattle.fix_fields.specs.Forms.{length_form}
use Rattle.fix_fields.specs.Pairs.{is_data_field_pair}
use Rattle.fix_fields.specs.Grammar.{TagValue, IsTag, IsDelimited, HasForm, IsField, AreFields, NoField, field_bytes, bytes_of, last_of}
use Rattle.fix_fields.proofs.SearchLemmas.{same_until}
use Rattle.fix_fields.proofs.TagLemmas.{decimal_no_equals}

-- the bytes of a field before others: the tag, `=`, the value, SOH and the others
pub field_bytes-append : (field : TagValue) (more : List ℕ) → field_bytes field ++ more ≡ decimal field.tag ++ 61 ∷ (field.value ++ 1 ∷ more)
field_bytes-append field more = simp append_assoc

-- two lists of one size that begin equal bytes are equal
same_front : (xs ys x y : List ℕ) → length xs ≡ length ys → xs ++ x ≡ ys ++ y → (xs ≡ ys) × (x ≡ y)
same_front xs ys x y sizes e =
    let front : xs ≡ ys = sym (take_at xs x (length xs) refl) ∙ ap (take (length xs)) e ∙ take_at ys y (length xs) (sym sizes) in
    let rest : x ≡ y = sym (drop_at xs x (length xs) refl) ∙ ap (drop (length xs)) e ∙ drop_at ys y (length xs) (sym sizes) in (front, rest)

counted_or_delimited : (b : Bool) (size : Option ℕ) (v w x y : List ℕ) → MatchBool b (size ≡ Some (length v)) (IsDelimited v) → MatchBool b (size ≡ Some (length w)) (IsDelimited w)
    → v ++ 1 ∷ x ≡ w ++ 1 ∷ y → (v ≡ w) × (x ≡ y)
counted_or_delimited false size v w x y p q e = same_until 1 v w x y p.no_end q.no_end e
counted_or_delimited true size v w x y p q e =
    let sizes : length v ≡ length w = cc in
    let same = same_front v w (1 ∷ x) (1 ∷ y) sizes e in
    let rest : 1 ∷ x ≡ 1 ∷ y = same.1 in (same.0, cc)

-- values in one form before equal bytes are equal
same_value : (before : Option TagValue) (tag : ℕ) (v w x y : List ℕ) → HasForm before tag v → HasForm before tag w
    → v ++ 1 ∷ x ≡ w ++ 1 ∷ y → (v ≡ w) × (x ≡ y)
same_value None tag v w x y p q e = same_until 1 v w x y p.no_end q.no_end e
same_value (Some before) tag v w x y p q e = counted_or_delimited (is_data_field_pair before.tag tag) (length_form before.value) v w x y p q e

-- tags before `=` and equal bytes are equal
pub same_tag : (t u : ℕ) (x y : List ℕ) → IsTag t → IsTag u → decimal t ++ 61 ∷ x ≡ decimal u ++ 61 ∷ y → (t ≡ u) × (x ≡ y)
same_tag t u x y p q e =
    let same = same_until 61 (decimal t) (decimal u) x y (decimal_no_equals t p) (decimal_no_equals u q) e in
    (decimal_injective t u (omega (arith, p.high)) (omega (arith, q.high)) same.0, same.1)

-- the field at the front of bytes is one
pub one_field : (before : Option TagValue) (f g : TagValue) (x y : List ℕ) → IsField before f → IsField before g → field_bytes f ++ x ≡ field_bytes g ++ y → (f ≡ g) × (x ≡ y)
one_field before f g x y p q e =
    let whole = sym (field_bytes-append f x) ∙ e ∙ field_bytes-append g y in
    let tags = same_tag f.tag g.tag (f.value ++ 1 ∷ x) (g.value ++ 1 ∷ y) p.tag_form q.tag_form whole in
    let form : HasForm before f.tag g.value =
    subst (λ (t : ℕ). HasForm before t g.value) (sym tags.0) q.value_form in
    let values = same_value before f.tag f.value g.value x y p.value_form form tags.1 in
    (λ i. record { tag = tags.0 i; value = values.0 i }, values.1)

-- where a tag and `=` are at the front, and after them no value for it, no field is
pub no_value : (before : Option TagValue) (bytes rest : List ℕ) (tag : ℕ) → IsTag tag → bytes ≡ decimal tag ++ 61 ∷ rest
    → ((value more : List ℕ) → HasForm before tag value → rest ≢ value ++ 1 ∷ more) → NoField before bytes
no_value before bytes rest tag is e none field more form here =
    let tags = same_tag tag field.tag rest (field.value ++ 1 ∷ more) is form.tag_form (sym e ∙ here ∙ field_bytes-append field more) in
    none field.value more (subst (λ (t : ℕ). HasForm before t field.value) (sym tags.0) form.value_form) tags.1

-- no field is at the end
pub no_field_at_end : (before : Option TagValue) → NoField before []
no_field_at_end before field more form e =
    let size : 0 ≡ length (decimal field.tag) + length (61 ∷ (field.value ++ 1 ∷ more)) =
    ap length (e ∙ field_bytes-append field more) ∙ length-append (decimal field.tag) (61 ∷ (field.value ++ 1 ∷ more)) in omega arith

-- a body has one reading up to where no field can be read
pub one_reading : (before : Option TagValue) (fs gs : List TagValue) (r s : List ℕ) → AreFields before fs → AreFields before gs
    → NoField (last_of before fs) r → NoField (last_of before gs) s → bytes_of fs ++ r ≡ bytes_of gs ++ s → (fs ≡ gs) × (r ≡ s)
one_reading before [] [] r s p q m n e = (refl, e)
one_reading before [] (g ∷ gs) r s p q m n e = absurd (m g (bytes_of gs ++ s) q.0 (e ∙ append_assoc (field_bytes g) (bytes_of gs) s))
one_reading before (f ∷ fs) [] r s p q m n e =
    absurd (n f (bytes_of fs ++ r) p.0 (sym e ∙ append_assoc (field_bytes f) (bytes_of fs) r))
one_reading before (f ∷ fs) (g ∷ gs) r s p q m n e =
    let whole = sym (append_assoc (field_bytes f) (bytes_of fs) r) ∙ e ∙ append_assoc (field_bytes g) (bytes_of gs) s in
    let first = one_field before f g (bytes_of fs ++ r) (bytes_of gs ++ s) p.0 q.0 whole in
    let forms : AreFields (Some f) gs = subst (λ (h : TagValue). AreFields (Some h) gs) (sym first.0) q.1 in
    let end : NoField (last_of (Some f) gs) s = subst (λ (h : TagValue). NoField (last_of (Some h) gs) s) (sym first.0) n in
    let rest = one_reading (Some f) fs gs r s p.1 forms m end first.1 in
    let heads = first.0 in
    let tails = rest.0 in (cc, rest.1)
