-- Reading from left to right: what one more field changes, and what the end of the reading says of the body.
use Rattle.std.proofs.Common.{◌≡◌, ℕ, ◌+◌, ◌<◌, ◌≤◌, Option, Some, None, List, [], ◌∷◌, ◌++◌, length, drop, ap, subst, sym, refl, ◌∙◌, arith}
use Rattle.std.specs.Fmt.{decimal}
use Rattle.std.specs.Option.{option_map, ForSome}
use Rattle.std.proofs.lemmas.List.{append-nil, append_assoc, length-append, length-drop, drop_all, map_push}
use Rattle.fix_fields.specs.declared.field.Field.{Field}
use Rattle.fix_fields.specs.Grammar.{TagValue, IsField, AreFields, IsUnreadable, NoField, field_bytes, bytes_of, last_of}
use Rattle.fix_fields.specs.Ranges.{HasRangeIn, tag_value_of, tag_values_of, range_of, ranges_of}
use Rattle.fix_fields.specs.FieldAt.{IsFieldAt}
use Rattle.fix_fields.proofs.GrammarLemmas.{one_reading, no_field_at_end}

-- up to byte `at` the body is these fields, which show these tags and values, and `before` is the last of them
pub record IsRead (body : List ℕ) (fields : List Field) (seen : List TagValue) (before : Option Field) (at : ℕ) : Type 0 where
  pub bytes : body ≡ bytes_of seen ++ drop at body
  pub place : at ≡ length (bytes_of seen)
  pub high : at ≤ length body
  pub forms : AreFields None seen
  pub ranges : fields ≡ ranges_of 0 seen
  pub last : option_map (tag_value_of body) before ≡ last_of None seen
  pub within : ForSome before (λ f. HasRangeIn body f)

abbrev pub HasRead : List ℕ → List Field → Option Field → ℕ → Type 0
HasRead body fields before at = IsRead body fields (tag_values_of body fields) before at

-- one more field at the end
bytes_of-push : (fs : List TagValue) (g : TagValue) → bytes_of (fs ++ g ∷ []) ≡ bytes_of fs ++ field_bytes g
bytes_of-push [] g = append-nil (field_bytes g)
bytes_of-push (f ∷ fs) g = ap (λ (r : List ℕ). field_bytes f ++ r) (bytes_of-push fs g) ∙ sym (append_assoc (field_bytes f) (bytes_of fs) (field_bytes g))

AreFields-push : (before : Option TagValue) (fs : List TagValue) (g : TagValue) → AreFields before fs → IsField (last_of before fs) g → AreFields before (fs ++ g ∷ [])
AreFields-push before [] g forms is = (is, tt)
AreFields-push before (f ∷ fs) g forms is = (forms.0, AreFields-push (Some f) fs g forms.1 is)

last_of-push : (before : Option TagValue) (fs : List TagValue) (g : TagValue) → last_of before (fs ++ g ∷ []) ≡ Some g
last_of-push before [] g = refl
last_of-push before (f ∷ fs) g = last_of-push (Some f) fs g

ranges_of-push : (at : ℕ) (fs : List TagValue) (g : TagValue) → ranges_of at (fs ++ g ∷ []) ≡ ranges_of at fs ++ range_of (at + length (bytes_of fs)) g ∷ []
ranges_of-push at [] g = ap (λ (n : ℕ). range_of n g ∷ []) (omega arith)
ranges_of-push at (f ∷ fs) g =
    let sizes : at + length (field_bytes f) + length (bytes_of fs) ≡ at + length (bytes_of (f ∷ fs)) = omega (arith, length-append (field_bytes f) (bytes_of fs)) in
    ap (λ (ps : List Field). range_of at f ∷ ps) (ranges_of-push (at + length (field_bytes f)) fs g ∙ ap (λ (n : ℕ). ranges_of (at + length (field_bytes f)) fs ++ range_of n g ∷ []) sizes)

-- the size of a field
pub length-field_bytes : (f : TagValue) → length (field_bytes f) ≡ length (decimal f.tag) + length f.value + 2
length-field_bytes f =
    omega (arith, length-append (decimal f.tag) (61 ∷ (f.value ++ 1 ∷ [])), length-append f.value (1 ∷ []))

-- nothing has been read at first
pub HasRead-none : (body : List ℕ) → HasRead body [] None 0
HasRead-none body = record { bytes = refl; place = refl; high = omega arith; forms = tt; ranges = refl; last = refl; within = λ f e. cc }

-- one field further
pub HasRead-more : (body : List ℕ) (fields : List Field) (before : Option Field) (at : ℕ) (f : Field) → HasRead body fields before at
    → IsFieldAt body at (option_map (tag_value_of body) before) f → HasRead body (fields ++ f ∷ []) (Some f) (f.to + 1)
HasRead-more body fields before at f h b =
    let g : TagValue = tag_value_of body f in
    let gs : List TagValue = tag_values_of body fields in
    let shows : tag_values_of body (fields ++ f ∷ []) ≡ gs ++ g ∷ [] = map_push (tag_value_of body) fields f in
    let form : IsField (last_of None gs) g = subst (λ (o : Option TagValue). IsField o g) h.last b.form in
    let bytes : body ≡ bytes_of (gs ++ g ∷ []) ++ drop (f.to + 1) body =
    h.bytes ∙ ap (λ (r : List ℕ). bytes_of gs ++ r) b.bytes ∙ sym (append_assoc (bytes_of gs) (field_bytes g) (drop (f.to + 1) body))
    ∙ ap (λ (r : List ℕ). r ++ drop (f.to + 1) body) (sym (bytes_of-push gs g)) in
    let to : f.to ≡ at + length (decimal f.tag) + 1 + length g.value = ap (λ (p : Field). p.to) b.range in
    let size : length (bytes_of (gs ++ g ∷ [])) ≡ length (bytes_of gs) + length (field_bytes g) = ap length (bytes_of-push gs g) ∙ length-append (bytes_of gs) (field_bytes g) in
    let place : f.to + 1 ≡ length (bytes_of (gs ++ g ∷ [])) = omega (arith, h.place, length-field_bytes g) in
    let at_is : at ≡ 0 + length (bytes_of gs) = omega (arith, h.place) in
    let ranges : fields ++ f ∷ [] ≡ ranges_of 0 (gs ++ g ∷ []) =
    ap (λ (ps : List Field). ps ++ f ∷ []) h.ranges ∙ ap (λ (p : Field). ranges_of 0 gs ++ p ∷ []) (b.range ∙ ap (λ (n : ℕ). range_of n g) at_is) ∙ sym (ranges_of-push 0 gs g) in
    let read : IsRead body (fields ++ f ∷ []) (gs ++ g ∷ []) (Some f) (f.to + 1) = record {
      bytes = bytes;
      place = place;
      high = omega (arith, b.within.high);
      forms = AreFields-push None gs g h.forms form;
      ranges = ranges;
      last = sym (last_of-push None gs g);
      within = λ x e. (let same : f ≡ x = cc in subst (λ (y : Field). HasRangeIn body y) same b.within);
    } in subst (λ (seen : List TagValue). IsRead body (fields ++ f ∷ []) seen (Some f) (f.to + 1)) (sym shows) read

-- a reading of a body: fields, and then a rest at whose front no field can be read
pub record IsReading (body : List ℕ) (fields : List TagValue) (left : List ℕ) : Type 0 where
  pub bytes : body ≡ bytes_of fields ++ left
  pub forms : AreFields None fields
  pub none : NoField (last_of None fields) left

pub same_reading : (body : List ℕ) (fs gs : List TagValue) (r s : List ℕ) → IsReading body fs r → IsReading body gs s → (fs ≡ gs) × (r ≡ s)
same_reading body fs gs r s p q = one_reading None fs gs r s p.forms q.forms p.none q.none (sym p.bytes ∙ q.bytes)

pub to_the_end : (body : List ℕ) (fs : List TagValue) → body ≡ bytes_of fs → AreFields None fs → IsReading body fs []
to_the_end body fs e forms = record { bytes = e ∙ sym (append-nil (bytes_of fs)); forms = forms; none = no_field_at_end (last_of None fs) }

pub to_the_fault : (body : List ℕ) (n : ℕ) (u : IsUnreadable body n) → IsReading body u.front u.left
to_the_fault body n u = record { bytes = u.bytes; forms = u.forms; none = u.no_field }

-- the fields that end at the end of the body are all of it
pub whole : (body : List ℕ) (fields : List Field) (before : Option Field) (at : ℕ) → HasRead body fields before at → length body ≤ at → body ≡ bytes_of (tag_values_of body fields)
whole body fields before at h end =
    h.bytes ∙ ap (λ (r : List ℕ). bytes_of (tag_values_of body fields) ++ r) (drop_all at body end) ∙ append-nil (bytes_of (tag_values_of body fields))

-- where no field can be read from byte `at` on
module _ (body : List ℕ) (fields : List Field) (before : Option Field) (at : ℕ) (h : HasRead body fields before at) (low : at < length body)
    (none : NoField (option_map (tag_value_of body) before) (drop at body)) where
  stuck : IsReading body (tag_values_of body fields) (drop at body)
  stuck = record { bytes = h.bytes; forms = h.forms; none = subst (λ (o : Option TagValue). NoField o (drop at body)) h.last none }

  -- the body isn't fields to its end
  pub stuck_not_whole : (fs : List TagValue) → body ≡ bytes_of fs → AreFields None fs → ⊥
  stuck_not_whole fs bytes forms =
      let same = same_reading body (tag_values_of body fields) fs (drop at body) [] stuck (to_the_end body fs bytes forms) in
      let size : length (drop at body) ≡ 0 = ap length same.1 in omega (arith, length-drop at body)

  -- and no other field is the first that can't be read
  pub stuck_here : (n : ℕ) → IsUnreadable body n → at ≡ n
  stuck_here n u =
      let same = same_reading body (tag_values_of body fields) u.front (drop at body) u.left stuck (to_the_fault body n u) in
      let sizes : length (bytes_of (tag_values_of body fields)) ≡ length (bytes_of u.front) = ap (λ (fs : List TagValue). length (bytes_of fs)) same.0 in omega (arith, h.place, u.place)

-- where the fields have been read to the end of the body
module _ (body : List ℕ) (fields : List Field) (before : Option Field) (at : ℕ) (h : HasRead body fields before at) (end : length body ≤ at) where
  read : IsReading body (tag_values_of body fields) []
  read = to_the_end body (tag_values_of body fields) (whole body fields before at h end) h.forms

  -- no field of it can't be read
  pub whole_not_stuck : (n : ℕ) → IsUnreadable body n → ⊥
  whole_not_stuck n u =
      let same = same_reading body (tag_values_of body fields) u.front [] u.left read (to_the_fault body n u) in
      let size : 0 ≡ length u.left = ap length same.1 in omega (arith, u.nonempty)
