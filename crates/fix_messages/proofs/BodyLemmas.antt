-- The fields of a body are those that are found one after another from its front.
use Rattle.std.proofs.Common.{◌≡◌, ◌≢◌, ℕ, zero, suc, ◌+◌, ◌≤◌, ◌<◌, Bool, true, false, cond, ◌==◌, Option, Some, None, Result, Err, List, [], ◌∷◌, ◌++◌, length, take, drop, get_or, MatchBool, refl, sym, subst, ap, ◌∙◌, inl, inr, arith, rules}
use Rattle.std.specs.Fmt.{decimal}
use Rattle.std.specs.List.{All, after_first, before_first, position_or_len}
use Rattle.std.proofs.Math.Nat.{lt_of_not-le}
use Rattle.std.proofs.lemmas.Bool.Decides.{nat_tests}
use Rattle.std.proofs.lemmas.Bool.{cases_Bool, eqb-true, eq-eqb, ne_eqb}
use Rattle.std.proofs.lemmas.List.{append-nil, append_assoc, drop_at, get_or_at, get_or_past, get_or-take, length-append, length-drop, length-take-le, nil_from_length, take_at}
use Rattle.std.proofs.lemmas.List.Elements.{All-from_get_or, All-head, All-tail}
use Rattle.std.proofs.lemmas.List.Sums.{fails_before_first, passes_at_first}
use Rattle.audit_base.specs.declared.faults.Reason.{Reason}
use Rattle.audit_base.specs.declared.faults.Reason.TheVariants as reason
use Rattle.fix_fields.specs.Forms.{length_form, tag_form}
use Rattle.fix_fields.specs.Grammar.{TagValue, AreFields, Fields, HasForm, IsField, IsDelimited, IsUnreadable, LacksType, NoField, bytes_of, field_bytes, last_of}
use Rattle.fix_fields.specs.Pairs.{is_data_field_pair}
use Rattle.fix_fields.specs.Ranges.{tag_values_of}
use Rattle.fix_fields.specs.TagNotes.{HasNotes}
use Rattle.fix_fields.specs.declared.notes.TagNotes.{TagNotes}
use Rattle.fix_fields.proofs.GrammarLemmas.{field_bytes-append, no_field_at_end, one_reading}
use Rattle.fix_fields.proofs.ReadingLemmas.{length-field_bytes}
use Rattle.fix_fields.proofs.SearchLemmas.{split_at}
use Rattle.fix_fields.proofs.TagLemmas.{decimal_no_equals, tag_form-decimal, tag_form-some, tag_split}
use Rattle.fix_messages.specs.declared.meanings.MessageFault.{MessageFault}
use Rattle.fix_messages.specs.Bodies.{body_says, with_reason, says_of}
use Rattle.fix_messages.specs.Steps.{TakesSaid}
use Rattle.fix_messages.specs.BodyFields.{FieldSplit, ended_field, fields_of, is_end, is_equals, next_field, some_size, split_from, split_next, split_of, tagged_field, value_size}

-- a byte after bytes that are others is right there
position-until : (b : ℕ) (front more : List ℕ) → All (λ x. x ≢ b) front → position_or_len (λ x. x == b) (front ++ b ∷ more) ≡ length front
position-until b [] more others = let same = eq-eqb b b refl in rw same refl
position-until b (x ∷ front) more others =
    let other = ne_eqb x b (All-head (λ y. y ≢ b) x front others) in
    let rest = position-until b front more (All-tail (λ y. y ≢ b) x front others) in
    let size : 1 + length front ≡ length (x ∷ front) = omega arith in
    rw other (ap (λ (k : ℕ). 1 + k) rest ∙ size)

-- and where a byte is found, those before it are others
others-before : (b : ℕ) (bytes : List ℕ) (size : ℕ) → size ≡ position_or_len (λ x. x == b) bytes → size < length bytes → All (λ x. x ≢ b) (take size bytes)
others-before b bytes size at low =
    All-from_get_or (λ x. x ≢ b) (take size bytes) 0 (λ k below is.
    let count : length (take size bytes) ≡ size = length-take-le size bytes (omega (arith, low)) in
    let before : k < size = omega (arith, count, below) in
    let fails = fails_before_first (λ x. x == b) bytes k 0 (omega (arith, at, before)) in
    let here : get_or bytes k 0 ≡ b = sym (get_or-take size bytes k 0 before) ∙ is in
    let passes = eq-eqb (get_or bytes k 0) b here in cc)

-- the value of a field in its form has the size that is found
value-size : (counts : Bool) (count : Option ℕ) (value more : List ℕ) → MatchBool counts (count ≡ Some (length value)) (IsDelimited value)
    → cond {A = Option ℕ} counts count (some_size (position_or_len is_end (value ++ 1 ∷ more))) ≡ Some (length value)
value-size true count value more form = form
value-size false count value more form =
    let size = position-until 1 value more form.no_end in
    let some = form.nonempty in rw size (search (rules, nat_tests))

size-found : (before : Option TagValue) (tag : ℕ) (value more : List ℕ) → HasForm before tag value → value_size before tag (value ++ 1 ∷ more) ≡ Some (length value)
size-found None tag value more form = value-size false None value more form
size-found (Some before) tag value more form = value-size (is_data_field_pair before.tag tag) (length_form before.value) value more form

-- a field at the front is found
pub next-of : (before : Option TagValue) (field : TagValue) (more : List ℕ) → IsField before field → next_field before (field_bytes field ++ more) ≡ Some field
next-of before field more is =
    let tag = decimal field.tag in
    let rest = field.value ++ 1 ∷ more in
    let at : position_or_len is_equals (tag ++ 61 ∷ rest) ≡ length tag = position-until 61 tag rest (decimal_no_equals field.tag is.tag_form) in
    let first : before_first is_equals (tag ++ 61 ∷ rest) ≡ tag = ap (λ (k : ℕ). take k (tag ++ 61 ∷ rest)) at ∙ take_at tag (61 ∷ rest) (length tag) refl in
    let split : tag ++ 61 ∷ rest ≡ (tag ++ 61 ∷ []) ++ rest = sym (append_assoc tag (61 ∷ []) rest) in
    let size : length (tag ++ 61 ∷ []) ≡ length tag + 1 = length-append tag (61 ∷ []) in
    let behind : after_first is_equals (tag ++ 61 ∷ rest) ≡ rest =
    ap (λ (k : ℕ). drop (k + 1) (tag ++ 61 ∷ rest)) at ∙ ap (drop (length tag + 1)) split ∙ drop_at (tag ++ 61 ∷ []) rest (length tag + 1) size in
    let ends : get_or rest (length field.value) 0 ≡ 1 = get_or_at field.value 1 more 0 (length field.value) refl in
    let value : take (length field.value) rest ≡ field.value = take_at field.value (1 ∷ more) (length field.value) refl in
    ap (next_field before) (field_bytes-append field more)
    ∙ ap (λ (t : List ℕ). tagged_field before (tag_form t) (after_first is_equals (tag ++ 61 ∷ rest))) first
    ∙ ap (λ (o : Option ℕ). tagged_field before o (after_first is_equals (tag ++ 61 ∷ rest))) (tag_form-decimal field.tag is.tag_form)
    ∙ ap (λ (r : List ℕ). tagged_field before (Some field.tag) r) behind
    ∙ ap (ended_field field.tag rest) (size-found before field.tag field.value more is.value_form)
    ∙ ap (λ (b : Bool). cond {A = Option TagValue} b (Some (record { tag = field.tag; value = take (length field.value) rest })) None) (eq-eqb (get_or rest (length field.value) 0) 1 ends)
    ∙ ap (λ (v : List ℕ). Some (record { tag = field.tag; value = v })) value

-- what is found is a field
record Found (before : Option TagValue) (bytes : List ℕ) (field : TagValue) : Type 0 where
  is : IsField before field
  whole : bytes ≡ field_bytes field ++ drop (length (field_bytes field)) bytes

some-size : (n size : ℕ) → some_size n ≡ Some size → (0 < n) × (n ≡ size)
some-size n size h = elim (cases_Bool (Rattle.std.specs.Prelude.nat_lt 0 n)) [
  | inl less ↦
      let same : Some n ≡ Some size = rw less at h in
      (grind (arith, nat_tests, less), cc same)
  | inr more ↦
      let none : None ≡ Some size = rw more at h in absurd (cc none)
]

-- a size that is found is that of a value in its form
plain-form : (bytes : List ℕ) (size : ℕ) → size < length bytes → some_size (position_or_len is_end bytes) ≡ Some size → IsDelimited (take size bytes)
plain-form bytes size low h =
    let s = some-size (position_or_len is_end bytes) size h in
    let count : length (take size bytes) ≡ size = length-take-le size bytes (omega (arith, low)) in
    record { nonempty = omega (arith, s.0, s.1, count); no_end = others-before 1 bytes size (sym s.1) low }

value-form : (counts : Bool) (count : Option ℕ) (bytes : List ℕ) (size : ℕ) → size < length bytes → cond {A = Option ℕ} counts count (some_size (position_or_len is_end bytes)) ≡ Some size
    → MatchBool counts (count ≡ Some (length (take size bytes))) (IsDelimited (take size bytes))
value-form true count bytes size low h = h ∙ ap (λ (k : ℕ). Some k) (sym (length-take-le size bytes (omega (arith, low))))
value-form false count bytes size low h = plain-form bytes size low h

form-found : (before : Option TagValue) (tag : ℕ) (bytes : List ℕ) (size : ℕ) → size < length bytes → value_size before tag bytes ≡ Some size → HasForm before tag (take size bytes)
form-found None tag bytes size low h = plain-form bytes size low h
form-found (Some before) tag bytes size low h = value-form (is_data_field_pair before.tag tag) (length_form before.value) bytes size low h

ended-found : (tag : ℕ) (bytes : List ℕ) (size : Option ℕ) (field : TagValue) → ended_field tag bytes size ≡ Some field
    → (n : ℕ) × (size ≡ Some n) × (get_or bytes n 0 ≡ 1) × (field ≡ record { tag = tag; value = take n bytes })
ended-found tag bytes None field h = absurd (cc h)
ended-found tag bytes (Some n) field h = elim (cases_Bool (get_or bytes n 0 == 1)) [
  | inl same ↦
      let is : Some (record { tag = tag; value = take n bytes }) ≡ Some field = rw same at h in
      (n, refl, eqb-true (get_or bytes n 0) 1 same, sym (cc is))
  | inr other ↦
      let none : None ≡ Some field = rw other at h in absurd (cc none)
]

tagged-found : (before : Option TagValue) (tag : Option ℕ) (bytes : List ℕ) (field : TagValue) → tagged_field before tag bytes ≡ Some field
    → (t : ℕ) × (tag ≡ Some t) × (ended_field t bytes (value_size before t bytes) ≡ Some field)
tagged-found before None bytes field h = absurd (cc h)
tagged-found before (Some t) bytes field h = (t, refl, h)

next-found : (before : Option TagValue) (bytes : List ℕ) (field : TagValue) → next_field before bytes ≡ Some field → Found before bytes field
next-found before bytes field h =
    let k = position_or_len is_equals bytes in
    let rest = after_first is_equals bytes in
    let tagged = tagged-found before (tag_form (before_first is_equals bytes)) rest field h in
    let tag : ℕ = tagged.0 in
    let end = ended-found tag rest (value_size before tag rest) field tagged.2 in
    let n : ℕ = end.0 in
    let low : n < length rest = lt_of_not-le (λ past. omega (arith, get_or_past rest n 0 past, end.2)) in
    let left : length rest + 0 ≡ length rest = omega arith in
    let dropped = length-drop (k + 1) bytes in
    let inside : k < length bytes = omega (arith, low, dropped) in
    let here = eqb-true (get_or bytes k 0) 61 (passes_at_first is_equals bytes 0 inside) in
    let tag_is = tag_form-some (take k bytes) tag tagged.1 in
    let front = tag_split bytes k tag inside here tagged.1 in
    let value = split_at 1 rest n low end.2 in
    let found : TagValue = record { tag = tag; value = take n rest } in
    let more = drop (n + 1) rest in
    let whole : bytes ≡ field_bytes found ++ more = front ∙ ap (λ (t : List ℕ). decimal tag ++ 61 ∷ t) value ∙ sym (field_bytes-append found more) in
    let behind : drop (length (field_bytes found)) bytes ≡ more = ap (drop (length (field_bytes found))) whole ∙ drop_at (field_bytes found) more (length (field_bytes found)) refl in
    subst (Found before bytes) (sym end.3) (record {
      is = record { tag_form = tag_is.1; value_form = form-found before tag rest n low end.1 };
      whole = whole ∙ ap (λ (t : List ℕ). field_bytes found ++ t) (sym behind);
    })

-- fields that were found from the front, up to bytes at whose front no field can be read
pub record IsSplit (before : Option TagValue) (bytes : List ℕ) (split : FieldSplit) : Type 0 where
  pub whole : bytes ≡ bytes_of split.fields ++ split.left
  pub forms : AreFields before split.fields
  pub none : NoField (last_of before split.fields) split.left

nothing-found : (before : Option TagValue) (bytes : List ℕ) → next_field before bytes ≡ None → NoField before bytes
nothing-found before bytes none field more is cut =
    let some : next_field before bytes ≡ Some field = ap (next_field before) cut ∙ next-of before field more is in cc

split-step : (most : ℕ) (before : Option TagValue) (bytes : List ℕ) (next : Option TagValue) → next_field before bytes ≡ next
    → ((field : TagValue) → next ≡ Some field → IsSplit (Some field) (drop (length (field_bytes field)) bytes) (split_from most (Some field) (drop (length (field_bytes field)) bytes)))
    → IsSplit before bytes (split_next bytes next (λ field. split_from most (Some field) (drop (length (field_bytes field)) bytes)))
split-step most before bytes None e later = record { whole = refl; forms = tt; none = nothing-found before bytes e }
split-step most before bytes (Some field) e later =
    let found = next-found before bytes field e in
    let rest = later field refl in
    let s = split_from most (Some field) (drop (length (field_bytes field)) bytes) in
    record {
      whole = found.whole ∙ ap (λ (t : List ℕ). field_bytes field ++ t) rest.whole ∙ sym (append_assoc (field_bytes field) (bytes_of s.fields) s.left);
      forms = (found.is, rest.forms);
      none = rest.none;
    }

split-is : (most : ℕ) (before : Option TagValue) (bytes : List ℕ) → length bytes ≤ most → IsSplit before bytes (split_from most before bytes)
split-is zero before bytes h =
    let none = nil_from_length bytes (omega (arith, h)) in
    subst (λ (t : List ℕ). IsSplit before t (split_from zero before t)) (sym none) (record { whole = refl; forms = tt; none = no_field_at_end before })
split-is (suc most) before bytes h =
    split-step most before bytes (next_field before bytes) refl (λ field is.
    let size = length-field_bytes field in
    let left = length-drop (length (field_bytes field)) bytes in
    split-is most (Some field) (drop (length (field_bytes field)) bytes) (omega (arith, h, size, left)))

pub body-split : (body : List ℕ) → IsSplit None body (split_of body)
unfolding split_of
body-split body = split-is (length body) None body (omega arith)

-- the fields of a body are these alone
pub fields-are : (body : List ℕ) (fields : List TagValue) → Fields body fields → fields_of body ≡ fields
fields-are body fields is =
    let s = body-split body in
    let same = one_reading None (split_of body).fields fields (split_of body).left [] s.forms is.forms s.none (no_field_at_end (last_of None fields))
    (sym s.whole ∙ is.bytes ∙ sym (append-nil (bytes_of fields))) in same.0

left-says : {R : Type 0} (meaning : List TagValue → Result (Option R) MessageFault) (front : List TagValue) (left : List ℕ) → 0 < length left
    → says_of meaning front left ≡ Err (reason.Field (length (bytes_of front)))
left-says meaning front [] h = absurd (omega (arith, h))
left-says meaning front (byte ∷ left) h = refl

module _ {R : Type 0} (meaning : List TagValue → Result (Option R) MessageFault) (body : List ℕ) where
  -- a reading of the body says what the body says
  reading-says : (fields : List TagValue) (left : List ℕ) → body ≡ bytes_of fields ++ left → AreFields None fields → NoField (last_of None fields) left
      → body_says meaning body ≡ says_of meaning fields left
  unfolding body_says
  reading-says fields left bytes forms none =
      let s = body-split body in
      let same = one_reading None (split_of body).fields fields (split_of body).left left s.forms forms s.none none (sym s.whole ∙ bytes) in
      ap (λ (f : List TagValue). says_of meaning f (split_of body).left) same.0 ∙ ap (says_of meaning fields) same.1

  pub fields-say : (fields : List TagValue) → Fields body fields → body_says meaning body ≡ with_reason (meaning fields)
  fields-say fields is =
      reading-says fields [] (is.bytes ∙ sym (append-nil (bytes_of fields))) is.forms (no_field_at_end (last_of None fields))
      ∙ ap (λ (t : Bool). cond {A = Result (Option R) Reason} t (with_reason (meaning fields)) (Err reason.MsgType)) is.typed

  -- notes of a body say its fields
  pub notes-say : (notes : TagNotes) → HasNotes body notes → with_reason (meaning (fields_of body)) ≡ body_says meaning body
  notes-say notes has =
      let fields = tag_values_of body has.fields in
      ap (λ (fs : List TagValue). with_reason (meaning fs)) (fields-are body fields has.are.read) ∙ sym (fields-say fields has.are.read)

  pub unreadable-says : (n : ℕ) → IsUnreadable body n → body_says meaning body ≡ Err (reason.Field n)
  unreadable-says n is =
      reading-says is.front is.left is.bytes is.forms is.no_field ∙ left-says meaning is.front is.left is.nonempty
      ∙ ap (λ (k : ℕ). Err (reason.Field k)) (sym is.place)

  pub untyped-says : LacksType body → body_says meaning body ≡ Err reason.MsgType
  untyped-says is =
      reading-says is.fields [] (is.bytes ∙ sym (append-nil (bytes_of is.fields))) is.forms (no_field_at_end (last_of None is.fields))
      ∙ ap (λ (t : Bool). cond {A = Result (Option R) Reason} t (with_reason (meaning is.fields)) (Err reason.MsgType)) is.untyped

-- a body that says a fault adds no record
pub takes-bad : {R : Type 0} (said : Result (Option R) Reason) (why : Reason) (has : List R → Type 0) → said ≡ Err why → TakesSaid said has has (Err why)
takes-bad {R} said why has is =
    subst (λ (s : Result (Option R) Reason). TakesSaid s has has (Err why)) (sym is) ((λ list before. subst has (sym (append-nil list)) before), refl)
