-- Fields that are handed on as they are read, where of the field before the next one only a length field is kept.
use Rattle.std.proofs.Common.{◌≡◌, ◌≢◌, ℕ, ◌+◌, ◌<◌, ◌≤◌, Bool, true, false, cond, eqb, Option, Some, None, List, [], ◌∷◌, ◌++◌, length, drop, MatchBool, ap, subst, sym, refl, ◌∙◌, arith}
use Rattle.std.specs.Fmt.{decimal}
use Rattle.std.specs.List.{find, list_any}
use Rattle.std.specs.Option.{option_map, ForSome}
use Rattle.std.proofs.lemmas.Bool.{or_parts}
use Rattle.std.proofs.lemmas.List.{length-append, length-drop}
use Rattle.fix_fields.specs.declared.field.Field.{Field}
use Rattle.fix_fields.specs.Forms.{length_form}
use Rattle.fix_fields.specs.Pairs.{is_length_tag, is_data_field_pair, is_tag, data_field_pairs}
use Rattle.fix_fields.specs.Grammar.{TagValue, IsTag, IsDelimited, HasForm, AreFields, IsUnreadable, LacksType, NoField, begins_with_type, bytes_of}
use Rattle.fix_fields.specs.Ranges.{HandsFields, tag_value_of, tag_values_of}
use Rattle.fix_fields.specs.FieldAt.{IsFieldAt, counter_of}
use Rattle.fix_fields.proofs.GrammarLemmas.{field_bytes-append, same_tag}
use Rattle.fix_fields.proofs.ReadingLemmas.{HasRead, HasRead-more, HasRead-none, whole}

-- a tag that is no length tag is in no pair
none-step : (b : Bool) (p : ℕ × ℕ) (rest : Option (ℕ × ℕ)) (tag : ℕ) → eqb p.0 tag ≡ false → is_tag (option_map (λ q. q.0) rest) tag ≡ false
    → is_tag (option_map (λ q. q.0) (cond b (Some p) rest)) tag ≡ false
none-step true p rest tag here later = here
none-step false p rest tag here later = later

none-among : (all : List (ℕ × ℕ)) (tag next : ℕ) → list_any (λ p. eqb p.0 tag) all ≡ false → is_tag (option_map (λ q. q.0) (find (λ p. eqb p.1 next) all)) tag ≡ false
none-among [] tag next none = refl
none-among (p ∷ all) tag next none =
    let both = or_parts (eqb p.0 tag) (list_any (λ q. eqb q.0 tag) all) none in
    none-step (eqb p.1 next) p (find (λ q. eqb q.1 next) all) tag both.0 (none-among all tag next both.1)

pair-none : (tag next : ℕ) → is_length_tag tag ≡ false → is_data_field_pair tag next ≡ false
pair-none tag next none = none-among data_field_pairs tag next none

module _ (body : List ℕ) where
  as-before : Option Field → Option TagValue
  as-before before = option_map (tag_value_of body) before

  -- a value has its form after a field exactly where it has it after that field as one that counts
  form-by : (b : Bool) (before : Field) (tag : ℕ) (value : List ℕ) → is_length_tag before.tag ≡ b
      → HasForm (option_map (tag_value_of body) (cond b (Some before) None)) tag value → HasForm (Some (tag_value_of body before)) tag value
  form-by true before tag value is form = form
  form-by false before tag value is form =
      subst (λ (t : Bool). MatchBool t (length_form (tag_value_of body before).value ≡ Some (length value)) (IsDelimited value)) (sym (pair-none before.tag tag is)) form

  form-of : (b : Bool) (before : Field) (tag : ℕ) (value : List ℕ) → is_length_tag before.tag ≡ b
      → HasForm (Some (tag_value_of body before)) tag value → HasForm (option_map (tag_value_of body) (cond b (Some before) None)) tag value
  form-of true before tag value is form = form
  form-of false before tag value is form =
      subst (λ (t : Bool). MatchBool t (length_form (tag_value_of body before).value ≡ Some (length value)) (IsDelimited value)) (pair-none before.tag tag is) form

  form-behind : (before : Option Field) (tag : ℕ) (value : List ℕ) → HasForm (option_map (tag_value_of body) (counter_of before)) tag value → HasForm (option_map (tag_value_of body) before) tag value
  form-behind None tag value form = form
  form-behind (Some before) tag value form = form-by (is_length_tag before.tag) before tag value refl form

  form-counted : (before : Option Field) (tag : ℕ) (value : List ℕ) → HasForm (option_map (tag_value_of body) before) tag value → HasForm (option_map (tag_value_of body) (counter_of before)) tag value
  form-counted None tag value form = form
  form-counted (Some before) tag value form = form-of (is_length_tag before.tag) before tag value refl form

  -- so a field begins after the one exactly where it begins after the other
  pub begins-behind : (before counter : Option Field) (at : ℕ) (field : Field) → counter ≡ counter_of before
      → IsFieldAt body at (option_map (tag_value_of body) counter) field → IsFieldAt body at (option_map (tag_value_of body) before) field
  begins-behind before counter at field is begins =
      let form = begins.form in
      let value : HasForm (option_map (tag_value_of body) (counter_of before)) field.tag (tag_value_of body field).value =
      subst (λ (o : Option Field). HasForm (option_map (tag_value_of body) o) field.tag (tag_value_of body field).value) is form.value_form in
      record {
        bytes = begins.bytes;
        form = record { tag_form = form.tag_form; value_form = form-behind before field.tag (tag_value_of body field).value value };
        range = begins.range;
        within = begins.within;
      }

  pub none-behind : (before counter : Option Field) (bytes : List ℕ) → counter ≡ counter_of before → NoField (option_map (tag_value_of body) counter) bytes → NoField (option_map (tag_value_of body) before) bytes
  none-behind before counter bytes is none field more form here =
      let value : HasForm (option_map (tag_value_of body) counter) field.tag field.value =
      subst (λ (o : Option Field). HasForm (option_map (tag_value_of body) o) field.tag field.value) (sym is) (form-counted before field.tag field.value form.value_form) in
      none field more (record { tag_form = form.tag_form; value_form = value }) here

-- a counter is the field before
counter-is : (b : Bool) (before x : Field) → cond b (Some before) None ≡ Some x → before ≡ x
counter-is true before x is = (cc)
counter-is false before x is = (cc)

pub counter-holds : (P : Field → Type 0) (before counter : Option Field) → counter ≡ counter_of before → ForSome before P → ForSome counter P
counter-holds P None counter is holds x some = absurd (cc (is, some))
counter-holds P (Some before) counter is holds x some = holds x (ap (λ (f : Field). Some f) (counter-is (is_length_tag before.tag) before x (sym is ∙ some)))

-- the fields up to byte `at` have been handed on, and the counter is the last of them, where it may count the next one
pub record Hands (has_taken : List Field → Type 0) (body : List ℕ) (counter : Option Field) (at : ℕ) : Type 0 where
  pub fields : List Field
  pub before : Option Field
  pub read : HasRead body fields before at
  pub counts : counter ≡ counter_of before
  pub taken : has_taken fields

pub hands-none : (has_taken : List Field → Type 0) (body : List ℕ) → has_taken [] → Hands has_taken body None 0
hands-none has_taken body taken = record { fields = []; before = None; read = HasRead-none body; counts = refl; taken = taken }

pub hands-more : (old new : List Field → Type 0) (body : List ℕ) (counter next : Option Field) (at : ℕ) (field : Field) → Hands old body counter at
    → IsFieldAt body at (option_map (tag_value_of body) counter) field → ((fields : List Field) → old fields → new (fields ++ field ∷ [])) → next ≡ counter_of (Some field)
    → Hands new body next (field.to + 1)
hands-more old new body counter next at field h begins takes is = record {
  fields = h.fields ++ field ∷ [];
  before = Some field;
  read = HasRead-more body h.fields h.before at field h.read (begins-behind body h.before counter at field h.counts begins);
  counts = is;
  taken = takes h.fields h.taken;
}

-- the first field is the message type exactly where the tag at the front is
pub begins-tag : (body : List ℕ) (tag size : ℕ) → IsTag tag → body ≡ decimal tag ++ 61 ∷ drop size body → (fields : List TagValue) → body ≡ bytes_of fields → AreFields None fields
    → eqb tag 35 ≡ begins_with_type fields
begins-tag body tag size is front [] bytes forms =
    let sizes : 0 ≡ length (decimal tag) + length (61 ∷ drop size body) =
    ap length (sym bytes ∙ front) ∙ length-append (decimal tag) (61 ∷ drop size body) in
    absurd (omega (arith, sizes))
begins-tag body tag size is front (f ∷ fs) bytes forms =
    let whole = sym front ∙ bytes ∙ field_bytes-append f (bytes_of fs) in
    let same = same_tag tag f.tag (drop size body) (f.value ++ 1 ∷ bytes_of fs) is forms.0.tag_form whole in
    ap (λ (t : ℕ). eqb t 35) same.0

pub begins-none : (body : List ℕ) → ((tag : ℕ) (more : List ℕ) → IsTag tag → body ≢ decimal tag ++ 61 ∷ more) → (fields : List TagValue) → body ≡ bytes_of fields → AreFields None fields
    → false ≡ begins_with_type fields
begins-none body none [] bytes forms = refl
begins-none body none (f ∷ fs) bytes forms =
    absurd (none f.tag (f.value ++ 1 ∷ bytes_of fs) forms.0.tag_form (bytes ∙ field_bytes-append f (bytes_of fs)))

-- all fields have been handed on
pub hands-all : (has_taken : List Field → Type 0) (body : List ℕ) (counter : Option Field) (at : ℕ) → Hands has_taken body counter at → length body ≤ at
    → ((fields : List TagValue) → body ≡ bytes_of fields → AreFields None fields → true ≡ begins_with_type fields) → HandsFields has_taken body
hands-all has_taken body counter at h end typed =
    let bytes = whole body h.fields h.before at h.read end in
    let forms = h.read.forms in
    record {
      fields = h.fields;
      are = record {
        read = record { bytes = bytes; forms = forms; typed = sym (typed (tag_values_of body h.fields) bytes forms) };
        ranges = h.read.ranges;
      };
      taken = h.taken;
    }

-- where the first of them is not the message type
pub hands-untyped : (has_taken : List Field → Type 0) (body : List ℕ) (counter : Option Field) (at : ℕ) → Hands has_taken body counter at → length body ≤ at
    → ((fields : List TagValue) → body ≡ bytes_of fields → AreFields None fields → false ≡ begins_with_type fields) → LacksType body
hands-untyped has_taken body counter at h end untyped =
    let bytes = whole body h.fields h.before at h.read end in
    let forms = h.read.forms in
    record { fields = tag_values_of body h.fields; bytes = bytes; forms = forms; untyped = sym (untyped (tag_values_of body h.fields) bytes forms) }

-- where no field can be read after them
pub hands-stuck : (has_taken : List Field → Type 0) (body : List ℕ) (counter : Option Field) (at : ℕ) → Hands has_taken body counter at → at < length body
    → NoField (option_map (tag_value_of body) counter) (drop at body) → IsUnreadable body at
hands-stuck has_taken body counter at h low none = record {
  front = tag_values_of body h.fields;
  left = drop at body;
  bytes = h.read.bytes;
  place = h.read.place;
  forms = h.read.forms;
  nonempty = omega (arith, length-drop at body, low);
  no_field = subst (λ (o : Option TagValue). NoField o (drop at body)) h.read.last (none-behind body h.before counter (drop at body) h.counts none);
}
