-- Values and fields that are written: each value is 1 to 64 bytes of those that a name may hold.
use denote.Ref.{Bor}
use Rattle.std.proofs.Common.{map, get_or, ◌≡◌, ◌≢◌, ℕ, zero, suc, ◌*◌, ◌≤◌, ◌<◌, true, false, not, ◌&&◌, ◌==◌, Option, Some, List, [], ◌∷◌, ◌++◌, length, sym, ap, ◌∙◌, arith}
use Rattle.std.specs.Prelude.{nat_le, nat_lt}
use Rattle.std.specs.List.{All, list_all}
use Rattle.std.proofs.lemmas.Bool.{and_parts, leb-true}
use Rattle.std.proofs.lemmas.Bool.Decides.{nat_tests}
use Rattle.std.proofs.lemmas.Fmt.{length-decimal-le}
use Rattle.std.proofs.lemmas.List.{append_assoc, length-append}
use Rattle.std.proofs.lemmas.List.Concat.{flat_map-append}
use Rattle.std.proofs.lemmas.List.Elements.{All-nil, All-cons}
use Rattle.audit_base.specs.Names.{is_name, is_name_byte}
use Rattle.fix_fields.specs.Grammar.{IsDelimited, IsTag, TagValue, bytes_of, field_bytes}
use Rattle.fix_fields.specs.Ordinary.{AreOrdinary, is_counted}
use Rattle.fix_fields.proofs.ReadingLemmas.{length-field_bytes}
use Rattle.fix_messages.specs.Steps.{are_short_fields, is_short_field, field_written as as_field}
use Rattle.fix_messages.specs.Written.{field}

not-soh : (byte : ℕ) → is_name_byte byte ≡ true → byte ≢ 1
not-soh byte is e =
    let p = and_parts (nat_le 32 byte && nat_le byte 126 && not (byte == 34)) (not (byte == 44)) is in
    let q = and_parts (nat_le 32 byte && nat_le byte 126) (not (byte == 34)) p.0 in
    let r = and_parts (nat_le 32 byte) (nat_le byte 126) q.0 in
    let low : 32 ≤ byte = leb-true 32 byte r.0 in
    omega (arith, low, e)

no-soh : (value : List ℕ) → list_all is_name_byte value ≡ true → All (λ b. b ≢ 1) value
no-soh [] is = All-nil (λ b. b ≢ 1)
no-soh (byte ∷ rest) is =
    let p = and_parts (is_name_byte byte) (list_all is_name_byte rest) is in
    All-cons (λ b. b ≢ 1) byte rest (not-soh byte p.0) (no-soh rest p.1)

record IsShort (value : List ℕ) : Type 0 where
  some : 1 ≤ length value
  most : length value ≤ 64
  unquoted : list_all is_name_byte value ≡ true

short-name : (value : List ℕ) → is_name value ≡ true → IsShort value
short-name value is =
    let p = and_parts (nat_le 1 (length value) && nat_le (length value) 64) (list_all is_name_byte value) is in
    let q = and_parts (nat_le 1 (length value)) (nat_le (length value) 64) p.0 in
    record { some = leb-true 1 (length value) q.0; most = leb-true (length value) 64 q.1; unquoted = p.1 }

-- a value in the form of a name is ended by the next SOH
pub name_delimited : (value : List ℕ) → is_name value ≡ true → IsDelimited value
name_delimited value is =
    let s = short-name value is in record { nonempty = omega (arith, s.some); no_end = no-soh value s.unquoted }

-- a field whose value is in the form of a name, and that the field before it does not count
pub record IsWritten (before : Option TagValue) (written : TagValue) : Type 0 where
  pub tag_low : 0 < written.tag
  pub tag_high : written.tag < 1000
  pub value_form : is_name written.value ≡ true
  pub uncounted : is_counted before written.tag ≡ false

abbrev pub AreWritten : Option TagValue → List TagValue → Type 0
AreWritten before [] = Unit {0}
AreWritten before (written ∷ fields) = IsWritten before written × AreWritten (Some written) fields

pub written : (before : Option TagValue) (tag : ℕ) (value : List ℕ) → (nat_lt 0 tag && nat_lt tag 1000) ≡ true → is_name value ≡ true → is_counted before tag ≡ false
    → IsWritten before (field tag value)
written before tag value small form uncounted =
    let p = and_parts (nat_lt 0 tag) (nat_lt tag 1000) small in
    record { tag_low = (grind (arith, nat_tests, p.0)); tag_high = (grind (arith, nat_tests, p.1)); value_form = form; uncounted = uncounted }

-- such fields are read as they were written
pub written-ordinary : (before : Option TagValue) (fields : List TagValue) → AreWritten before fields → AreOrdinary before fields
written-ordinary before [] are = tt
written-ordinary before (f ∷ fields) are = (
  record { tag_form = record { low = are.0.tag_low; high = omega (arith, are.0.tag_high) }; delimited = name_delimited f.value are.0.value_form; uncounted = are.0.uncounted },
  written-ordinary (Some f) fields are.1,
)

-- and they are not long
pub length-written : (before : Option TagValue) (fields : List TagValue) → AreWritten before fields → length (bytes_of fields) ≤ 69 * length fields
length-written before [] are = omega arith
length-written before (f ∷ fields) are =
    let s = short-name f.value are.0.value_form in
    let tag = length-decimal-le 3 f.tag (omega arith) (omega (arith, are.0.tag_high)) (omega (arith, are.0.tag_high)) in
    let one = length-field_bytes f in
    let both = length-append (field_bytes f) (bytes_of fields) in
    let rest = length-written (Some f) fields are.1 in
    omega (arith, s.most, tag, one, both, rest)

-- One of the fields that are written.
short-at : (fields : List (ℕ × Bor (List ℕ))) (i : ℕ) (d : ℕ × Bor (List ℕ)) → are_short_fields (map as_field fields) ≡ true → i < length fields → is_short_field (as_field (get_or fields i d)) ≡ true
short-at [] i d are below = absurd (omega (arith, below))
short-at (row ∷ rows) zero d are below = (and_parts (is_short_field (as_field row)) (are_short_fields (map as_field rows)) are).0
short-at (row ∷ rows) (suc i) d are below = short-at rows i d (and_parts (is_short_field (as_field row)) (are_short_fields (map as_field rows)) are).1 (omega (arith, below))

pub short-parts : (fields : List (ℕ × Bor (List ℕ))) (i : ℕ) (d : ℕ × Bor (List ℕ)) → are_short_fields (map as_field fields) ≡ true → i < length fields
    → IsTag (get_or fields i d).0 × IsDelimited (get_or fields i d).1.now
short-parts fields i d are below =
    let row : ℕ × Bor (List ℕ) = get_or fields i d in
    let p = and_parts (nat_lt 0 row.0 && nat_lt row.0 1000) (is_name row.1.now) (short-at fields i d are below) in
    let q = and_parts (nat_lt 0 row.0) (nat_lt row.0 1000) p.0 in
    (record { low = (grind (arith, nat_tests, q.0)); high = (grind (arith, nat_tests, q.1)) }, name_delimited row.1.now p.1)

-- Fields after fields.
pub appends : (old middle new : List ℕ) (xs ys : List TagValue) → middle ≡ old ++ bytes_of xs → new ≡ middle ++ bytes_of ys → new ≡ old ++ bytes_of (xs ++ ys)
appends old middle new xs ys first second =
    second ∙ ap (λ (t : List ℕ). t ++ bytes_of ys) first ∙ append_assoc old (bytes_of xs) (bytes_of ys)
    ∙ ap (λ (t : List ℕ). old ++ t) (sym (flat_map-append field_bytes xs ys))
