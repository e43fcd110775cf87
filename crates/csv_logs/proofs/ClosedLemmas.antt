-- Lines whose quotes close before their end: what `csv` reads of them does not depend on what follows.
use Rattle.std.proofs.Common.{◌≡◌, ◌⊎◌, ℕ, Bool, true, false, not, ◌==◌, ◌≤◌, List, [], ◌∷◌, ◌++◌, get_or, length, take, ◌+◌, ◌<◌, zero, suc, refl, ap, ◌∙◌, inl, inr, Some, arith}
use Rattle.std.specs.List.{list_all}
use Rattle.std.specs.Prelude.{count_by, ◌%◌}
use Rattle.std.proofs.lemmas.Bool.{cases_Bool, and_from, and_parts, or_parts, not-true, leb-true, ne_eqb}
use Rattle.csv.specs.Machine.{next_record, after_end, step, is_end, fields_after, field_after}
use Rattle.csv.specs.Reading.{default_config}
use Rattle.csv.specs.declared.parser.State.{State}
use Rattle.csv.specs.declared.parser.State.TheVariants as st
use Rattle.csv.specs.declared.parser.Terminator.TheVariants as term
use Rattle.csv_logs.specs.Columns.{has_bad_byte_or_open_quote, is_printable, is_quote, is_unquoted_byte, line_fields}
use Rattle.csv_logs.specs.Readers.{is_closed, is_quoted, state_after_bytes}
use Rattle.csv_logs.proofs.UnquotedLemmas.{printable-bom, unquoted-unbroken}

-- the bytes that may end a line
abbrev pub IsEnd : ℕ → Type 0
IsEnd byte = (byte ≡ 10) ⊎ (byte ≡ 13)

pub closed-unbroken : (line : List ℕ) → is_closed line ≡ true → has_bad_byte_or_open_quote line ≡ false
closed-unbroken line closed = not-true (has_bad_byte_or_open_quote line) (and_parts (not (has_bad_byte_or_open_quote line)) (not (is_quoted (state_after_bytes st.StartField line))) closed).0

closed-outside : (line : List ℕ) → is_closed line ≡ true → is_quoted (state_after_bytes st.StartField line) ≡ false
closed-outside line closed = not-true (is_quoted (state_after_bytes st.StartField line)) (and_parts (not (has_bad_byte_or_open_quote line)) (not (is_quoted (state_after_bytes st.StartField line))) closed).1

not-not : (b : Bool) → not b ≡ false → b ≡ true
not-not true e = refl
not-not false e = absurd (cc e)

pub unbroken-printable : (line : List ℕ) → has_bad_byte_or_open_quote line ≡ false → list_all is_printable line ≡ true
unbroken-printable line unbroken = not-not (list_all is_printable line) (or_parts (not (list_all is_printable line)) (count_by is_quote line % 2 == 1) unbroken).0

pub closed-printable : (line : List ℕ) → is_closed line ≡ true → list_all is_printable line ≡ true
closed-printable line closed = unbroken-printable line (closed-unbroken line closed)

-- a printable byte ends no line
no-end : (byte : ℕ) → is_printable byte ≡ true → ((byte == 13) ≡ false) × ((byte == 10) ≡ false)
no-end byte printable =
    let low : 32 ≤ byte = leb-true 32 byte (and_parts _ _ printable).0 in
    (ne_eqb byte 13 (λ e. omega (arith, e, low)), ne_eqb byte 10 (λ e. omega (arith, e, low)))

-- the states within a line
abbrev is_within : State → Bool
is_within st.StartRecord = false
is_within st.StartField = true
is_within st.InField = true
is_within st.InQuoted = true
is_within st.AfterQuote = true
is_within st.InEscape = false
is_within st.InComment = false
is_within st.AfterCr = false

-- a byte of a line leaves a reader within the line
step-within : (s : State) (byte : ℕ) → is_within s ≡ true → is_printable byte ≡ true → (is_end (step default_config s byte).1 ≡ false) × (is_within (step default_config s byte).0 ≡ true)
step-within st.StartRecord byte w printable = absurd (cc w)
step-within st.StartField byte w printable =
    let e = no-end byte printable in
    elim (cases_Bool (byte == 34)) [
      | inl quote ↦ rw quote (refl, refl)
      | inr other ↦ elim (cases_Bool (byte == 44)) [
        | inl comma ↦ rw (other, comma) (refl, refl)
        | inr field ↦ rw (other, field, e.0, e.1) (refl, refl)
      ]
    ]
step-within st.InField byte w printable =
    let e = no-end byte printable in
    elim (cases_Bool (byte == 44)) [
      | inl comma ↦ rw comma (refl, refl)
      | inr field ↦ rw (field, e.0, e.1) (refl, refl)
    ]
step-within st.InQuoted byte w printable = elim (cases_Bool (byte == 34)) [
  | inl quote ↦ rw quote (refl, refl)
  | inr other ↦ rw other (refl, refl)
]
step-within st.AfterQuote byte w printable =
    let e = no-end byte printable in
    elim (cases_Bool (byte == 34)) [
      | inl quote ↦ rw quote (refl, refl)
      | inr other ↦ elim (cases_Bool (byte == 44)) [
        | inl comma ↦ rw (other, comma) (refl, refl)
        | inr field ↦ rw (other, field, e.0, e.1) (refl, refl)
      ]
    ]
step-within st.InEscape byte w printable = absurd (cc w)
step-within st.InComment byte w printable = absurd (cc w)
step-within st.AfterCr byte w printable = absurd (cc w)

-- the fields of a line, from a state within it
abbrev fields_in : State → List (List ℕ) → List ℕ → List ℕ → List (List ℕ)
fields_in s fields field [] = fields ++ field ∷ []
fields_in s fields field (byte ∷ rest) =
    fields_in (step default_config s byte).0 (fields_after (step default_config s byte).1 fields field) (field_after (step default_config s byte).1 byte field) rest

-- where no quote is open the end of the line ends the record
at-end : (s : State) (fields : List (List ℕ)) (field : List ℕ) (end : ℕ) (tail : List ℕ) → IsEnd end → is_within s ≡ true → is_quoted s ≡ false
    → next_record default_config s fields field (end ∷ tail) ≡ Some (fields ++ field ∷ [], after_end term.CRLF end, tail)
unfolding next_record
at-end st.StartRecord fields field end tail is w q = absurd (cc w)
at-end st.StartField fields field end tail (inl lf) w q = rw lf refl
at-end st.StartField fields field end tail (inr cr) w q = rw cr refl
at-end st.InField fields field end tail (inl lf) w q = rw lf refl
at-end st.InField fields field end tail (inr cr) w q = rw cr refl
at-end st.InQuoted fields field end tail is w q = absurd (cc q)
at-end st.AfterQuote fields field end tail (inl lf) w q = rw lf refl
at-end st.AfterQuote fields field end tail (inr cr) w q = rw cr refl
at-end st.InEscape fields field end tail is w q = absurd (cc w)
at-end st.InComment fields field end tail is w q = absurd (cc w)
at-end st.AfterCr fields field end tail is w q = absurd (cc w)

in-state : (s : State) (fields : List (List ℕ)) (field text : List ℕ) (end : ℕ) (tail : List ℕ) → IsEnd end → list_all is_printable text ≡ true → is_within s ≡ true → is_quoted (state_after_bytes s text) ≡ false
    → next_record default_config s fields field (text ++ end ∷ tail) ≡ Some (fields_in s fields field text, after_end term.CRLF end, tail)
unfolding next_record state_after_bytes
in-state s fields field [] end tail is printable w q = at-end s fields field end tail is w q
in-state s fields field (byte ∷ rest) end tail is printable w q =
    let p = and_parts (is_printable byte) (list_all is_printable rest) printable in
    let one = step-within s byte w p.0 in
    rw one.0 (in-state (step default_config s byte).0 (fields_after (step default_config s byte).1 fields field) (field_after (step default_config s byte).1 byte field) rest end tail is p.1 one.1 q)

-- a record starts as a field does
first-same : (byte : ℕ) (rest : List ℕ) → is_printable byte ≡ true → next_record default_config st.StartRecord [] [] (byte ∷ rest) ≡ next_record default_config st.StartField [] [] (byte ∷ rest)
unfolding next_record
first-same byte rest printable = let e = no-end byte printable in rw (e.0, e.1) refl

-- a closed line that is not empty
pub in-closed : (byte : ℕ) (rest : List ℕ) (end : ℕ) (tail : List ℕ) → IsEnd end → is_closed (byte ∷ rest) ≡ true
    → next_record default_config st.StartRecord [] [] ((byte ∷ rest) ++ end ∷ tail) ≡ Some (fields_in st.StartField [] [] (byte ∷ rest), after_end term.CRLF end, tail)
in-closed byte rest end tail is closed =
    let printable = closed-printable (byte ∷ rest) closed in
    first-same byte (rest ++ end ∷ tail) (and_parts (is_printable byte) (list_all is_printable rest) printable).0
    ∙ in-state st.StartField [] [] (byte ∷ rest) end tail is printable refl (closed-outside (byte ∷ rest) closed)

pub closed-alone : (byte : ℕ) (rest : List ℕ) → is_closed (byte ∷ rest) ≡ true → line_fields (byte ∷ rest) ≡ fields_in st.StartField [] [] (byte ∷ rest)
unfolding line_fields
closed-alone byte rest closed = rw (printable-bom (byte ∷ rest) [] (closed-printable (byte ∷ rest) closed), in-closed byte rest 10 [] (inl refl) closed) refl

-- no quote opens on an unquoted line
abbrev is_plain : State → Bool
is_plain st.StartRecord = false
is_plain st.StartField = true
is_plain st.InField = true
is_plain st.InQuoted = false
is_plain st.AfterQuote = false
is_plain st.InEscape = false
is_plain st.InComment = false
is_plain st.AfterCr = false

plain-outside : (s : State) → is_plain s ≡ true → is_quoted s ≡ false
plain-outside st.StartRecord p = absurd (cc p)
plain-outside st.StartField p = refl
plain-outside st.InField p = refl
plain-outside st.InQuoted p = absurd (cc p)
plain-outside st.AfterQuote p = absurd (cc p)
plain-outside st.InEscape p = absurd (cc p)
plain-outside st.InComment p = absurd (cc p)
plain-outside st.AfterCr p = absurd (cc p)

step-plain : (s : State) (byte : ℕ) → is_plain s ≡ true → is_unquoted_byte byte ≡ true → is_plain (step default_config s byte).0 ≡ true
step-plain st.StartRecord byte p unquoted = absurd (cc p)
step-plain st.StartField byte p unquoted =
    let parts = and_parts (is_printable byte) (not (is_quote byte)) unquoted in
    let e = no-end byte parts.0 in
    let other = not-true (byte == 34) parts.1 in
    elim (cases_Bool (byte == 44)) [
      | inl comma ↦ rw (other, comma) refl
      | inr field ↦ rw (other, field, e.0, e.1) refl
    ]
step-plain st.InField byte p unquoted =
    let e = no-end byte (and_parts (is_printable byte) (not (is_quote byte)) unquoted).0 in
    elim (cases_Bool (byte == 44)) [
      | inl comma ↦ rw comma refl
      | inr field ↦ rw (field, e.0, e.1) refl
    ]
step-plain st.InQuoted byte p unquoted = absurd (cc p)
step-plain st.AfterQuote byte p unquoted = absurd (cc p)
step-plain st.InEscape byte p unquoted = absurd (cc p)
step-plain st.InComment byte p unquoted = absurd (cc p)
step-plain st.AfterCr byte p unquoted = absurd (cc p)

behind-plain : (s : State) (line : List ℕ) → is_plain s ≡ true → list_all is_unquoted_byte line ≡ true → is_quoted (state_after_bytes s line) ≡ false
unfolding state_after_bytes
behind-plain s [] p unquoted = plain-outside s p
behind-plain s (byte ∷ rest) p unquoted =
    let parts = and_parts (is_unquoted_byte byte) (list_all is_unquoted_byte rest) unquoted in
    behind-plain (step default_config s byte).0 rest (step-plain s byte p parts.0) parts.1

pub unquoted-closed : (line : List ℕ) → list_all is_unquoted_byte line ≡ true → is_closed line ≡ true
unquoted-closed line unquoted =
    and_from (not (has_bad_byte_or_open_quote line)) (not (is_quoted (state_after_bytes st.StartField line))) (ap not (unquoted-unbroken line unquoted)) (ap not (behind-plain st.StartField line refl unquoted))

-- one byte more
pub behind-more : (s : State) (line : List ℕ) (i : ℕ) → i < length line → state_after_bytes s (take (i + 1) line) ≡ (step default_config (state_after_bytes s (take i line)) (get_or line i 0)).0
unfolding state_after_bytes
behind-more s [] i h = absurd (omega (arith, h))
behind-more s (byte ∷ rest) zero h = refl
behind-more s (byte ∷ rest) (suc i) h =
    let more : suc i + 1 ≡ suc (i + 1) = omega arith in
    ap (λ (n : ℕ). state_after_bytes s (take n (byte ∷ rest))) more ∙ behind-more (step default_config s byte).0 rest i (omega (arith, h))

pub printable-at : (line : List ℕ) (i : ℕ) → i < length line → list_all is_printable line ≡ true → is_printable (get_or line i 0) ≡ true
printable-at [] i h all = absurd (omega (arith, h))
printable-at (byte ∷ rest) zero h all = (and_parts (is_printable byte) (list_all is_printable rest) all).0
printable-at (byte ∷ rest) (suc i) h all = printable-at rest i (omega (arith, h)) (and_parts (is_printable byte) (list_all is_printable rest) all).1
