-- What one reader reads of many lines: for each unquoted line, what would be read of it alone.
use Rattle.std.proofs.Common.{◌≡◌, ◌⊎◌, ℕ, Bool, true, false, not, ◌==◌, ◌&&◌, List, [], ◌∷◌, ◌++◌, ◌-◌, length, take, drop, refl, sym, ap, subst, ◌∙◌, inl, inr, Some, None, Option, append_assoc, arith}
use Rattle.std.specs.List.{list_all, ends_with}
use Rattle.std.specs.Prelude.{if◌then◌else◌}
use Rattle.std.proofs.lemmas.Bool.{cases_Bool, and_from, and_parts, not-true, eqb-true, ne_eqb}
use Rattle.std.proofs.lemmas.List.{take-append-drop}
use Rattle.std.proofs.lemmas.List.Folds.{list_all-append}
use Rattle.audit_base.specs.Names.{is_name_byte}
use Rattle.csv.specs.Machine.{Read, next_record, after_end}
use Rattle.csv.specs.Reading.{default_config, has_failed, is_flexible, names_headers, pending_of, reader_config, reader_headers, reader_state, reader_trim, source_of, strip_bom, took_first, NextIs, ReadRecord, ReadsNext}
use Rattle.csv.specs.declared.parser.Config.{Config}
use Rattle.csv.specs.declared.reader.Reader.{Reader}
use Rattle.csv.specs.declared.reader.Trim.TheVariants as trim
use Rattle.csv.specs.declared.parser.State.{State}
use Rattle.csv.specs.declared.parser.State.TheVariants as st
use Rattle.csv.specs.declared.parser.Terminator.TheVariants as term
use Rattle.csv_logs.specs.Columns.{line_fields}
use Rattle.csv_logs.specs.Lines.{without_cr}
use Rattle.csv_logs.specs.Columns.{is_printable, is_unquoted_byte}
use Rattle.csv_logs.specs.Readers.{IsReading}
use Rattle.csv_logs.specs.Readers.{is_closed}
use Rattle.csv_logs.proofs.ClosedLemmas.{IsEnd, closed-alone, closed-printable, in-closed}
use Rattle.csv_logs.proofs.UnquotedLemmas.{unquoted-low, unquoted-bom, printable-bom, printable-bom_before}
use Rattle.csv_logs.proofs.FieldLemmas.{bytes-same}

-- a text, cut at its commas
abbrev cut_fields : List (List ℕ) → List ℕ → List ℕ → List (List ℕ)
cut_fields fields field [] = fields ++ field ∷ []
cut_fields fields field (byte ∷ rest) = if byte == 44 then cut_fields (fields ++ field ∷ []) [] rest else cut_fields fields (field ++ byte ∷ []) rest

-- what a unquoted byte is not
unquoted-byte : (byte : ℕ) → is_unquoted_byte byte ≡ true → ((byte == 34) ≡ false) × ((byte == 13) ≡ false) × ((byte == 10) ≡ false)
unquoted-byte byte unquoted =
    let low = unquoted-low byte unquoted in
    (not-true (byte == 34) (and_parts _ _ unquoted).1, ne_eqb byte 13 (λ e. omega (arith, e, low)), ne_eqb byte 10 (λ e. omega (arith, e, low)))

-- a unquoted text within a field, and from the start of one
in-field : (fields : List (List ℕ)) (field text : List ℕ) (end : ℕ) (tail : List ℕ) → IsEnd end → list_all is_unquoted_byte text ≡ true
    → (next_record default_config st.InField fields field (text ++ end ∷ tail) ≡ Some (cut_fields fields field text, after_end term.CRLF end, tail))
    × (next_record default_config st.StartField fields field (text ++ end ∷ tail) ≡ Some (cut_fields fields field text, after_end term.CRLF end, tail))
unfolding next_record
in-field fields field [] end tail (inl lf) unquoted = rw lf (refl, refl)
in-field fields field [] end tail (inr cr) unquoted = rw cr (refl, refl)
in-field fields field (byte ∷ rest) end tail is unquoted =
    let p = and_parts (is_unquoted_byte byte) (list_all is_unquoted_byte rest) unquoted in
    let q = unquoted-byte byte p.0 in
    elim (cases_Bool (byte == 44)) [
      | inl comma ↦
          let more = in-field (fields ++ field ∷ []) [] rest end tail is p.1 in
          rw (q.0, comma) (more.1, more.1)
      | inr other ↦
          let more = in-field fields (field ++ byte ∷ []) rest end tail is p.1 in
          rw (q.0, q.1, q.2, other) (more.0, more.0)
    ]

-- a unquoted line that is not empty
in-line : (byte : ℕ) (rest : List ℕ) (end : ℕ) (tail : List ℕ) → IsEnd end → list_all is_unquoted_byte (byte ∷ rest) ≡ true
    → next_record default_config st.StartRecord [] [] ((byte ∷ rest) ++ end ∷ tail) ≡ Some (cut_fields [] [] (byte ∷ rest), after_end term.CRLF end, tail)
unfolding next_record
in-line byte rest end tail is unquoted =
    let p = and_parts (is_unquoted_byte byte) (list_all is_unquoted_byte rest) unquoted in
    let q = unquoted-byte byte p.0 in
    elim (cases_Bool (byte == 44)) [
      | inl comma ↦ let more = in-field ([] ++ [] ∷ []) [] rest end tail is p.1 in rw (q.0, q.1, q.2, comma) more.1
      | inr other ↦ let more = in-field [] ([] ++ byte ∷ []) rest end tail is p.1 in rw (q.0, q.1, q.2, other) more.0
    ]

alone : (byte : ℕ) (rest : List ℕ) → list_all is_unquoted_byte (byte ∷ rest) ≡ true → line_fields (byte ∷ rest) ≡ cut_fields [] [] (byte ∷ rest)
unfolding line_fields
alone byte rest unquoted = rw (unquoted-bom (byte ∷ rest) [] unquoted, in-line byte rest 10 [] (inl refl) unquoted) refl

-- the fields of an unquoted text hold bytes of names: its bytes but the commas
name-byte : (byte : ℕ) → is_unquoted_byte byte ≡ true → (byte == 44) ≡ false → is_name_byte byte ≡ true
name-byte byte unquoted other = and_from (is_unquoted_byte byte) (not (byte == 44)) unquoted (ap not other)

pushed-all : {X : Type 0} (p : X → Bool) (xs : List X) (x : X) → list_all p xs ≡ true → p x ≡ true → list_all p (xs ++ x ∷ []) ≡ true
pushed-all p xs x all one = list_all-append p xs (x ∷ []) ∙ and_from (list_all p xs) (p x && true) all (and_from (p x) true one refl)

cut-names : (fields : List (List ℕ)) (field text : List ℕ) → list_all (list_all is_name_byte) fields ≡ true → list_all is_name_byte field ≡ true → list_all is_unquoted_byte text ≡ true
    → list_all (list_all is_name_byte) (cut_fields fields field text) ≡ true
cut-names fields field [] before here unquoted = pushed-all (list_all is_name_byte) fields field before here
cut-names fields field (byte ∷ rest) before here unquoted =
    let p = and_parts (is_unquoted_byte byte) (list_all is_unquoted_byte rest) unquoted in
    elim (cases_Bool (byte == 44)) [
      | inl comma ↦ rw comma (cut-names (fields ++ field ∷ []) [] rest (pushed-all (list_all is_name_byte) fields field before here) refl p.1)
      | inr other ↦ rw other (cut-names fields (field ++ byte ∷ []) rest before (pushed-all is_name_byte field byte here (name-byte byte p.0 other)) p.1)
    ]

pub line-names : (line : List ℕ) → list_all is_unquoted_byte line ≡ true → (length line == 0) ≡ false → list_all (list_all is_name_byte) (line_fields line) ≡ true
line-names [] unquoted full = absurd (cc full)
line-names (byte ∷ rest) unquoted full = ap (list_all (list_all is_name_byte)) (alone byte rest unquoted) ∙ cut-names [] [] (byte ∷ rest) refl refl unquoted

-- a line is its text, or its text and a CR
cr-cases : (line : List ℕ) → (line ≡ without_cr line) ⊎ (line ≡ without_cr line ++ 13 ∷ [])
cr-cases line = elim (cases_Bool (ends_with ◌==◌ line (13 ∷ []))) [
  | inl cr ↦
      let last = bytes-same (13 ∷ []) (drop (length line - 1) line) cr in
      inr (rw cr (sym (take-append-drop (length line - 1) line) ∙ ap (λ (t : List ℕ). take (length line - 1) line ++ t) (sym last)))
  | inr none ↦ inl (rw none refl)
]

-- What a reader gives at a line: the line's fields, and then it is at the next line.
pub record GivesLine (line later : List ℕ) (fields : List (List ℕ)) : Type 0 where
  pub state : State
  pub rest : List ℕ
  pub gives : next_record default_config st.StartRecord [] [] (line ++ 10 ∷ later) ≡ Some (fields, state, rest)
  pub next : next_record default_config state [] [] rest ≡ next_record default_config st.StartRecord [] [] later

gives-text : (line text later : List ℕ) → (line ≡ text) ⊎ (line ≡ text ++ 13 ∷ []) → is_closed text ≡ true → (length text == 0) ≡ false → GivesLine line later (line_fields text)
unfolding next_record
gives-text line [] later is closed full = absurd (cc full)
gives-text line (byte ∷ rest) later (inl same) closed full = record {
  state = st.StartRecord;
  rest = later;
  gives = rw (same, closed-alone byte rest closed) (in-closed byte rest 10 later (inl refl) closed);
  next = refl;
}
gives-text line (byte ∷ rest) later (inr cr) closed full = record {
  state = st.AfterCr;
  rest = 10 ∷ later;
  gives = rw (cr, closed-alone byte rest closed) (ap (next_record default_config st.StartRecord [] []) (append_assoc (byte ∷ rest) (13 ∷ []) (10 ∷ later)) ∙ in-closed byte rest 13 (10 ∷ later) (inr refl) closed);
  next = refl;
}

pub gives-line : (line later : List ℕ) → is_closed (without_cr line) ≡ true → (length (without_cr line) == 0) ≡ false → GivesLine line later (line_fields (without_cr line))
gives-line line later closed full = gives-text line (without_cr line) later (cr-cases line) closed full

-- `csv` passes over an empty line
passes-text : (line text later : List ℕ) → (line ≡ text) ⊎ (line ≡ text ++ 13 ∷ []) → (length text == 0) ≡ true
    → next_record default_config st.StartRecord [] [] (line ++ 10 ∷ later) ≡ next_record default_config st.StartRecord [] [] later
unfolding next_record
passes-text line [] later (inl same) empty = rw same refl
passes-text line [] later (inr cr) empty = rw cr refl
passes-text line (byte ∷ rest) later is empty = absurd (omega (arith, eqb-true (length (byte ∷ rest)) 0 empty))

pub passes-line : {R : Type 0} (remaining : R → Option (List ℕ)) (reader : Reader R) (line later : List ℕ) → (length (without_cr line) == 0) ≡ true
    → IsReading remaining reader (line ++ 10 ∷ later) → IsReading remaining reader later
passes-line remaining reader line later empty is = record {
  setup = is.setup;
  source = is.source;
  known = is.known;
  next = is.next ∙ passes-text line (without_cr line) later (cr-cases line) empty;
}

read-parts : (config : Config) (state : State) (known pending : Option (List ℕ)) (source : List ℕ) (found fields : List (List ℕ)) (after next : State) (rest : List ℕ)
    → known ≡ Some source → next_record config state [] [] source ≡ Some (fields, next, rest) → ReadsNext config state known pending true found after
    → (found ≡ fields) × (after ≡ next) × (pending ≡ Some rest)
read-parts config state None pending source found fields after next rest is gives reads = absurd (cc is)
read-parts config state (Some xs) None source found fields after next rest is gives reads = absurd reads
read-parts config state (Some xs) (Some ys) source found fields after next rest is gives reads =
    let same : xs ≡ source = cc is in
    let parts = subst (λ (r : Option Read). NextIs r true found after ys) (ap (next_record config state [] []) same ∙ gives) reads in
    (parts.1, parts.2, ap (λ (t : List ℕ). Some t) parts.3)

-- a reader that read a line reads on at the next
pub reads-line : {R : Type 0} (remaining : R → Option (List ℕ)) (old new : Reader R) (line later : List ℕ) (fields found : List (List ℕ)) → GivesLine line later fields
    → IsReading remaining old (line ++ 10 ∷ later) → ReadRecord remaining old new true found → took_first new ≡ true → has_failed new ≡ has_failed old → is_flexible new ≡ is_flexible old
    → (found ≡ fields) × IsReading remaining new later
reads-line remaining old new line later fields found gives is reads first goes long =
    let p = read-parts default_config (reader_state old) (source_of remaining old) (pending_of (remaining new.rdr) new) is.source found fields (reader_state new) gives.state gives.rest
    is.known (is.next ∙ gives.gives) (subst (λ (c : Config). ReadsNext c (reader_state old) (source_of remaining old) (pending_of (remaining new.rdr) new) true found (reader_state new)) is.setup.config reads.0) in
    let sound : has_failed new ≡ false = goes ∙ is.setup.sound in
    let source : source_of remaining new ≡ pending_of (remaining new.rdr) new = rw (reads.1) refl in (
      p.0,
      record {
        setup = record { config = reads.2 ∙ is.setup.config; trim = reads.3 ∙ is.setup.trim; any_length = long ∙ is.setup.any_length; ready = inl first; sound = sound };
        source = gives.rest;
        known = source ∙ p.2;
        next = ap (λ (s : State). next_record default_config s [] [] gives.rest) p.1 ∙ gives.next;
      },
    )

-- a text whose first line is printable has no mark
no-bom : (line text later : List ℕ) → (line ≡ text) ⊎ (line ≡ text ++ 13 ∷ []) → list_all is_printable text ≡ true → strip_bom (line ++ 10 ∷ later) ≡ line ++ 10 ∷ later
no-bom line text later (inl same) printable = rw same (printable-bom text later printable)
no-bom line text later (inr cr) printable = rw (cr, append_assoc text (13 ∷ []) (10 ∷ later)) (printable-bom_before text 13 (10 ∷ later) printable refl)

pub line-bom : (text line later : List ℕ) → text ≡ line ++ 10 ∷ later → is_closed (without_cr line) ≡ true → strip_bom text ≡ text
line-bom text line later is closed = rw is (no-bom line (without_cr line) later (cr-cases line) (closed-printable (without_cr line) closed))

-- a new reader is at the start of its text
pub new-reading : {R : Type 0} (remaining : R → Option (List ℕ)) (reader : Reader R) (text : List ℕ) → reader_config reader ≡ default_config → reader_trim reader ≡ trim.None → is_flexible reader ≡ true
    → names_headers reader ≡ false → reader_headers reader ≡ None → has_failed reader ≡ false → reader_state reader ≡ st.StartRecord → source_of remaining reader ≡ Some (strip_bom text)
    → strip_bom text ≡ text → IsReading remaining reader text
new-reading remaining reader text config trims long names headers sound state source same = record {
  setup = record { config = config; trim = trims; any_length = long; ready = inr (inr (names, headers)); sound = sound };
  source = text;
  known = source ∙ ap (λ (t : List ℕ). Some t) same;
  next = ap (λ (s : State). next_record default_config s [] [] text) state;
}
