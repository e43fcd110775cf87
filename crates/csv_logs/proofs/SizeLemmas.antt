-- A line that is a record has at least eight bytes, and each record of a log at least nine of its bytes: the last line may lack its LF, but the header has one.
use Rattle.std.proofs.Common.{◌≡◌, ℕ, Bool, true, false, ◌+◌, ◌-◌, ◌*◌, ◌==◌, ◌≤◌, List, [], ◌∷◌, ◌++◌, length, drop, refl, ap, inl, inr, Some, None, Ok, Err, Option, Result, arith, length-append}
use Rattle.std.specs.Prelude.{IfOk, filter, option_map, unwrap_or}
use Rattle.std.specs.List.{list_all, ends_with}
use Rattle.std.proofs.lemmas.Bool.{cases_Bool, eqb-true}
use Rattle.std.proofs.lemmas.List.{length-drop, length-take-le}
use Rattle.audit_base.specs.declared.faults.Reason.{Reason}
use Rattle.audit_base.specs.declared.faults.BadPlace.{BadPlace}
use Rattle.csv.specs.Machine.{Read, next_record, step, is_end, fields_after, field_after}
use Rattle.csv.specs.Reading.{default_config}
use Rattle.csv.specs.declared.parser.State.{State}
use Rattle.csv.specs.declared.parser.State.TheVariants as st
use Rattle.csv.specs.declared.parser.Action.{Action}
use Rattle.csv.specs.declared.parser.Action.TheVariants as act
use Rattle.log_source.specs.Collectors.{HasNineBytesEach, HasPlace}
use Rattle.log_source.specs.Sources.{longest_read}
use Rattle.csv_logs.specs.Columns.{has_bad_byte_or_open_quote, is_printable, line_fields}
use Rattle.csv_logs.specs.Feeds.{HasLogRecords, AreGoodLines}
use Rattle.csv_logs.specs.Lines.{Line, cut_lines, nonempty_lines, is_nonempty_line, join_first, mark_size, lines_with_offsets, without_cr}
use Rattle.csv_logs.specs.Logs.{meaning_of_fields, is_header, line_meaning, read_entries, read_lines, read_csv_log}
use Rattle.csv_logs.proofs.ClosedLemmas.{unbroken-printable}
use Rattle.csv_logs.proofs.LineLemmas.{extent}
use Rattle.csv_logs.proofs.LogLemmas.{after_line-ok, passed-header}
use Rattle.csv_logs.proofs.UnquotedLemmas.{printable-bom}

-- a byte ends no more than one field
action-fields : (action : Action) (fields : List (List ℕ)) (field : List ℕ) → length (fields_after action fields field) ≤ length fields + 1
action-fields act.EndField fields field = omega (arith, length-append fields (field ∷ []))
action-fields act.Skip fields field = omega arith
action-fields act.Copy fields field = omega arith
action-fields act.EndRecord fields field = omega (arith, length-append fields (field ∷ []))

row-size : (row : List (List ℕ)) (s : State) (rest : List ℕ) (read : Read) → Some (row, s, rest) ≡ Some read → length row ≡ length read.0
row-size row s rest read e = let same : (row, s, rest) ≡ read = cc e in ap (λ (r : Read). length r.0) same

last-fields : (fields : List (List ℕ)) (field : List ℕ) (s : State) (rest : List ℕ) (read : Read) → Some (fields ++ field ∷ [], s, rest) ≡ Some read → length read.0 ≤ length fields + 1
last-fields fields field s rest read e = omega (arith, row-size (fields ++ field ∷ []) s rest read e, length-append fields (field ∷ []))

-- nor does the LF after a line with the end of the text
end-fields : (s : State) (fields : List (List ℕ)) (field : List ℕ) (read : Read) → next_record default_config s fields field (10 ∷ []) ≡ Some read → length read.0 ≤ length fields + 1
unfolding next_record
end-fields st.StartRecord fields field read e = absurd (cc e)
end-fields st.StartField fields field read e = last-fields fields field _ _ read e
end-fields st.InField fields field read e = last-fields fields field _ _ read e
end-fields st.InQuoted fields field read e = last-fields fields (field ++ 10 ∷ []) _ _ read e
end-fields st.AfterQuote fields field read e = last-fields fields field _ _ read e
end-fields st.InEscape fields field read e = last-fields fields (field ++ 10 ∷ []) _ _ read e
end-fields st.InComment fields field read e = absurd (cc e)
end-fields st.AfterCr fields field read e = absurd (cc e)

text-fields : (s : State) (fields : List (List ℕ)) (field line : List ℕ) (read : Read) → next_record default_config s fields field (line ++ 10 ∷ []) ≡ Some read → length read.0 ≤ length fields + length line + 1
unfolding next_record
text-fields s fields field [] read e = omega (arith, end-fields s fields field read e)
text-fields s fields field (byte ∷ rest) read e =
    let action : Action = (step default_config s byte).1 in
    let one = action-fields action fields field in
    elim (cases_Bool (is_end action)) [
      | inl ends ↦ omega (arith, one, row-size (fields_after action fields field) (step default_config s byte).0 (rest ++ 10 ∷ []) read (rw ends at e))
      | inr goes ↦ omega (arith, one, text-fields (step default_config s byte).0 (fields_after action fields field) (field_after action byte field) rest read (rw goes at e))
    ]

found-fields : (found : Option Read) (most : ℕ) → ((read : Read) → found ≡ Some read → length read.0 ≤ most) → length (unwrap_or (option_map (λ read. read.0) found) []) ≤ most
found-fields None most all = omega arith
found-fields (Some read) most all = all read refl

-- a line has no more fields than bytes and one
line-fields : (line : List ℕ) → list_all is_printable line ≡ true → length (line_fields line) ≤ length line + 1
unfolding line_fields
line-fields line printable =
    rw (printable-bom line [] printable)
    (found-fields (next_record default_config st.StartRecord [] [] (line ++ 10 ∷ [])) (length line + 1) (λ read e. omega (arith, text-fields st.StartRecord [] [] line read e)))

-- How many bytes lines have.

-- the bytes of these lines, each with one for its end
abbrev pub text_extent : List Line → ℕ
text_extent [] = 0
text_extent (line ∷ lines) = length line.text + 1 + text_extent lines

join-extent : (byte : ℕ) (lines : List (List ℕ)) (size : ℕ) → extent lines ≤ size + 1 → extent (join_first byte lines) ≤ size + 2
join-extent byte [] size h = omega arith
join-extent byte (line ∷ lines) size h = omega (arith, h)

cut-extent : (text : List ℕ) → extent (cut_lines text) ≤ length text + 1
cut-extent [] = omega arith
cut-extent (byte ∷ rest) = let later = cut-extent rest in elim (cases_Bool (byte == 10)) [
  | inl same ↦ rw same (omega (arith, later))
  | inr other ↦ rw other (omega (arith, join-extent byte (cut_lines rest) (length rest) later))
]

cr-size : (line : List ℕ) → length (without_cr line) ≤ length line
cr-size line = elim (cases_Bool (ends_with ◌==◌ line (13 ∷ []))) [
  | inl cr ↦ rw cr (omega (arith, length-take-le (length line - 1) line (omega arith)))
  | inr none ↦ rw none (omega arith)
]

placed-extent : (start : ℕ) (lines : List (List ℕ)) → text_extent (lines_with_offsets start lines) ≤ extent lines
placed-extent start [] = omega arith
placed-extent start (line ∷ lines) = omega (arith, cr-size line, placed-extent (start + length line + 1) lines)

filter-extent : (test : Line → Bool) (lines : List Line) → text_extent (filter test lines) ≤ text_extent lines
filter-extent test [] = omega arith
filter-extent test (line ∷ lines) = let later = filter-extent test lines in elim (cases_Bool (test line)) [
  | inl holds ↦ rw holds (omega (arith, later))
  | inr fails ↦ rw fails (omega (arith, later))
]

-- the lines of a log have no more bytes than the log, and one where the last lacks its LF
pub full-extent : (log : List ℕ) → text_extent (nonempty_lines log) ≤ length log + 1
unfolding nonempty_lines
full-extent log =
    let mark : ℕ = mark_size log in
    let lines : List (List ℕ) = cut_lines (drop mark log) in
    omega (arith, filter-extent is_nonempty_line (lines_with_offsets mark lines), placed-extent mark lines, cut-extent (drop mark log), length-drop mark log)

-- How many bytes records have.
module _ {R : Type 0} (entry : List (List ℕ) → Result R Reason) where
  nine-fields : (fields : List (List ℕ)) (new : R) → meaning_of_fields entry fields ≡ Ok new → length fields ≡ 9
  nine-fields fields new e = elim (cases_Bool (length fields == 9)) [
    | inl nine ↦ eqb-true (length fields) 9 nine
    | inr other ↦ absurd (cc (rw other at e))
  ]

  -- nine fields have eight commas
  pub record-size : (line : List ℕ) (new : R) → line_meaning entry line ≡ Ok new → 8 ≤ length line
  unfolding line_meaning
  record-size line new e = elim (cases_Bool (has_bad_byte_or_open_quote line)) [
    | inl broken ↦ absurd (cc (rw broken at e))
    | inr unbroken ↦
        let nine = nine-fields (line_fields line) new (rw unbroken at e) in
        omega (arith, nine, line-fields line (unbroken-printable line unbroken))
  ]

  read_entries-size : (before : ℕ) (lines : List Line) (entries : List R) → read_entries entry before lines ≡ Ok entries → 9 * length entries ≤ text_extent lines
  read_entries-size before [] entries e = let none : entries ≡ [] = cc in rw none (omega arith)
  read_entries-size before (line ∷ lines) entries e =
      let q = after_line-ok before line.start (line_meaning entry line.text) (read_entries entry (before + 1) lines) entries e in
      omega (arith, ap length q.4, record-size line.text q.0 q.2, read_entries-size (before + 1) lines q.1 q.3)

  -- good lines of a text of this size have each nine bytes of it
  pub passed-size : (names : List (List ℕ)) (header : Bool) (entries : List R) (lines : List Line) (size : ℕ) → AreGoodLines names entry header entries lines → text_extent lines ≤ size + 1 → 9 * length entries ≤ size
  passed-size names false entries lines size is most = rw is.1 (omega arith)
  passed-size names true entries [] size is most = absurd (cc is)
  passed-size names true entries (first ∷ lines) size is most =
      let p = passed-header {R = R} (is_header names first.text) (Ok entries) (read_entries entry 0 lines) _ entries is in
      omega (arith, most, read_entries-size 0 lines entries p.1)

  read_lines-size : (names : List (List ℕ)) (size : ℕ) (lines : List Line) (entries : List R) → read_lines names entry size lines ≡ Ok entries → text_extent lines ≤ size + 1 → 9 * length entries ≤ size
  read_lines-size names size [] entries is most = absurd (cc is)
  read_lines-size names size (first ∷ lines) entries is most = passed-size names true entries (first ∷ lines) size is most

  -- each record of a good log has nine bytes of it
  pub read_log-size : (names : List (List ℕ)) (log : List ℕ) (entries : List R) → read_csv_log names entry log ≡ Ok entries → 9 * length entries ≤ length log
  unfolding read_csv_log
  read_log-size names log entries is = read_lines-size names (length log) (nonempty_lines log) entries is (full-extent log)

  all-ok : (reading : Result (List R) BadPlace) (holds : List R → Type 0) → ((entries : List R) → reading ≡ Ok entries → holds entries) → IfOk reading holds
  all-ok (Ok entries) holds all = all entries refl
  all-ok (Err bad) holds all = tt

  pub log_nine : (names : List (List ℕ)) (log : List ℕ) → IfOk (read_csv_log names entry log) (λ entries. HasNineBytesEach entries log)
  log_nine names log = all-ok (read_csv_log names entry log) (λ entries. HasNineBytesEach entries log) (read_log-size names log)

  -- a collector that was handed the records of a log has a place for one more
  pub read-place : {K : Type 0} (names : List (List ℕ)) (has_taken : K → List R → Type 0) (collector : K) (log : List ℕ) → length log ≤ longest_read
      → HasLogRecords (has_taken collector) (read_csv_log names entry log) → HasPlace has_taken collector
  read-place names has_taken collector log within read =
      record { entries = read.entries; has = read.has; fits_places = omega (arith, read_log-size names log read.entries read.reads, within) }
