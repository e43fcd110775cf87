-- How what a log says goes on where more lines come.
use Rattle.std.proofs.Common.{◌≡◌, ◌⊎◌, ℕ, Bool, true, false, ◌+◌, List, [], ◌∷◌, ◌++◌, length, refl, sym, ap, subst, ◌∙◌, inl, inr, Some, None, Ok, Err, Option, Result, zero-add, arith}
use Rattle.std.specs.Prelude.{filter, if◌then◌else◌}
use Rattle.std.specs.Option.{option_to_list}
use Rattle.std.proofs.lemmas.Bool.{cases_Bool}
use Rattle.audit_base.specs.declared.faults.Reason.{Reason}
use Rattle.audit_base.specs.declared.faults.Reason.TheVariants as reason
use Rattle.audit_base.specs.declared.faults.BadPlace.{BadPlace}
use Rattle.csv_logs.specs.Lines.{Line, is_nonempty_line}
use Rattle.csv_logs.specs.Logs.{is_header, line_meaning, with_record_of_line, after_line, read_entries, read_lines}
use Rattle.csv_logs.specs.Feeds.{AreGoodLines}
use Rattle.csv_logs.specs.Steps.{header_says, line_says, entry_says}

-- records before those that are read later
abbrev pub with_front : {R : Type 0} → List R → Result (List R) BadPlace → Result (List R) BadPlace
with_front front (Ok entries) = Ok (front ++ entries)
with_front front (Err bad) = Err bad

with_front-nil : {R : Type 0} (later : Result (List R) BadPlace) → with_front [] later ≡ later
with_front-nil (Ok entries) = refl
with_front-nil (Err bad) = refl

with_first-front : {R : Type 0} (first : R) (front : List R) (later : Result (List R) BadPlace) → with_record_of_line first (with_front front later) ≡ with_front (first ∷ front) later
with_first-front first front (Ok entries) = refl
with_first-front first front (Err bad) = refl

-- a good line, and good lines after it
pub after_line-ok : {R : Type 0} (before start : ℕ) (line : Result R Reason) (later : Result (List R) BadPlace) (entries : List R)
    → after_line before start line later ≡ Ok entries → (first : R) × (rest : List R) × (line ≡ Ok first) × (later ≡ Ok rest) × (entries ≡ first ∷ rest)
after_line-ok before start (Ok first) (Ok rest) entries e = (first, rest, refl, refl, cc)
after_line-ok before start (Ok first) (Err bad) entries e = absurd (cc e)
after_line-ok before start (Err why) later entries e = absurd (cc e)

-- a bad line, or a bad line after a good one
pub after_line-err : {R : Type 0} (before start : ℕ) (line : Result R Reason) (later : Result (List R) BadPlace) (bad : BadPlace)
    → after_line before start line later ≡ Err bad
    → ((why : Reason) × (line ≡ Err why) × (bad ≡ record { place = before + 1; offset = start; reason = why })) ⊎ ((first : R) × (line ≡ Ok first) × (later ≡ Err bad))
after_line-err before start (Ok first) (Ok rest) bad e = absurd (cc e)
after_line-err before start (Ok first) (Err other) bad e = inr (first, refl, cc)
after_line-err before start (Err why) later bad e = inl (why, refl, cc)

after-more : {R : Type 0} (before start : ℕ) (line : Result R Reason) (later : Result (List R) BadPlace) (first : R) (rest : List R) (tail : Result (List R) BadPlace)
    → line ≡ Ok first → later ≡ with_front rest tail → after_line before start line later ≡ with_front (first ∷ rest) tail
after-more before start line later first rest tail is goes = rw (is, goes) (with_first-front first rest tail)

module _ {R : Type 0} (entry : List (List ℕ) → Result R Reason) where
  -- lines after good lines
  pub read_entries-more : (before : ℕ) (lines more : List Line) (entries : List R) → read_entries entry before lines ≡ Ok entries
      → read_entries entry before (lines ++ more) ≡ with_front entries (read_entries entry (before + length entries) more)
  read_entries-more before [] more entries e =
      let none : entries ≡ [] = cc in
      rw none (sym (with_front-nil (read_entries entry (before + 0) more) ∙ ap (λ (n : ℕ). read_entries entry n more) (omega arith)))
  read_entries-more before (line ∷ lines) more entries e =
      let q = after_line-ok before line.start (line_meaning entry line.text) (read_entries entry (before + 1) lines) entries e in
      let h = read_entries-more (before + 1) lines more q.1 q.3 in
      subst (λ (es : List R). read_entries entry before (line ∷ (lines ++ more)) ≡ with_front es (read_entries entry (before + length es) more)) (sym q.4)
      (after-more before line.start (line_meaning entry line.text) (read_entries entry (before + 1) (lines ++ more)) q.0 q.1 (read_entries entry (before + 1 + length q.1) more) q.2 h
      ∙ ap (λ (n : ℕ). with_front (q.0 ∷ q.1) (read_entries entry n more)) (omega arith))

  -- lines after a bad line
  pub read_entries-stop : (before : ℕ) (lines more : List Line) (bad : BadPlace) → read_entries entry before lines ≡ Err bad
      → read_entries entry before (lines ++ more) ≡ Err bad
  read_entries-stop before [] more bad e = absurd (cc e)
  read_entries-stop before (line ∷ lines) more bad e =
      elim (after_line-err before line.start (line_meaning entry line.text) (read_entries entry (before + 1) lines) bad e) [
        | inl here ↦ rw (here.1, here.2) refl
        | inr later ↦ rw (later.1, read_entries-stop (before + 1) lines more bad later.2) refl
      ]

  -- a bad line among these and one more
  pub read_entries-cases : (before : ℕ) (lines : List Line) (line : Line) (bad : BadPlace)
      → read_entries entry before (lines ++ filter is_nonempty_line (line ∷ [])) ≡ Err bad → (bad.offset ≡ line.start) ⊎ (read_entries entry before lines ≡ Err bad)
  read_entries-cases before [] line bad e = elim (cases_Bool (is_nonempty_line line)) [
    | inl full ↦
        elim (after_line-err before line.start (line_meaning entry line.text) (read_entries entry (before + 1) []) bad (rw full at e)) [
          | inl here ↦ inl (ap (λ (b : BadPlace). b.offset) here.2)
          | inr later ↦ absurd (cc later.2)
        ]
    | inr none ↦ absurd (cc (rw none at e))
  ]
  read_entries-cases before (first ∷ lines) line bad e =
      elim (after_line-err before first.start (line_meaning entry first.text) (read_entries entry (before + 1) (lines ++ filter is_nonempty_line (line ∷ []))) bad e) [
        | inl here ↦ inr (rw (here.1, here.2) refl)
        | inr later ↦ elim (read_entries-cases (before + 1) lines line bad later.2) [
          | inl there ↦ inl there
          | inr earlier ↦ inr (rw (later.1, earlier) refl)
        ]
      ]

  -- a record more
  pub read_entries-line : (before : ℕ) (lines : List Line) (line : Line) (entries : List R) (new : R) → read_entries entry before lines ≡ Ok entries
      → line_meaning entry line.text ≡ Ok new → read_entries entry before (lines ++ line ∷ []) ≡ Ok (entries ++ new ∷ [])
  read_entries-line before lines line entries new e is = rw (read_entries-more before lines (line ∷ []) entries e, is) refl

  -- a bad line, whatever comes after it
  pub read_entries-bad : (before : ℕ) (lines : List Line) (line : Line) (more : List Line) (entries : List R) (why : Reason)
      → read_entries entry before lines ≡ Ok entries → line_meaning entry line.text ≡ Err why
      → read_entries entry before (lines ++ line ∷ more) ≡ Err (record { place = before + length entries + 1; offset = line.start; reason = why })
  read_entries-bad before lines line more entries why e is = rw (read_entries-more before lines (line ∷ more) entries e, is) refl

-- what a line says where the header came before it
entry_says-ok : {R : Type 0} (line : Result R Reason) (new : Option R) → entry_says line ≡ Ok new → (entry : R) × (line ≡ Ok entry) × (new ≡ Some entry)
entry_says-ok (Ok entry) new e = (entry, refl, cc)
entry_says-ok (Err why) new e = absurd (cc e)

entry_says-err : {R : Type 0} (line : Result R Reason) (why : Reason) → entry_says line ≡ Err why → line ≡ Err why
entry_says-err (Ok entry) why e = absurd (cc e)
entry_says-err (Err other) why e = cc e

-- the header line
header-ok : {R : Type 0} (test : Bool) (new : Option R) → header_says test ≡ Ok new → (test ≡ true) × (new ≡ None)
header-ok true new e = (refl, cc)
header-ok false new e = absurd (cc e)

header-err : {R : Type 0} (test : Bool) (why : Reason) → header_says {R = R} test ≡ Err why → (test ≡ false) × (why ≡ reason.Header)
header-err true why e = absurd (cc e)
header-err false why e = (refl, cc)

-- the header has passed, and the lines after it are good
pub passed-header : {R : Type 0} (test : Bool) (here good : Result (List R) BadPlace) (bad : BadPlace) (entries : List R) → (if test then good else Err bad) ≡ Ok entries → (test ≡ true) × (good ≡ Ok entries)
passed-header true here good bad entries e = (refl, e)
passed-header false here good bad entries e = absurd (cc e)

module _ {R : Type 0} (names : List (List ℕ)) (entry : List (List ℕ) → Result R Reason) where
  -- a good line more
  pub passed-line : (header : Bool) (entries : List R) (lines : List Line) (line : Line) (new : Option R) → AreGoodLines names entry header entries lines
      → line_says names entry header line.text ≡ Ok new → AreGoodLines names entry true (entries ++ option_to_list new) (lines ++ line ∷ [])
  passed-line true entries [] line new is says = absurd (cc is)
  passed-line true entries (first ∷ lines) line new is says =
      let q = entry_says-ok (line_meaning entry line.text) new says in
      let p = passed-header (is_header names first.text) (Ok entries) (read_entries entry 0 lines) _ entries is in
      rw (q.2, p.0) (read_entries-line entry 0 lines line entries q.0 p.1 q.1)
  passed-line false entries lines line new is says =
      let q = header-ok (is_header names line.text) new says in
      rw (is.0, is.1, q.1, q.0) refl

  -- a bad line, whatever comes after it
  pub passed-bad : (header : Bool) (entries : List R) (lines : List Line) (line : Line) (more : List Line) (why : Reason) (size : ℕ) → AreGoodLines names entry header entries lines
      → line_says names entry header line.text ≡ Err why
      → read_lines names entry size (lines ++ line ∷ more) ≡ Err (record { place = length entries + 1; offset = line.start; reason = why })
  passed-bad true entries [] line more why size is says = absurd (cc is)
  passed-bad true entries (first ∷ lines) line more why size is says =
      let q = entry_says-err (line_meaning entry line.text) why says in
      let p = passed-header (is_header names first.text) (Ok entries) (read_entries entry 0 lines) _ entries is in
      rw p.0 (read_entries-bad entry 0 lines line more entries why p.1 q
      ∙ ap (λ (n : ℕ). let bad : Result (List R) BadPlace = Err (record { place = n + 1; offset = line.start; reason = why }) in bad) (zero-add (length entries)))
  passed-bad false entries lines line more why size is says =
      let q = header-err {R = R} (is_header names line.text) why says in
      rw (is.0, is.1, q.1, q.0) refl

  -- good lines are a good log
  pub passed-log : (entries : List R) (lines : List Line) (size : ℕ) → AreGoodLines names entry true entries lines → read_lines names entry size lines ≡ Ok entries
  passed-log entries [] size is = absurd (cc is)
  passed-log entries (first ∷ lines) size is = is

  -- a bad line among these and one more, or no line at all
  pub read_lines-cases : (size : ℕ) (lines : List Line) (line : Line) (bad : BadPlace) → read_lines names entry size (lines ++ filter is_nonempty_line (line ∷ [])) ≡ Err bad
      → (bad.offset ≡ size) ⊎ ((bad.offset ≡ line.start) ⊎ ((other : ℕ) (more : List Line) → read_lines names entry other (lines ++ more) ≡ Err bad))
  read_lines-cases size [] line bad e = elim (cases_Bool (is_nonempty_line line)) [
    | inl full ↦ elim (cases_Bool (is_header names line.text)) [
      | inl header ↦ absurd (cc (rw (full, header) at e))
      | inr other ↦ inr (inl (cc (rw (full, other) at e)))
    ]
    | inr none ↦ inl (cc (rw none at e))
  ]
  read_lines-cases size (first ∷ lines) line bad e = elim (cases_Bool (is_header names first.text)) [
    | inl header ↦ elim (read_entries-cases entry 0 lines line bad (rw header at e)) [
      | inl there ↦ inr (inl there)
      | inr earlier ↦ inr (inr (λ other more. rw header (read_entries-stop entry 0 lines more bad earlier)))
    ]
    | inr none ↦ inr (inr (λ other more. rw none (rw none at e)))
  ]
