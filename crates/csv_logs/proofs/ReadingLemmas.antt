-- Each log is read in one way.
use Rattle.std.proofs.Common.{◌≡◌, ◌⊎◌, ◌==◌, ℕ, zero, suc, true, false, ◌+◌, List, [], ◌∷◌, ◌++◌, length, map, refl, sym, ap, subst, ◌∙◌, inl, inr, Ok, Err, Result, zero-add, arith}
use Rattle.std.proofs.lemmas.Bool.{cases_Bool}
use Rattle.audit_base.specs.declared.faults.Reason.{Reason}
use Rattle.audit_base.specs.declared.faults.Reason.TheVariants as reason
use Rattle.audit_base.specs.declared.faults.BadPlace.{BadPlace}
use Rattle.std.specs.Prelude.{All, IfOk}
use Rattle.csv_logs.specs.Columns.{has_bad_byte_or_open_quote, line_fields}
use Rattle.csv_logs.specs.Lines.{Line, nonempty_lines}
use Rattle.csv_logs.specs.Logs.{is_header, line_meaning, read_entries, read_lines, read_csv_log, IsGoodCsvLog, IsBadCsvLog, IsOnlyCsvReading}
use Rattle.csv_logs.proofs.LogLemmas.{after_line-ok, after_line-err, read_entries-bad}

module _ {R : Type 0} (entry : List (List ℕ) → Result R Reason) where
  abbrev entry_of : Line → Result R Reason
  entry_of line = line_meaning entry line.text

  -- lines that are records are read as these
  records-read : (before : ℕ) (lines : List Line) (entries : List R) → map entry_of lines ≡ map Ok entries → read_entries entry before lines ≡ Ok entries
  records-read before [] [] e = refl
  records-read before [] (first ∷ entries) e = absurd (cc e)
  records-read before (line ∷ lines) [] e = absurd (cc e)
  records-read before (line ∷ lines) (first ∷ entries) e =
      let here : entry_of line ≡ Ok first = cc e in
      let later : map entry_of lines ≡ map Ok entries = cc e in
      rw (here, records-read (before + 1) lines entries later) refl

  -- and only those are
  read-records : (before : ℕ) (lines : List Line) (entries : List R) → read_entries entry before lines ≡ Ok entries → map entry_of lines ≡ map Ok entries
  read-records before [] entries e = let none : entries ≡ [] = cc e in rw none refl
  read-records before (line ∷ lines) entries e =
      let q = after_line-ok before line.start (entry_of line) (read_entries entry (before + 1) lines) entries e in
      let later = read-records (before + 1) lines q.1 q.3 in
      subst (λ (es : List R). map entry_of (line ∷ lines) ≡ map Ok es) (sym q.4) (let here = q.2 in λ i. here i ∷ later i)

  -- the first line that is no record
  pub record Fails (before : ℕ) (lines : List Line) (bad : BadPlace) : Type 0 where
    pub good : List Line
    pub line : Line
    pub after : List Line
    pub entries : List R
    pub why : Reason
    pub cut : lines ≡ good ++ line ∷ after
    pub records : map entry_of good ≡ map Ok entries
    pub fails : entry_of line ≡ Err why
    pub place : bad ≡ record { place = before + length entries + 1; offset = line.start; reason = why }

  fails-read : (before : ℕ) (lines : List Line) (bad : BadPlace) → read_entries entry before lines ≡ Err bad → Fails before lines bad
  fails-read before [] bad e = absurd (cc e)
  fails-read before (line ∷ lines) bad e = elim (after_line-err before line.start (entry_of line) (read_entries entry (before + 1) lines) bad e) [
    | inl here ↦ record {
      good = [];
      line = line;
      after = lines;
      entries = [];
      why = here.0;
      cut = refl;
      records = refl;
      fails = here.1;
      place = here.2 ∙ ap (λ (n : ℕ). let b : BadPlace = record { place = n; offset = line.start; reason = here.0 } in b) (omega arith);
    }
    | inr later ↦
        let rest = fails-read (before + 1) lines bad later.2 in
        record {
          good = line ∷ rest.good;
          line = rest.line;
          after = rest.after;
          entries = later.0 ∷ rest.entries;
          why = rest.why;
          cut = ap (λ (ls : List Line). line ∷ ls) rest.cut;
          records = rw (later.1, rest.records) refl;
          fails = rest.fails;
          place = rest.place ∙ ap (λ (n : ℕ). let b : BadPlace = record { place = n; offset = rest.line.start; reason = rest.why } in b) (omega arith);
        }
  ]

module _ {R : Type 0} (names : List (List ℕ)) (entry : List (List ℕ) → Result R Reason) where
  lines-good : (size : ℕ) (lines : List Line) (entries : List R) → read_lines names entry size lines ≡ Ok entries
      → (header : Line) × (later : List Line) × (lines ≡ header ∷ later) × (is_header names header.text ≡ true) × (map (λ line. line_meaning entry line.text) later ≡ map Ok entries)
  lines-good size [] entries e = absurd (cc e)
  lines-good size (header ∷ lines) entries e = elim (cases_Bool (is_header names header.text)) [
    | inl named ↦ (header, lines, refl, named, read-records entry 0 lines entries (rw named at e))
    | inr other ↦ absurd (cc (rw other at e))
  ]

  lines-bad : (size : ℕ) (lines : List Line) (bad : BadPlace) → read_lines names entry size lines ≡ Err bad
      → ((lines ≡ []) × (bad ≡ record { place = 1; offset = size; reason = reason.Header }))
      ⊎ (((header : Line) × (later : List Line) × (lines ≡ header ∷ later) × (is_header names header.text ≡ false) × (bad ≡ record { place = 1; offset = header.start; reason = reason.Header }))
      ⊎ ((header : Line) × (later : List Line) × (lines ≡ header ∷ later) × (is_header names header.text ≡ true) × Fails entry 0 later bad))
  lines-bad size [] bad e = inl (refl, cc e)
  lines-bad size (header ∷ lines) bad e = elim (cases_Bool (is_header names header.text)) [
    | inl named ↦ inr (inr (header, lines, refl, named, fails-read entry 0 lines bad (rw named at e)))
    | inr other ↦ inr (inl (header, lines, refl, other, cc (rw other at e)))
  ]

  good-read : (log : List ℕ) (entries : List R) → IsGoodCsvLog names entry log entries → read_csv_log names entry log ≡ Ok entries
  unfolding read_csv_log
  good-read log entries is = rw (is.cut, is.named) (records-read entry 0 is.lines entries is.records)

  read-good : (log : List ℕ) (entries : List R) → read_csv_log names entry log ≡ Ok entries → IsGoodCsvLog names entry log entries
  unfolding read_csv_log
  read-good log entries e =
      let q = lines-good (length log) (nonempty_lines log) entries e in
      record { header = q.0; lines = q.1; cut = q.2; named = q.3; records = q.4 }

  bad-read : (log : List ℕ) (bad : BadPlace) → IsBadCsvLog names entry log bad → read_csv_log names entry log ≡ Err bad
  unfolding read_csv_log
  bad-read log bad (inl is) = rw (is.empty, is.place) refl
  bad-read log bad (inr (inl is)) = rw (is.cut, is.unnamed, is.place) refl
  bad-read log bad (inr (inr is)) =
      rw (is.cut, is.named, is.place)
      (read_entries-bad entry 0 is.good is.line is.after is.entries is.why (records-read entry 0 is.good is.entries is.records) is.fails
      ∙ ap (λ (n : ℕ). let b : Result (List R) BadPlace = Err (record { place = n + 1; offset = is.line.start; reason = is.why }) in b) (zero-add (length is.entries)))

  read-bad : (log : List ℕ) (bad : BadPlace) → read_csv_log names entry log ≡ Err bad → IsBadCsvLog names entry log bad
  unfolding read_csv_log
  read-bad log bad e = elim (lines-bad (length log) (nonempty_lines log) bad e) [
    | inl q ↦ inl (record { empty = q.0; place = q.1 })
    | inr (inl q) ↦ inr (inl (record { header = q.0; lines = q.1; cut = q.2; unnamed = q.3; place = q.4 }))
    | inr (inr q) ↦ inr (inr (record {
      header = q.0;
      good = q.4.good;
      line = q.4.line;
      after = q.4.after;
      entries = q.4.entries;
      why = q.4.why;
      cut = q.2 ∙ ap (λ (ls : List Line). q.0 ∷ ls) q.4.cut;
      named = q.3;
      records = q.4.records;
      fails = q.4.fails;
      place = q.4.place ∙ ap (λ (n : ℕ). let b : BadPlace = record { place = n + 1; offset = q.4.line.start; reason = q.4.why } in b) (zero-add (length q.4.entries));
    }))
  ]

  pub only-reading : (log : List ℕ) → IsOnlyCsvReading names entry log (read_csv_log names entry log)
  only-reading log = record {
    good = λ entries. (good-read log entries, read-good log entries);
    bad = λ place. (bad-read log place, read-bad log place);
  }

-- What each record of a line has, each record of a log has.
module _ {R : Type 0} (entry : List (List ℕ) → Result R Reason) (P : R → Type 0) (each : (fields : List (List ℕ)) (new : R) → entry fields ≡ Ok new → P new) where
  line-has : (line : List ℕ) (new : R) → line_meaning entry line ≡ Ok new → P new
  unfolding line_meaning
  line-has line new e = elim (cases_Bool (has_bad_byte_or_open_quote line)) [
    | inl broken ↦ absurd (cc (rw broken at e))
    | inr sound ↦ elim (cases_Bool (length (line_fields line) == 9)) [
      | inl nine ↦ each (line_fields line) new (rw (sound, nine) at e)
      | inr other ↦ absurd (cc (rw (sound, other) at e))
    ]
  ]

  entries-have : (before : ℕ) (lines : List Line) (entries : List R) → read_entries entry before lines ≡ Ok entries → All P entries
  entries-have before [] entries e = let none : entries ≡ [] = cc in rw none (λ k d h. absurd (omega (arith, h)))
  entries-have before (line ∷ lines) entries e =
      let q = after_line-ok before line.start (line_meaning entry line.text) (read_entries entry (before + 1) lines) entries e in
      subst (All P) (sym q.4) (have-first q.0 q.1 (line-has line.text q.0 q.2) (entries-have (before + 1) lines q.1 q.3))
    where
      have-first : (first : R) (rest : List R) → P first → All P rest → All P (first ∷ rest)
      have-first first rest here later zero d h = here
      have-first first rest here later (suc k) d h = later k d (omega (arith, h))

  pub log-has : (names : List (List ℕ)) (log : List ℕ) (entries : List R) → read_csv_log names entry log ≡ Ok entries → All P entries
  unfolding read_csv_log
  log-has names log entries e =
      let q = lines-good names entry (length log) (nonempty_lines log) entries e in
      entries-have 0 q.1 entries (records-read entry 0 q.1 entries q.4)

-- Where every record that fields mean is sound, every record of a good log is.
module _ {R : Type 0} (entry : List (List ℕ) → Result R Reason) (sound : R → Type 0) (each : (fields : List (List ℕ)) → IfOk (entry fields) sound) where
  meant : (reading : Result R Reason) → IfOk reading sound → (new : R) → reading ≡ Ok new → sound new
  meant (Ok found) is new e = let same : found ≡ new = cc in subst sound same is
  meant (Err why) is new e = absurd (cc e)

  all-sound : (reading : Result (List R) BadPlace) → ((entries : List R) → reading ≡ Ok entries → All sound entries) → IfOk reading (All sound)
  all-sound (Ok entries) has = has entries refl
  all-sound (Err bad) has = tt

  pub log_sound : (names : List (List ℕ)) (log : List ℕ) → IfOk (read_csv_log names entry log) (All sound)
  log_sound names log = all-sound (read_csv_log names entry log) (log-has entry sound (λ fields. meant (entry fields) (each fields)) names log)
