-- What a feed stands for once a byte more has come.
use Rattle.std.proofs.Common.{◌≡◌, ℕ, zero, suc, Bool, true, false, not, ◌==◌, ◌<◌, ◌+◌, ◌*◌, ◌≤◌, List, [], ◌∷◌, ◌++◌, length, drop, refl, sym, ap, subst, ◌∙◌, inl, inr, Some, None, Ok, Err, Option, Result, append_assoc, length-append, add_assoc, arith}
use Rattle.std.specs.Prelude.{IfErr, IfOk, OnOk, filter, is_some}
use Rattle.std.specs.Global.{Vec}
use Rattle.std.specs.List.{list_any}
use Rattle.std.specs.Option.{option_to_list}
use Rattle.std.proofs.lemmas.Bool.{both_ways, cases_Bool, or_parts, or_from}
use Rattle.std.proofs.lemmas.List.{append-nil, drop_all}
use Rattle.audit_base.specs.declared.faults.Reason.{Reason}
use Rattle.audit_base.specs.declared.faults.Reason.TheVariants as reason
use Rattle.audit_base.specs.declared.faults.BadPlace.{BadPlace}
use Rattle.audit_base.specs.declared.faults.LogFault.{LogFault}
use Rattle.log_source.specs.Collectors.{HasPlace}
use Rattle.log_source.specs.Feeds.{HasRoom}
use Rattle.log_source.specs.Handing.{HandsOnMore}
use Rattle.log_source.specs.Sources.{longest_read}
use Rattle.csv_logs.specs.Lines.{Line, is_nonempty_line, nonempty_lines, cut_lines, lines_with_offsets, without_cr}
use Rattle.csv_logs.specs.Steps.{EndsLine, EndsLines, TakesPiece, HasLine, HasLines, MovesPastLine, TakesFields, fields_say, line_at, line_says}
use Rattle.csv_logs.specs.Logs.{is_header, line_meaning, read_lines, read_csv_log}
use Rattle.csv_logs.specs.Feeds.{AnswersCollected, AreGoodLines, HasNoBadLine, AnswersLogRecords, HasLogRecords, StopsAtBadLine, AreCsvFeedFields, IsCsvFeedOf, HasCsvFeedFields, is_lf, are_whole_lines}
use Rattle.csv_logs.specs.declared.feeds.CsvFeed.{CsvFeed}
use Rattle.csv_logs.specs.Columns.{line_fields, has_bad_byte_or_open_quote}
use Rattle.csv_logs.specs.Readers.{is_closed}
use Rattle.csv_logs.proofs.ClosedLemmas.{closed-unbroken}
use Rattle.csv_logs.proofs.LineLemmas.{mark_size-le, whole-line, no-lf-drop, after-some, full_lines-line, full_lines-last}
use Rattle.csv_logs.proofs.LogLemmas.{passed-line, passed-bad, passed-log, read_lines-cases}
use Rattle.csv_logs.proofs.SizeLemmas.{full-extent, passed-size}

-- A line of `size` bytes that starts at `start` was taken: a good one adds what it says, a bad one leaves its place.
abbrev pub TakesLine : {R : Type 0} → Result (Option R) Reason → ℕ → ℕ → (List R → Type 0) → ℕ → (List R → Type 0) → ℕ → Bool → Option BadPlace → Type 0
TakesLine (Ok new) start size before offset after offset' header bad =
    HandsOnMore before after (option_to_list new) × (offset' ≡ offset + size) × (header ≡ true) × (bad ≡ None)
TakesLine (Err why) start size before offset after offset' header bad =
    (entries : List _) → before entries → after entries × (bad ≡ Some (record { place = length entries + 1; offset = start; reason = why }))

-- the same of the records themselves
abbrev TakesRecords : {R : Type 0} → Result (Option R) Reason → ℕ → ℕ → List R → ℕ → List R → ℕ → Bool → Option BadPlace → Type 0
TakesRecords (Ok new) start size entries offset entries' offset' header bad =
    (entries' ≡ entries ++ option_to_list new) × (offset' ≡ offset + size) × (header ≡ true) × (bad ≡ None)
TakesRecords (Err why) start size entries offset entries' offset' header bad =
    bad ≡ Some (record { place = length entries + 1; offset = start; reason = why })

later-line : (start : ℕ) (line : List ℕ) → 0 < start → line_at start line ≡ record { start = start; text = without_cr line }
later-line zero line h = absurd (omega (arith, h))
later-line (suc start) line h = refl

-- an LF after a place
pub lf-drop : (n : ℕ) (text more : List ℕ) → n ≤ length text → list_any is_lf (drop n (text ++ 10 ∷ more)) ≡ true
lf-drop zero [] more h = refl
lf-drop zero (byte ∷ rest) more h = elim (cases_Bool (is_lf byte)) [
  | inl same ↦ rw same refl
  | inr other ↦ rw other (lf-drop zero rest more (omega arith))
]
lf-drop (suc n) [] more h = absurd (omega (arith, h))
lf-drop (suc n) (byte ∷ rest) more h = lf-drop n rest more (omega (arith, h))

pub no-lf-append : (text more : List ℕ) → list_any is_lf text ≡ false → list_any is_lf more ≡ false → list_any is_lf (text ++ more) ≡ false
no-lf-append [] more e f = f
no-lf-append (byte ∷ rest) more e f =
    let p = or_parts (is_lf byte) (list_any is_lf rest) e in
    or_from (is_lf byte) (list_any is_lf (rest ++ more)) p.0 (no-lf-append rest more p.1 f)

-- a line starts where the lines before it end, or right after the mark
pub line_at-start : (start : ℕ) (line : List ℕ) → (line_at start line).start ≤ start + length line
line_at-start zero line = let h = mark_size-le line in omega (arith, h)
line_at-start (suc start) line = omega arith

line_at-above : (start : ℕ) (line : List ℕ) → start ≤ (line_at start line).start
line_at-above zero line = omega arith
line_at-above (suc start) line = omega arith

-- an LF after a place stays there
lf-append : (text more : List ℕ) → list_any is_lf text ≡ true → list_any is_lf (text ++ more) ≡ true
lf-append [] more e = absurd (cc e)
lf-append (byte ∷ rest) more e = elim (cases_Bool (is_lf byte)) [
  | inl same ↦ rw same refl
  | inr other ↦ rw other (lf-append rest more (rw other at e))
]

lf-more : (n : ℕ) (log piece : List ℕ) → list_any is_lf (drop n log) ≡ true → list_any is_lf (drop n (log ++ piece)) ≡ true
lf-more zero log piece e = lf-append log piece e
lf-more (suc n) [] piece e = absurd (cc e)
lf-more (suc n) (byte ∷ rest) piece e = lf-more n rest piece e

-- a line that is empty leaves the lines that are not as they are
pub full-none : (lines : List Line) (line : Line) → is_nonempty_line line ≡ false → lines ++ filter is_nonempty_line (line ∷ []) ≡ lines
full-none lines line e = rw e (append-nil lines)

pub full-some : (lines : List Line) (line : Line) → is_nonempty_line line ≡ true → lines ++ filter is_nonempty_line (line ∷ []) ≡ lines ++ line ∷ []
full-some lines line e = rw e refl

-- every text is whole lines and a line that has not ended
pub last_cut : (text : List ℕ) → (lines : List ℕ) × (rest : List ℕ) × (text ≡ lines ++ rest) × (are_whole_lines lines ≡ true) × (list_any is_lf rest ≡ false)
last_cut [] = ([], [], refl, refl, refl)
last_cut (byte ∷ text) = last_cut-more byte text (last_cut text)
  where
    last_cut-more : (byte : ℕ) (text : List ℕ) → (lines : List ℕ) × (rest : List ℕ) × (text ≡ lines ++ rest) × (are_whole_lines lines ≡ true) × (list_any is_lf rest ≡ false)
        → (lines : List ℕ) × (rest : List ℕ) × (byte ∷ text ≡ lines ++ rest) × (are_whole_lines lines ≡ true) × (list_any is_lf rest ≡ false)
    last_cut-more byte text ([], rest, same, whole, none) = elim (cases_Bool (is_lf byte)) [
      | inl lf ↦ (byte ∷ [], rest, ap (λ (t : List ℕ). byte ∷ t) same, lf, none)
      | inr other ↦ ([], byte ∷ rest, ap (λ (t : List ℕ). byte ∷ t) same, refl, or_from (is_lf byte) (list_any is_lf rest) other none)
    ]
    last_cut-more byte text (first ∷ lines, rest, same, whole, none) = (byte ∷ first ∷ lines, rest, ap (λ (t : List ℕ). byte ∷ t) same, whole, none)

-- the lines of whole lines stay where more comes
full-front : (lines more : List ℕ) → are_whole_lines lines ≡ true → (later : List Line) × (nonempty_lines (lines ++ more) ≡ nonempty_lines lines ++ later)
unfolding nonempty_lines
full-front [] more w = (nonempty_lines more, refl)
full-front (byte ∷ rest) more w = (filter is_nonempty_line (lines_with_offsets (length (byte ∷ rest)) (cut_lines more)), after-some (byte ∷ rest) more w (λ z. cc z))

-- no LF is after the last one
no-lf-behind : (n : ℕ) (lines rest : List ℕ) → length lines ≤ n → list_any is_lf rest ≡ false → list_any is_lf (drop n (lines ++ rest)) ≡ false
no-lf-behind n [] rest h none = no-lf-drop n rest none
no-lf-behind zero (byte ∷ lines) rest h none = absurd (omega (arith, h))
no-lf-behind (suc n) (byte ∷ lines) rest h none = no-lf-behind n lines rest (omega (arith, h)) none

line-size : (lines line : List ℕ) (offset : ℕ) → length lines ≡ offset → length (lines ++ (line ++ 10 ∷ [])) ≡ offset + length line + 1
line-size lines line offset e = simp length-append (omega arith)

line-cut : (log lines line : List ℕ) → log ≡ lines ++ line → log ++ 10 ∷ [] ≡ lines ++ (line ++ 10 ∷ [])
line-cut log lines line e = ap (λ (t : List ℕ). t ++ 10 ∷ []) e ∙ append_assoc lines line (10 ∷ [])

module _ {R : Type 0} (names : List (List ℕ)) (entry : List (List ℕ) → Result R Reason) where
  -- more of the line that has not ended
  pub open-rest : (entries : List R) (rest piece : List ℕ) (offset : ℕ) (header : Bool) (log : List ℕ) → list_any is_lf piece ≡ false
      → HasNoBadLine names entry entries rest offset header log → HasNoBadLine names entry entries (rest ++ piece) offset header (log ++ piece)
  open-rest entries rest piece offset header log none is = record {
    lines = is.lines;
    cut = ap (λ (t : List ℕ). t ++ piece) is.cut ∙ append_assoc is.lines rest piece;
    whole = is.whole;
    size = is.size;
    unfinished = no-lf-append rest piece is.unfinished none;
    good = is.good;
  }

  -- the lines of the log once the unfinished one has ended
  ended-lines : (entries : List R) (line : List ℕ) (offset : ℕ) (header : Bool) (log : List ℕ) → (is : HasNoBadLine names entry entries line offset header log)
      → nonempty_lines (is.lines ++ (line ++ 10 ∷ [])) ≡ nonempty_lines is.lines ++ filter is_nonempty_line (line_at offset line ∷ [])
  ended-lines entries line offset header log is =
      full_lines-line is.lines line is.whole is.unfinished
      ∙ ap (λ (n : ℕ). nonempty_lines is.lines ++ filter is_nonempty_line (line_at n line ∷ [])) is.size

  -- the unfinished line has ended
  ended : (entries more : List R) (line : List ℕ) (offset : ℕ) (header now : Bool) (log : List ℕ) → (is : HasNoBadLine names entry entries line offset header log)
      → AreGoodLines names entry now more (nonempty_lines (is.lines ++ (line ++ 10 ∷ [])))
      → HasNoBadLine names entry more [] (offset + length line + 1) now (log ++ 10 ∷ [])
  ended entries more line offset header now log is passed = record {
    lines = is.lines ++ (line ++ 10 ∷ []);
    cut = line-cut log is.lines line is.cut ∙ sym (append-nil (is.lines ++ (line ++ 10 ∷ [])));
    whole = whole-line is.lines line is.whole;
    size = line-size is.lines line offset is.size;
    unfinished = refl;
    good = passed;
  }

  -- an empty line has ended
  pub open-empty : (entries : List R) (line : List ℕ) (offset : ℕ) (header : Bool) (log : List ℕ) → HasNoBadLine names entry entries line offset header log
      → is_nonempty_line (line_at offset line) ≡ false → HasNoBadLine names entry entries [] (offset + length line + 1) header (log ++ 10 ∷ [])
  open-empty entries line offset header log is empty =
      let lines = ended-lines entries line offset header log is ∙ full-none (nonempty_lines is.lines) (line_at offset line) empty in
      ended entries entries line offset header header log is (subst (AreGoodLines names entry header entries) (sym lines) is.good)

  -- a good line has ended
  pub open-good : (entries : List R) (line : List ℕ) (offset : ℕ) (header : Bool) (log : List ℕ) (new : Option R) → HasNoBadLine names entry entries line offset header log
      → is_nonempty_line (line_at offset line) ≡ true → line_says names entry header (line_at offset line).text ≡ Ok new
      → HasNoBadLine names entry (entries ++ option_to_list new) [] (offset + length line + 1) true (log ++ 10 ∷ [])
  open-good entries line offset header log new is full says =
      let lines = ended-lines entries line offset header log is ∙ full-some (nonempty_lines is.lines) (line_at offset line) full in
      let passed = passed-line names entry header entries (nonempty_lines is.lines) (line_at offset line) new is.good says in
      ended entries (entries ++ option_to_list new) line offset header true log is (subst (AreGoodLines names entry true (entries ++ option_to_list new)) (sym lines) passed)

  -- a bad line has ended
  pub shut-line : (entries : List R) (line : List ℕ) (offset : ℕ) (header : Bool) (log : List ℕ) (why : Reason) → HasNoBadLine names entry entries line offset header log
      → is_nonempty_line (line_at offset line) ≡ true → line_says names entry header (line_at offset line).text ≡ Err why
      → StopsAtBadLine names entry [] (record { place = length entries + 1; offset = (line_at offset line).start; reason = why }) (log ++ 10 ∷ [])
  unfolding read_csv_log
  shut-line entries line offset header log why is full says =
      let bad : BadPlace = record { place = length entries + 1; offset = (line_at offset line).start; reason = why } in
      let lines = ap nonempty_lines (line-cut log is.lines line is.cut) ∙ ended-lines entries line offset header log is ∙ full-some (nonempty_lines is.lines) (line_at offset line) full in
      let says_so = passed-bad names entry header entries (nonempty_lines is.lines) (line_at offset line) [] why (length (log ++ 10 ∷ [])) is.good says in
      let within : (line_at offset line).start ≤ length log =
      omega (arith, line_at-start offset line, is.size, length-append is.lines line, ap length is.cut) in
      record {
        is_bad = subst (λ (ls : List Line). read_lines names entry (length (log ++ 10 ∷ [])) ls ≡ Err bad) (sym lines) says_so;
        ended = lf-drop (line_at offset line).start log [] within;
        nothing = refl;
      }

  -- a bad line stays the first one
  pub shut-more : (rest : List ℕ) (bad : BadPlace) (log piece : List ℕ) → StopsAtBadLine names entry rest bad log → StopsAtBadLine names entry rest bad (log ++ piece)
  unfolding read_csv_log
  shut-more rest bad log piece is =
      let q = last_cut log in
      let line : Line = line_at (length q.0) q.1 in
      let lines : nonempty_lines log ≡ nonempty_lines q.0 ++ filter is_nonempty_line (line ∷ []) = ap nonempty_lines q.2 ∙ full_lines-last q.0 q.1 q.3 q.4 in
      let front = full-front q.0 (q.1 ++ piece) q.3 in
      let more : nonempty_lines (log ++ piece) ≡ nonempty_lines q.0 ++ front.0 =
      ap (λ (t : List ℕ). nonempty_lines (t ++ piece)) q.2 ∙ ap nonempty_lines (append_assoc q.0 q.1 piece) ∙ front.1 in
      let ends : (length q.0 ≤ bad.offset) → ⊥ =
      λ (h : length q.0 ≤ bad.offset). both_ways (list_any is_lf (drop bad.offset log)) (ap (λ (t : List ℕ). list_any is_lf (drop bad.offset t)) q.2 ∙ no-lf-behind bad.offset q.0 q.1 h q.4) is.ended in
      let stays : read_lines names entry (length (log ++ piece)) (nonempty_lines q.0 ++ front.0) ≡ Err bad =
      elim (read_lines-cases names entry (length log) (nonempty_lines q.0) line bad (subst (λ (ls : List Line). read_lines names entry (length log) ls ≡ Err bad) lines is.is_bad)) [
        | inl at_end ↦ absurd (ends (omega (arith, at_end, length-append q.0 q.1, ap length q.2)))
        | inr (inl at_line) ↦ absurd (ends (omega (arith, at_line, line_at-above (length q.0) q.1)))
        | inr (inr earlier) ↦ earlier (length (log ++ piece)) front.0
      ] in
      record {
        is_bad = subst (λ (ls : List Line). read_lines names entry (length (log ++ piece)) ls ≡ Err bad) (sym more) stays;
        ended = lf-more bad.offset log piece is.ended;
        nothing = is.nothing;
      }

  -- the log ends with whole lines and a line that has not ended
  pub log-lines : (entries : List R) (rest : List ℕ) (offset : ℕ) (header : Bool) (log : List ℕ) → (is : HasNoBadLine names entry entries rest offset header log)
      → nonempty_lines log ≡ nonempty_lines is.lines ++ filter is_nonempty_line (line_at offset rest ∷ [])
  log-lines entries rest offset header log is =
      ap nonempty_lines is.cut ∙ full_lines-last is.lines rest is.whole is.unfinished
      ∙ ap (λ (n : ℕ). nonempty_lines is.lines ++ filter is_nonempty_line (line_at n rest ∷ [])) is.size

  pub open-size : (entries : List R) (rest : List ℕ) (offset : ℕ) (header : Bool) (log : List ℕ) → HasNoBadLine names entry entries rest offset header log
      → length log ≡ offset + length rest
  open-size entries rest offset header log is =
      ap length is.cut ∙ length-append is.lines rest ∙ ap (λ (n : ℕ). n + length rest) is.size

  -- an LF after the last line says nothing more
  end-lines : (entries : List R) (rest : List ℕ) (offset : ℕ) (header : Bool) (log : List ℕ) → (is : HasNoBadLine names entry entries rest offset header log)
      → nonempty_lines (log ++ 10 ∷ []) ≡ nonempty_lines log
  end-lines entries rest offset header log is =
      ap nonempty_lines (line-cut log is.lines rest is.cut) ∙ ended-lines entries rest offset header log is ∙ sym (log-lines entries rest offset header log is)

  all-lines : (entries : List R) (offset : ℕ) (header : Bool) (log : List ℕ) → (is : HasNoBadLine names entry entries [] offset header log) → nonempty_lines is.lines ≡ nonempty_lines log
  all-lines entries offset header log is = ap nonempty_lines (sym (append-nil is.lines) ∙ sym is.cut)

  -- whole good lines are a good log
  pub read-open : (entries : List R) (offset : ℕ) (log : List ℕ) → HasNoBadLine names entry entries [] offset true log → read_csv_log names entry log ≡ Ok entries
  unfolding read_csv_log
  read-open entries offset log is =
      passed-log names entry entries (nonempty_lines log) (length log) (subst (AreGoodLines names entry true entries) (all-lines entries offset true log is) is.good)

  -- a good log, given the feed once an LF more has come
  pub finish-good : (entries entries' : List R) (rest : List ℕ) (offset offset' : ℕ) (header : Bool) (log : List ℕ) → HasNoBadLine names entry entries rest offset header log
      → HasNoBadLine names entry entries' [] offset' true (log ++ 10 ∷ []) → read_csv_log names entry log ≡ Ok entries'
  unfolding read_csv_log
  finish-good entries entries' rest offset offset' header log was is =
      let lines = all-lines entries' offset' true (log ++ 10 ∷ []) is ∙ end-lines entries rest offset header log was in
      passed-log names entry entries' (nonempty_lines log) (length log) (subst (AreGoodLines names entry true entries') lines is.good)

  -- a log with no header
  pub finish-none : (entries entries' : List R) (rest : List ℕ) (offset offset' : ℕ) (header : Bool) (log : List ℕ) → HasNoBadLine names entry entries rest offset header log
      → HasNoBadLine names entry entries' [] offset' false (log ++ 10 ∷ [])
      → read_csv_log names entry log ≡ Err (record { place = 1; offset = offset + length rest; reason = reason.Header })
  unfolding read_csv_log
  finish-none entries entries' rest offset offset' header log was is =
      let lines = all-lines entries' offset' false (log ++ 10 ∷ []) is ∙ end-lines entries rest offset header log was in
      ap (read_lines names entry (length log)) (sym lines ∙ is.good.0)
      ∙ ap (λ (n : ℕ). let bad : Result (List R) BadPlace = Err (record { place = 1; offset = n; reason = reason.Header }) in bad) (open-size entries rest offset header log was)

  some-size : (lines : List Line) (size other : ℕ) (bad : BadPlace) → read_lines names entry size lines ≡ Err bad → (bad.offset ≡ size → ⊥) → read_lines names entry other lines ≡ Err bad
  some-size [] size other bad is n = absurd (n (cc is))
  some-size (first ∷ lines) size other bad is n = is

  -- a bad log
  pub finish-bad : (entries : List R) (rest : List ℕ) (offset : ℕ) (header : Bool) (bad : BadPlace) (log : List ℕ) → HasNoBadLine names entry entries rest offset header log
      → StopsAtBadLine names entry [] bad (log ++ 10 ∷ []) → read_csv_log names entry log ≡ Err bad
  unfolding read_csv_log
  finish-bad entries rest offset header bad log was is =
      let size : ℕ = length (log ++ 10 ∷ []) in
      let reads : read_lines names entry size (nonempty_lines log) ≡ Err bad =
      subst (λ (ls : List Line). read_lines names entry size ls ≡ Err bad) (end-lines entries rest offset header log was) is.is_bad in
      some-size (nonempty_lines log) size (length log) bad reads
      (λ at_end. both_ways (list_any is_lf (drop bad.offset (log ++ 10 ∷ []))) (ap (list_any is_lf) (drop_all bad.offset (log ++ 10 ∷ []) (omega (arith, at_end)))) is.ended)

  pub open-new : HasNoBadLine names entry [] [] 0 false []
  unfolding nonempty_lines
  open-new = record { lines = []; cut = refl; whole = refl; size = refl; unfinished = refl; good = (refl, refl) }

  pub open-count : (entries : List R) (rest : List ℕ) (offset : ℕ) (header : Bool) (log : List ℕ) → HasNoBadLine names entry entries rest offset header log
      → 9 * length entries ≤ offset
  open-count entries rest offset header log is =
      passed-size entry names header entries (nonempty_lines is.lines) offset is.good (omega (arith, full-extent is.lines, is.size))

  -- what is left after a line that was empty
  empty-records : (entries : List R) (line : List ℕ) (offset : ℕ) (header : Bool) (bad : Option BadPlace) (log : List ℕ) → bad ≡ None
      → is_nonempty_line (line_at offset line) ≡ false → HasNoBadLine names entry entries line offset header log
      → AreCsvFeedFields names entry entries [] (offset + (length line + 1)) header bad (log ++ 10 ∷ [])
  empty-records entries line offset header bad log none empty is =
      subst (λ (b : Option BadPlace). AreCsvFeedFields names entry entries [] (offset + (length line + 1)) header b (log ++ 10 ∷ [])) (sym none)
      (subst (λ (n : ℕ). HasNoBadLine names entry entries [] n header (log ++ 10 ∷ [])) (add_assoc offset (length line) 1) (open-empty entries line offset header log is empty))

  pub after-empty : (before : List R → Type 0) (line : List ℕ) (offset : ℕ) (header : Bool) (bad : Option BadPlace) → bad ≡ None
      → is_nonempty_line (line_at offset line) ≡ false → EndsLine names entry before line offset header before [] (offset + (length line + 1)) header bad
  after-empty before line offset header bad none empty entries log has is =
      record { entries = entries; has = has; stands = empty-records entries line offset header bad log none empty is }

  -- a collector has a place for what ends a line
  pub line-place : {K : Type 0} (has_taken : K → List R → Type 0) (collector : K) (line : List ℕ) (offset : ℕ) (header : Bool) → HasLine names entry (has_taken collector) line offset header
      → HasPlace has_taken collector
  line-place has_taken collector line offset header is = record {
    entries = is.entries;
    has = is.has;
    fits_places = omega (arith, open-count is.entries line offset header is.log is.stands, open-size is.entries line offset header is.log is.stands, is.room);
  }

  pub stands-new : (has_taken : List R → Type 0) → has_taken [] → HasCsvFeedFields has_taken names entry [] 0 false None []
  stands-new has_taken has = record { entries = []; has = has; stands = open-new }

  -- what is left after a line that was taken
  taken-records : (says : Result (Option R) Reason) (start size : ℕ) (entries : List R) (offset : ℕ) (entries' : List R) (offset' : ℕ) (header' : Bool) (bad' : Option BadPlace)
      → TakesRecords says start size entries offset entries' offset' header' bad'
      → (header : Bool) (line log : List ℕ) → start ≡ (line_at offset line).start → size ≡ length line + 1
      → says ≡ line_says names entry header (line_at offset line).text → is_nonempty_line (line_at offset line) ≡ true
      → HasNoBadLine names entry entries line offset header log → AreCsvFeedFields names entry entries' [] offset' header' bad' (log ++ 10 ∷ [])
  taken-records (Ok new) start size entries offset entries' offset' header' bad' taken header line log at long says full is =
      let good = open-good entries line offset header log new is full (sym says) in
      let moved : offset + length line + 1 ≡ offset' = omega (arith, taken.1, long) in
      rw (taken.0, ← moved, taken.2, taken.3) good
  taken-records (Err why) start size entries offset entries' offset' header' bad' taken header line log at long says full is =
      rw (taken, at) (shut-line entries line offset header log why is full (sym says))

  -- what is left after a line that was taken
  pub after-taken : (says : Result (Option R) Reason) (start size : ℕ) (before : List R → Type 0) (offset : ℕ) (after : List R → Type 0) (offset' : ℕ) (header' : Bool) (bad' : Option BadPlace)
      → TakesLine says start size before offset after offset' header' bad'
      → (header : Bool) (line : List ℕ) → start ≡ (line_at offset line).start → size ≡ length line + 1
      → says ≡ line_says names entry header (line_at offset line).text → is_nonempty_line (line_at offset line) ≡ true
      → EndsLine names entry before line offset header after [] offset' header' bad'
  after-taken (Ok new) start size before offset after offset' header' bad' taken header line at long says full entries log has is =
      record {
        entries = entries ++ option_to_list new;
        has = taken.0 entries has;
        stands = taken-records (Ok new) start size entries offset (entries ++ option_to_list new) offset' header' bad' (refl, taken.1, taken.2, taken.3) header line log at long says full is;
      }
  after-taken (Err why) start size before offset after offset' header' bad' taken header line at long says full entries log has is =
      let t = taken entries has in
      record {
        entries = entries;
        has = t.0;
        stands = taken-records (Err why) start size entries offset entries offset' header' bad' t.1 header line log at long says full is;
      }

  -- what a line that is not broken says, by its fields
  pub unbroken-says : (header : Bool) (text : List ℕ) → has_bad_byte_or_open_quote text ≡ false → line_says names entry header text ≡ fields_say names entry header (line_fields text)
  unfolding is_header line_meaning
  unbroken-says true text unbroken = rw unbroken refl
  unbroken-says false text unbroken = rw unbroken refl

  -- what is left after a line that was read by its fields
  pub after-read : (says : Result (Option R) Reason) (start size : ℕ) (before : List R → Type 0) (offset : ℕ) (after : List R → Type 0) (offset' : ℕ) (header' : Bool) (bad' : Option BadPlace)
      → TakesLine says start size before offset after offset' header' bad'
      → (header : Bool) (line : List ℕ) → 0 < offset → start ≡ offset → size ≡ length line + 1 → is_closed (without_cr line) ≡ true
      → (length (without_cr line) == 0) ≡ false → says ≡ fields_say names entry header (line_fields (without_cr line))
      → EndsLine names entry before line offset header after [] offset' header' bad'
  after-read says start size before offset after offset' header' bad' taken header line later at long closed full is_said =
      let stands : line_at offset line ≡ record { start = offset; text = without_cr line } = later-line offset line later in
      let text : (line_at offset line).text ≡ without_cr line = ap (λ (l : Line). l.text) stands in
      after-taken says start size before offset after offset' header' bad' taken header line (at ∙ sym (ap (λ (l : Line). l.start) stands)) long
      (is_said ∙ sym (unbroken-says header (without_cr line) (closed-unbroken (without_cr line) closed)) ∙ ap (line_says names entry header) (sym text))
      (ap is_nonempty_line stands ∙ ap not full)

-- a line was taken, and the feed has gone past it
pub takes-fields : {R : Type 0} (says : Result (Option R) Reason) (outcome : Result (Unit {0}) Reason) (before after : List R → Type 0) (start size offset offset' : ℕ) (header' : Bool) (bad' : Option BadPlace)
    → TakesFields says before after outcome → MovesPastLine outcome start size after offset offset' header' bad' → TakesLine says start size before offset after offset' header' bad'
takes-fields (Ok new) outcome before after start size offset offset' header' bad' said moves =
    let m = subst (λ (t : Result (Unit {0}) Reason). MovesPastLine t start size after offset offset' header' bad') said.1 moves in
    (said.0, m.0, m.1, m.2)
takes-fields (Err why) outcome before after start size offset offset' header' bad' said moves = λ entries has.
    let m = subst (λ (t : Result (Unit {0}) Reason). MovesPastLine t start size after offset offset' header' bad') said.1 moves in
    let h = subst after (append-nil entries) (said.0 entries has) in
    (h, m entries h)

-- a collector has a place for a line that was bad
pub outcome-place : {K R : Type 0} (has_taken : K → List R → Type 0) (says : Result (Option R) Reason) (outcome : Result (Unit {0}) Reason) (old new : K)
    → HasPlace has_taken old → TakesFields says (has_taken old) (has_taken new) outcome → IfErr outcome (λ why. HasPlace has_taken new)
outcome-place has_taken (Ok more) outcome old new place said = rw (said.1) tt
outcome-place has_taken (Err bad) outcome old new place said =
    rw (said.1) (record { entries = place.entries; has = subst (has_taken new) (append-nil place.entries) (said.0 place.entries place.has); fits_places = place.fits_places })

-- nothing was taken yet
pub goes-none : (old : List ℕ → Type 0) (piece : List ℕ) → TakesPiece old old piece piece
goes-none old piece = record { done = []; split = refl; stands = λ log is. subst old (sym (append-nil log)) is }

-- one part of a piece was taken, and then another
pub goes-then : (old middle new : List ℕ → Type 0) (piece later left : List ℕ) → TakesPiece old middle piece later → TakesPiece middle new later left → TakesPiece old new piece left
goes-then old middle new piece later left first then_on = record {
  done = first.done ++ then_on.done;
  split = first.split ∙ ap (λ (t : List ℕ). first.done ++ t) then_on.split ∙ sym (append_assoc first.done then_on.done left);
  stands = λ log stood. subst new (append_assoc log first.done then_on.done) (then_on.stands (log ++ first.done) (first.stands log stood));
}

-- the feed has room for what is left of a piece
pub goes-left : {D : Type 0} (stands_for : D → List ℕ → Type 0) (feed : D) (old : List ℕ → Type 0) (piece left : List ℕ) → TakesPiece old (stands_for feed) piece left
    → (log : List ℕ) → old log → length log + length piece ≤ longest_read → HasRoom stands_for feed left
goes-left stands_for feed old piece left goes log stood room = record {
  bytes = log ++ goes.done;
  stands = goes.stands log stood;
  room = simp length-append (omega (arith, ap length goes.split, length-append goes.done left, room));
}

-- a line has ended, and more of the text after it was taken
pub ends-lines : {R : Type 0} (names : List (List ℕ)) (entry : List (List ℕ) → Result R Reason) (before after : List R → Type 0) (line : List ℕ) (offset : ℕ) (header : Bool) (rest' : List ℕ) (offset' : ℕ) (header' : Bool) (bad' : Option BadPlace) (new : List ℕ → Type 0) (text left : List ℕ)
    → rest' ≡ [] → EndsLine names entry before line offset header after [] offset' header' bad' → TakesPiece (HasCsvFeedFields after names entry rest' offset' header' bad') new text left
    → EndsLines names entry before line offset header new text left
ends-lines names entry before after line offset header rest' offset' header' bad' new text left nothing taken goes = record {
  done = goes.done;
  split = goes.split;
  stands = λ entries log has is.
      subst new (append_assoc log (10 ∷ []) goes.done)
      (goes.stands (log ++ 10 ∷ []) (subst (λ (r : List ℕ). HasCsvFeedFields after names entry r offset' header' bad' (log ++ 10 ∷ [])) (sym nothing) (taken entries log has is)));
}

-- the feed's rest has become a line
pub ends-kept : {K R : Type 0} (names : List (List ℕ)) (entry : List (List ℕ) → Result R Reason) (has_taken : K → List R → Type 0) (was mid : CsvFeed K) (new new' : List ℕ → Type 0) (line line' text left : List ℕ)
    → (mid.entries ≡ was.entries) × (mid.offset ≡ was.offset) × (mid.header ≡ was.header) × (mid.bad ≡ was.bad) → line' ≡ line → ((log : List ℕ) → new log → new' log)
    → EndsLines names entry (has_taken mid.entries) line' mid.offset mid.header new text left → EndsLines names entry (has_taken was.entries) line was.offset was.header new' text left
ends-kept names entry has_taken was mid new new' line line' text left kept same more ends = record {
  done = ends.done;
  split = ends.split;
  stands = λ entries log has is.
      more (log ++ 10 ∷ ends.done) (ends.stands entries log (subst (λ (k : _). has_taken k entries) (sym kept.0) has) (rw (same, kept.1, kept.2) is));
}

pub last-kept : {K R : Type 0} (names : List (List ℕ)) (entry : List (List ℕ) → Result R Reason) (has_taken : K → List R → Type 0) (was mid : CsvFeed K) (after : List R → Type 0) (line line' rest' : List ℕ) (offset' : ℕ) (header' : Bool) (bad' : Option BadPlace)
    → (mid.entries ≡ was.entries) × (mid.offset ≡ was.offset) × (mid.header ≡ was.header) × (mid.bad ≡ was.bad) → line' ≡ line → rest' ≡ []
    → EndsLine names entry (has_taken mid.entries) line' mid.offset mid.header after [] offset' header' bad' → EndsLine names entry (has_taken was.entries) line was.offset was.header after rest' offset' header' bad'
last-kept names entry has_taken was mid after line line' rest' offset' header' bad' kept same nothing taken = λ entries log has is.
    subst (λ (r : List ℕ). HasCsvFeedFields after names entry r offset' header' bad' (log ++ 10 ∷ [])) (sym nothing)
    (taken entries log (subst (λ (k : _). has_taken k entries) (sym kept.0) has) (rw (same, kept.1, kept.2) is))

pub has-line : {R : Type 0} (names : List (List ℕ)) (entry : List (List ℕ) → Result R Reason) (has_taken : List R → Type 0) (line : List ℕ) (offset : ℕ) (header : Bool) (text : List ℕ)
    → HasLines names entry has_taken line offset header text → HasLine names entry has_taken line offset header
has-line names entry has_taken line offset header text has = record {
  entries = has.entries;
  has = has.has;
  log = has.log;
  stands = has.stands;
  room = omega (arith, has.room);
}

-- the feed has room for the text after a line that has ended
pub lines-room : {K R : Type 0} (names : List (List ℕ)) (entry : List (List ℕ) → Result R Reason) (has_taken : K → List R → Type 0) (feed : CsvFeed K) (before : List R → Type 0) (line : List ℕ) (offset : ℕ) (header : Bool) (text : List ℕ)
    → HasLines names entry before line offset header text → feed.rest.items ≡ [] → EndsLine names entry before line offset header (has_taken feed.entries) [] feed.offset feed.header feed.bad
    → HasRoom (IsCsvFeedOf has_taken names entry) feed text
lines-room names entry has_taken feed before line offset header text has nothing taken = record {
  bytes = has.log ++ 10 ∷ [];
  stands = subst (λ (r : List ℕ). HasCsvFeedFields (has_taken feed.entries) names entry r feed.offset feed.header feed.bad (has.log ++ 10 ∷ [])) (sym nothing) (taken has.entries has.log has.has has.stands);
  room = simp length-append (omega (arith, has.room));
}

none-is : {T : Type 0} (option : Option T) → is_some option ≡ false → option ≡ None
none-is None e = refl
none-is (Some value) e = absurd (cc e)

open-none : {R : Type 0} (names : List (List ℕ)) (entry : List (List ℕ) → Result R Reason) (entries : List R) (rest : List ℕ) (offset : ℕ) (header : Bool) (bad : Option BadPlace) (log : List ℕ)
    → is_some bad ≡ false → AreCsvFeedFields names entry entries rest offset header bad log → HasNoBadLine names entry entries rest offset header log
open-none names entry entries rest offset header bad log e is = subst (λ (b : Option BadPlace). AreCsvFeedFields names entry entries rest offset header b log) (none-is bad e) is

module _ {R : Type 0} (names : List (List ℕ)) (entry : List (List ℕ) → Result R Reason) (old : List ℕ → Type 0) (has_taken : List R → Type 0) (rest : List ℕ) (offset : ℕ) (header : Bool) where
  -- a log with a line that has not ended is within the limit
  pub goes-room : (bad : Option BadPlace) (piece left line later : List ℕ) → TakesPiece old (HasCsvFeedFields has_taken names entry rest offset header bad) piece left → is_some bad ≡ false
      → left ≡ line ++ 10 ∷ later → list_any is_lf line ≡ false → (front : List ℕ) → old front → length front + length piece ≤ longest_read
      → HasLine names entry has_taken (rest ++ line) offset header
  goes-room bad piece left line later goes none is whole front stood room =
      let s = goes.stands front stood in
      record {
        entries = s.entries;
        has = s.has;
        log = (front ++ goes.done) ++ line;
        stands = open-rest names entry s.entries rest line offset header (front ++ goes.done) whole (open-none names entry s.entries rest offset header bad (front ++ goes.done) none s.stands);
        room =
            let size : length piece ≡ length goes.done + (length line + suc (length later)) =
            ap length (goes.split ∙ ap (λ (t : List ℕ). goes.done ++ t) is) ∙ simp length-append in
            simp length-append (omega (arith, size, room));
      }

  -- a line has ended
  pub goes-line : (bad : Option BadPlace) (piece left line later : List ℕ) → TakesPiece old (HasCsvFeedFields has_taken names entry rest offset header bad) piece left → is_some bad ≡ false
      → left ≡ line ++ 10 ∷ later → list_any is_lf line ≡ false → (after : List R → Type 0) (rest' : List ℕ) (offset' : ℕ) (header' : Bool) (bad' : Option BadPlace)
      → EndsLine names entry has_taken (rest ++ line) offset header after rest' offset' header' bad'
      → TakesPiece old (HasCsvFeedFields after names entry rest' offset' header' bad') piece later
  goes-line bad piece left line later goes none is whole after rest' offset' header' bad' taken = record {
    done = (goes.done ++ line) ++ 10 ∷ [];
    split = goes.split ∙ ap (λ (t : List ℕ). goes.done ++ t) is ∙ sym (append_assoc goes.done line (10 ∷ later)) ∙ sym (append_assoc (goes.done ++ line) (10 ∷ []) later);
    stands = λ log stood.
        let s = goes.stands log stood in
        let is_open = open-rest names entry s.entries rest line offset header (log ++ goes.done) whole (open-none names entry s.entries rest offset header bad (log ++ goes.done) none s.stands) in
        subst (HasCsvFeedFields after names entry rest' offset' header' bad') (ap (λ (t : List ℕ). t ++ 10 ∷ []) (append_assoc log goes.done line) ∙ append_assoc log (goes.done ++ line) (10 ∷ []))
        (taken s.entries ((log ++ goes.done) ++ line) s.has is_open);
  }

  -- a log with a line that has not ended and the text after it is within the limit
  pub goes-rooms : (bad : Option BadPlace) (piece left line later : List ℕ) → TakesPiece old (HasCsvFeedFields has_taken names entry rest offset header bad) piece left → is_some bad ≡ false
      → left ≡ line ++ 10 ∷ later → list_any is_lf line ≡ false → (front : List ℕ) → old front → length front + length piece ≤ longest_read
      → HasLines names entry has_taken (rest ++ line) offset header later
  goes-rooms bad piece left line later goes none is whole front stood room =
      let s = goes.stands front stood in
      record {
        entries = s.entries;
        has = s.has;
        log = (front ++ goes.done) ++ line;
        stands = open-rest names entry s.entries rest line offset header (front ++ goes.done) whole (open-none names entry s.entries rest offset header bad (front ++ goes.done) none s.stands);
        room =
            let size : length piece ≡ length goes.done + (length line + suc (length later)) =
            ap length (goes.split ∙ ap (λ (t : List ℕ). goes.done ++ t) is) ∙ simp length-append in
            simp length-append (omega (arith, size, room));
      }

  -- a line has ended, and more lines
  pub goes-lines : (bad : Option BadPlace) (piece left line later left' : List ℕ) (new : List ℕ → Type 0) → TakesPiece old (HasCsvFeedFields has_taken names entry rest offset header bad) piece left → is_some bad ≡ false
      → left ≡ line ++ 10 ∷ later → list_any is_lf line ≡ false → EndsLines names entry has_taken (rest ++ line) offset header new later left' → TakesPiece old new piece left'
  goes-lines bad piece left line later left' new goes none is whole ends = record {
    done = (goes.done ++ line) ++ 10 ∷ ends.done;
    split =
        goes.split ∙ ap (λ (t : List ℕ). goes.done ++ t) (is ∙ ap (λ (t : List ℕ). line ++ 10 ∷ t) ends.split)
        ∙ sym (append_assoc goes.done line (10 ∷ (ends.done ++ left'))) ∙ sym (append_assoc (goes.done ++ line) (10 ∷ ends.done) left');
    stands = λ log stood.
        let s = goes.stands log stood in
        let is_open = open-rest names entry s.entries rest line offset header (log ++ goes.done) whole (open-none names entry s.entries rest offset header bad (log ++ goes.done) none s.stands) in
        subst new (ap (λ (t : List ℕ). t ++ 10 ∷ ends.done) (append_assoc log goes.done line) ∙ append_assoc log (goes.done ++ line) (10 ∷ ends.done))
        (ends.stands s.entries ((log ++ goes.done) ++ line) s.has is_open);
  }

  -- the rest of a piece has no LF
  pub goes-rest : (bad : Option BadPlace) (piece left : List ℕ) → TakesPiece old (HasCsvFeedFields has_taken names entry rest offset header bad) piece left → is_some bad ≡ false
      → list_any is_lf left ≡ false → (log : List ℕ) → old log → (bad' : Option BadPlace) (rest' : List ℕ) → bad' ≡ bad → rest' ≡ rest ++ left → HasCsvFeedFields has_taken names entry rest' offset header bad' (log ++ piece)
  goes-rest bad piece left goes none whole log stood bad' rest' same more =
      let s = goes.stands log stood in
      let is_open = open-rest names entry s.entries rest left offset header (log ++ goes.done) whole (open-none names entry s.entries rest offset header bad (log ++ goes.done) none s.stands) in
      let stands : AreCsvFeedFields names entry s.entries (rest ++ left) offset header None (log ++ piece) =
      subst (HasNoBadLine names entry s.entries (rest ++ left) offset header) (append_assoc log goes.done left ∙ ap (λ (t : List ℕ). log ++ t) (sym goes.split)) is_open in
      record {
        entries = s.entries;
        has = s.has;
        stands =
            subst (λ (b : Option BadPlace). AreCsvFeedFields names entry s.entries rest' offset header b (log ++ piece)) (sym (same ∙ none-is bad none))
            (subst (λ (r : List ℕ). AreCsvFeedFields names entry s.entries r offset header None (log ++ piece)) (sym more) stands);
      }

  shut-stays : (bad : Option BadPlace) (entries : List R) (log left : List ℕ) → is_some bad ≡ true → AreCsvFeedFields names entry entries rest offset header bad log
      → AreCsvFeedFields names entry entries rest offset header bad (log ++ left)
  shut-stays None entries log left none stands = absurd (cc none)
  shut-stays (Some bad) entries log left none stands = shut-more names entry rest bad log left stands

  -- a bad line has ended
  pub goes-shut : (bad : Option BadPlace) (piece left : List ℕ) → TakesPiece old (HasCsvFeedFields has_taken names entry rest offset header bad) piece left → is_some bad ≡ true
      → (log : List ℕ) → old log → HasCsvFeedFields has_taken names entry rest offset header bad (log ++ piece)
  goes-shut bad piece left goes none log stood =
      let s = goes.stands log stood in
      record {
        entries = s.entries;
        has = s.has;
        stands =
            subst (AreCsvFeedFields names entry s.entries rest offset header bad) (append_assoc log goes.done left ∙ ap (λ (t : List ℕ). log ++ t) (sym goes.split))
            (shut-stays bad s.entries (log ++ goes.done) left none s.stands);
      }

-- the rest of a piece was kept
pub goes-keeps : {K R T E : Type 0} (names : List (List ℕ)) (entry : List (List ℕ) → Result R Reason) (has_taken : K → List R → Type 0) (result : Result T E) (old : List ℕ → Type 0) (was now : CsvFeed K) (piece left : List ℕ)
    → TakesPiece old (IsCsvFeedOf has_taken names entry was) piece left → is_some was.bad ≡ false → list_any is_lf left ≡ false
    → OnOk result (now.rest.items ≡ was.rest.items ++ left) → OnOk result ((now.entries ≡ was.entries) × (now.offset ≡ was.offset) × (now.header ≡ was.header) × (now.bad ≡ was.bad))
    → OnOk result ((log : List ℕ) → old log → IsCsvFeedOf has_taken names entry now (log ++ piece))
goes-keeps names entry has_taken (Ok done) old was now piece left goes none whole more others = λ log stood.
    let kept = goes-rest names entry old (has_taken was.entries) was.rest.items was.offset was.header was.bad piece left goes none whole log stood was.bad now.rest.items refl more in
    rw (others.0, others.1, others.2, others.3) kept
goes-keeps names entry has_taken (Err why) old was now piece left goes none whole more others = tt

-- a line was taken by itself, where nothing of its front was kept
pub ends-whole : {R T E : Type 0} (names : List (List ℕ)) (entry : List (List ℕ) → Result R Reason) (result : Result T E) (before after : List R → Type 0) (rest line : List ℕ) (offset : ℕ) (header : Bool) (rest' : List ℕ) (offset' : ℕ) (header' : Bool) (bad' : Option BadPlace)
    → rest ≡ [] → OnOk result (EndsLine names entry before line offset header after [] offset' header' bad') → OnOk result (rest' ≡ rest)
    → OnOk result (EndsLine names entry before (rest ++ line) offset header after rest' offset' header' bad')
ends-whole names entry (Ok done) before after rest line offset header rest' offset' header' bad' none taken same =
    rw (same, none) taken
ends-whole names entry (Err why) before after rest line offset header rest' offset' header' bad' none taken same = tt

-- a line was taken as one text
pub ends-text : {R : Type 0} (names : List (List ℕ)) (entry : List (List ℕ) → Result R Reason) (before after : List R → Type 0) (line text : List ℕ) (offset : ℕ) (header : Bool) (rest' : List ℕ) (offset' : ℕ) (header' : Bool) (bad' : Option BadPlace)
    → text ≡ line → rest' ≡ [] → EndsLine names entry before text offset header after [] offset' header' bad' → EndsLine names entry before line offset header after rest' offset' header' bad'
ends-text names entry before after line text offset header rest' offset' header' bad' same none taken = rw (← same, none) taken

-- The last line has ended: what the feed was, and what it is then.
module _ {R : Type 0} (names : List (List ℕ)) (entry : List (List ℕ) → Result R Reason) (before after : List R → Type 0) (rest rest' : List ℕ) (offset offset' : ℕ) (header header' : Bool) (bad bad' : Option BadPlace)
    (none : bad ≡ None) (nothing : rest' ≡ []) (taken : EndsLine names entry before (rest ++ []) offset header after rest' offset' header' bad') where
  was : (entries : List R) (log : List ℕ) → AreCsvFeedFields names entry entries rest offset header bad log → HasNoBadLine names entry entries rest offset header log
  was entries log stood = subst (λ (b : Option BadPlace). AreCsvFeedFields names entry entries rest offset header b log) none stood

  is : (log : List ℕ) → HasCsvFeedFields before names entry rest offset header bad log → HasCsvFeedFields after names entry [] offset' header' bad' (log ++ 10 ∷ [])
  is log stood =
      let long = subst (λ (r : List ℕ). HasNoBadLine names entry stood.entries r offset header log) (sym (append-nil rest)) (was stood.entries log stood.stands) in
      subst (λ (r : List ℕ). HasCsvFeedFields after names entry r offset' header' bad' (log ++ 10 ∷ [])) nothing (taken stood.entries log stood.has long)

  pub ends-bad : (why : BadPlace) → bad' ≡ Some why → (log : List ℕ) → HasCsvFeedFields before names entry rest offset header bad log → read_csv_log names entry log ≡ Err why
  ends-bad why now log stood =
      let then_is = is log stood in
      finish-bad names entry stood.entries rest offset header why log (was stood.entries log stood.stands)
      (subst (λ (b : Option BadPlace). AreCsvFeedFields names entry then_is.entries [] offset' header' b (log ++ 10 ∷ [])) now then_is.stands)

  still : bad' ≡ None → (entries : List R) (log : List ℕ) → AreCsvFeedFields names entry entries [] offset' header' bad' (log ++ 10 ∷ []) → HasNoBadLine names entry entries [] offset' header' (log ++ 10 ∷ [])
  still now entries log stands = subst (λ (b : Option BadPlace). AreCsvFeedFields names entry entries [] offset' header' b (log ++ 10 ∷ [])) now stands

  pub ends-good : bad' ≡ None → header' ≡ true → (log : List ℕ) → HasCsvFeedFields before names entry rest offset header bad log → HasLogRecords after (read_csv_log names entry log)
  ends-good now has log stood =
      let then_is = is log stood in
      record {
        entries = then_is.entries;
        has = then_is.has;
        reads =
            finish-good names entry stood.entries then_is.entries rest offset offset' header log (was stood.entries log stood.stands)
            (subst (λ (h : Bool). HasNoBadLine names entry then_is.entries [] offset' h (log ++ 10 ∷ [])) has (still now then_is.entries log then_is.stands));
      }

  pub ends-none : bad' ≡ None → header' ≡ false → (log : List ℕ) → HasCsvFeedFields before names entry rest offset header bad log
      → read_csv_log names entry log ≡ Err (record { place = 1; offset = offset + length rest; reason = reason.Header })
  ends-none now has log stood =
      let then_is = is log stood in
      finish-none names entry stood.entries then_is.entries rest offset offset' header log (was stood.entries log stood.stands)
      (subst (λ (h : Bool). HasNoBadLine names entry then_is.entries [] offset' h (log ++ 10 ∷ [])) has (still now then_is.entries log then_is.stands))

-- a vector that was handed the records of a log has them
pub read-kept : {R : Type 0} (reading : Result (List R) BadPlace) (result : Result (Vec R) LogFault)
    → AnswersCollected {K = Vec R} (λ kept entries. kept.items ≡ entries) reading result → AnswersLogRecords reading result
read-kept reading (Ok kept) is = is.reads ∙ ap (λ entries. Ok entries) (sym is.has)
read-kept reading (Err why) is = is

-- and what holds of the records of the log holds of these
pub holds-kept : {R : Type 0} (reading : Result (List R) BadPlace) (result : Result (Vec R) LogFault) (holds : List R → Type 0)
    → AnswersLogRecords reading result → IfOk reading holds → IfOk result (λ kept. holds kept.items)
holds-kept reading (Ok kept) holds is all = rw is at all
holds-kept reading (Err why) holds is all = tt
