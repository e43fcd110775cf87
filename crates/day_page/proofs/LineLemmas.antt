-- The lines of the text of a day, and the rows that they give.
use Rattle.std.proofs.Common.{◌≡◌, ◌∙◌, inl, inr, refl, sym, ap, ℕ, ◌<◌, ◌^◌, Bool, true, false, List, [], ◌∷◌, ◌++◌, arith, lit<, append_assoc}
use Rattle.std.specs.Prelude.{◌==◌, codes, decimal, if◌then◌else◌, nat_le, IsTrue}
use Rattle.std.specs.Char.{is_ascii_digit}
use Rattle.std.specs.List.{All, flat_map, join_with_byte, list_all, list_any, onto_first, slice_split}
use Rattle.std.proofs.lemmas.Bool.{and_parts, leb-true, or_parts}
use Rattle.std.proofs.lemmas.List.{append-nil}
use Rattle.std.proofs.lemmas.List.Concat.{flat_map-append}
use Rattle.std.proofs.lemmas.List.Elements.{All-head, All-tail}
use Rattle.std.proofs.lemmas.List.Splits.{slice_split-cons_no}
use Rattle.audit_base.proofs.UnquotedLemmas.{decimal_is_unquoted}
use Rattle.audit_base.proofs.WrittenDigits.{decimal_digits}
use Rattle.audit_base.specs.Names.{is_name_byte}
use Rattle.audit_report.specs.DayTexts.{byte_in_line, day_line, symbol_front, symbol_lines, with_line_fronts}
use Rattle.audit_report.specs.declared.day_line.DayCounts.{DayCounts}
use Rattle.day_page.specs.DayLines.{behind_commas, field_at, is_newline, is_word, text_lines}
use Rattle.day_page.specs.Laws.{AreCountsOfDay, IsLines, is_one_line}
use Rattle.day_page.specs.Rows.{row_of_line, rows_of_text}
use Rattle.day_page.proofs.CutLemmas.{parts-behind}
use Rattle.day_page.proofs.FieldLemmas.{before-comma, no-end, not-true, other-byte}
use Rattle.day_page.proofs.RowLemmas.{no-rows}

-- A text behind lines.

rows-behind : (asked front more : List ℕ) → rows_of_text asked (front ++ 10 ∷ more) ≡ rows_of_text asked front ++ rows_of_text asked more
unfolding text_lines
rows-behind asked front more = ap (flat_map (row_of_line asked)) (parts-behind is_newline front 10 more refl) ∙ flat_map-append (row_of_line asked) (slice_split is_newline front) (slice_split is_newline more)

-- the LF of a last line gives no row of its own
rows-ended : (asked front : List ℕ) → rows_of_text asked (front ++ 10 ∷ []) ≡ rows_of_text asked front
rows-ended asked front = rows-behind asked front [] ∙ ap (λ (l : List ℕ). rows_of_text asked front ++ l) (no-rows asked) ∙ append-nil (rows_of_text asked front)

pub rows-of-more : (asked text more : List ℕ) → IsLines text → rows_of_text asked (text ++ more) ≡ rows_of_text asked text ++ rows_of_text asked more
rows-of-more asked text more (inl none) = rw (none, no-rows asked) refl
rows-of-more asked text more (inr (front, is)) =
    ap (λ (l : List ℕ). rows_of_text asked (l ++ more)) is ∙ ap (rows_of_text asked) (append_assoc front (10 ∷ []) more) ∙ rows-behind asked front more
    ∙ ap (λ (l : List ℕ). l ++ rows_of_text asked more) (sym (rows-ended asked front) ∙ sym (ap (rows_of_text asked) is))

-- A report with the symbol before each of its lines.

fronts-end : (front : List ℕ) (begins : Bool) (report : List ℕ) → (lines : List ℕ) × (with_line_fronts front begins (report ++ 10 ∷ []) ≡ lines ++ 10 ∷ [])
fronts-end front begins [] = (if begins then front else [], append-nil (byte_in_line front begins 10))
fronts-end front begins (byte ∷ report) =
    let rest = fronts-end front (byte == 10) report in
    (byte_in_line front begins byte ++ rest.0, ap (λ (l : List ℕ). byte_in_line front begins byte ++ l) rest.1 ∙ sym (append_assoc (byte_in_line front begins byte) rest.0 (10 ∷ [])))

lines-of-symbol : (symbol report : List ℕ) → IsLines report → IsLines (symbol_lines symbol report)
lines-of-symbol symbol report (inl none) = inl (ap (symbol_lines symbol) none)
lines-of-symbol symbol report (inr (front, is)) =
    let ended = fronts-end (symbol_front symbol) true front in
    inr (ended.0, ap (symbol_lines symbol) is ∙ ended.1)

-- what the lines of each symbol give, one after another
pub rows-of-reports : (asked : List ℕ) (reports : List (List ℕ × List ℕ)) → All (λ r. IsLines r.1) reports
    → rows_of_text asked (flat_map (λ r. symbol_lines r.0 r.1) reports) ≡ flat_map (λ r. rows_of_text asked (symbol_lines r.0 r.1)) reports
rows-of-reports asked [] are = no-rows asked
rows-of-reports asked (r ∷ reports) are =
    rows-of-more asked (symbol_lines r.0 r.1) (flat_map (λ q. symbol_lines q.0 q.1) reports) (lines-of-symbol r.0 r.1 (All-head (λ q. IsLines q.1) r reports are))
    ∙ ap (λ (l : List ℕ). rows_of_text asked (symbol_lines r.0 r.1) ++ l) (rows-of-reports asked reports (All-tail (λ q. IsLines q.1) r reports are))

-- Names and numbers have no LF.

one-line : (text : List ℕ) → list_all is_name_byte text ≡ true → list_any is_newline text ≡ false
one-line [] h = refl
one-line (byte ∷ text) h =
    let parts = and_parts (is_name_byte byte) (list_all is_name_byte text) h in
    rw (no-end byte parts.0) (one-line text parts.1)

line-behind : (text more : List ℕ) → list_any is_newline text ≡ false → list_any is_newline more ≡ false → list_any is_newline (text ++ more) ≡ false
line-behind [] more a b = b
line-behind (byte ∷ text) more a b =
    let parts = or_parts (is_newline byte) (list_any is_newline text) a in
    rw parts.0 (line-behind text more parts.1 b)

-- a text without LF is one line
one-part : (text : List ℕ) → list_any is_newline text ≡ false → slice_split is_newline text ≡ text ∷ []
one-part [] e = refl
one-part (byte ∷ text) e =
    let parts = or_parts (is_newline byte) (list_any is_newline text) e in
    slice_split-cons_no is_newline byte text parts.0 ∙ ap (onto_first byte) (one-part text parts.1)

pub rows-of-line : (asked line : List ℕ) → list_any is_newline line ≡ false → rows_of_text asked line ≡ row_of_line asked line
unfolding text_lines
rows-of-line asked line e = ap (flat_map (row_of_line asked)) (one-part line e) ∙ append-nil (row_of_line asked line)

-- The line of the counts gives no row: its second field is a number.

no-word : (digits : List ℕ) (first : ℕ) (rest : List ℕ) → 57 < first → list_all is_ascii_digit digits ≡ true → is_word digits (first ∷ rest) ≡ false
no-word [] first rest high h = refl
no-word (digit ∷ digits) first rest high h =
    let parts = and_parts (is_ascii_digit digit) (list_all is_ascii_digit digits) h in
    let low = leb-true digit 57 (and_parts (nat_le 48 digit) (nat_le digit 57) parts.0).1 in
    rw (other-byte digit first (λ e. omega (arith, low, high, e))) refl

second-field : (digits more : List ℕ) → list_all is_name_byte digits ≡ true → field_at 1 (codes "day" ++ 44 ∷ (digits ++ 44 ∷ more)) ≡ digits
unfolding behind_commas field_at
second-field digits more h = before-comma digits more h

no-row-of-number : (asked digits more : List ℕ) → list_all is_name_byte digits ≡ true → list_all is_ascii_digit digits ≡ true → row_of_line asked (codes "day" ++ 44 ∷ (digits ++ 44 ∷ more)) ≡ []
no-row-of-number asked digits more h d = rw (second-field digits more h, no-word digits 116 _ (lit< tt) d, no-word digits 114 _ (lit< tt) d) refl

few_digits : (n : ℕ) → n < 2 ^ 64 → n < 10 ^ 64
few_digits n few = omega (arith, few)

counts-give-none : (asked : List ℕ) (counts : DayCounts) (question_text : List ℕ) → AreCountsOfDay counts → list_any is_newline question_text ≡ false → rows_of_text asked (day_line counts question_text) ≡ []
counts-give-none asked counts question_text few line =
    let rejected_line = line-behind (decimal counts.rejected) (44 ∷ question_text) (one-line (decimal counts.rejected) (decimal_is_unquoted counts.rejected (few_digits counts.rejected few.rejected))) line in
    let accepted_line = line-behind (decimal counts.accepted) (44 ∷ (decimal counts.rejected ++ 44 ∷ question_text)) (one-line (decimal counts.accepted) (decimal_is_unquoted counts.accepted (few_digits counts.accepted few.accepted))) rejected_line in
    let rest = 44 ∷ (decimal counts.accepted ++ 44 ∷ (decimal counts.rejected ++ 44 ∷ question_text)) in
    let symbols_name = decimal_is_unquoted counts.symbols (few_digits counts.symbols few.symbols) in
    let symbols_line = line-behind (decimal counts.symbols) rest (one-line (decimal counts.symbols) symbols_name) accepted_line in
    let line_is = codes "day" ++ 44 ∷ (decimal counts.symbols ++ rest) in
    rows-ended asked line_is ∙ rows-of-line asked line_is symbols_line
    ∙ no-row-of-number asked (decimal counts.symbols) (decimal counts.accepted ++ 44 ∷ (decimal counts.rejected ++ 44 ∷ question_text)) symbols_name (decimal_digits counts.symbols (few_digits counts.symbols few.symbols))

pub have-rows : (asked : List ℕ) (counts : DayCounts) (question_text : List ℕ) (reports : List (List ℕ × List ℕ)) → AreCountsOfDay counts → IsTrue (is_one_line question_text) → All (λ r. IsLines r.1) reports
    → rows_of_text asked (day_line counts question_text ++ flat_map (λ r. symbol_lines r.0 r.1) reports) ≡ flat_map (λ r. rows_of_text asked (symbol_lines r.0 r.1)) reports
have-rows asked counts question_text reports few line are =
    rows-of-more asked (day_line counts question_text) (flat_map (λ r. symbol_lines r.0 r.1) reports) (inr (join_with_byte 44 (codes "day" ∷ decimal counts.symbols ∷ decimal counts.accepted ∷ decimal counts.rejected ∷ question_text ∷ []), refl))
    ∙ ap (λ (l : List ℕ). l ++ rows_of_text asked (flat_map (λ r. symbol_lines r.0 r.1) reports)) (counts-give-none asked counts question_text few (not-true (list_any is_newline question_text) line))
    ∙ rows-of-reports asked reports are
