-- How the lines of a log go on where more bytes come.
use Rattle.std.proofs.Common.{◌≡◌, ℕ, zero, suc, ◌&&◌, Bool, true, false, ◌+◌, ◌-◌, ◌==◌, ◌<◌, ◌≤◌, List, [], ◌∷◌, ◌++◌, length, take, drop, get_or, refl, sym, ap, ◌∙◌, inl, inr, cond, arith}
use Rattle.std.specs.Prelude.{filter}
use Rattle.std.specs.List.{list_any, starts_with}
use Rattle.std.proofs.lemmas.Bool.{cases_Bool, eqb-true, or_parts, or_from, false_from_ne_true}
use Rattle.std.proofs.lemmas.List.{length-drop, drop-append-le, take-append-drop, drop_more, take_rest}
use Rattle.csv_logs.specs.Lines.{Line, byte_order_mark, mark_size, join_first, cut_lines, without_cr, lines_with_offsets, is_nonempty_line, nonempty_lines}
use Rattle.csv_logs.specs.Steps.{line_at}
use Rattle.csv_logs.specs.Feeds.{is_lf, are_whole_lines}

-- a text that is not empty has a first line
join-some : (byte : ℕ) (lines : List (List ℕ)) → (line : List ℕ) × (later : List (List ℕ)) × (join_first byte lines ≡ line ∷ later)
join-some byte [] = (byte ∷ [], [], refl)
join-some byte (line ∷ lines) = (byte ∷ line, lines, refl)

cut-some : (byte : ℕ) (rest : List ℕ) → (line : List ℕ) × (later : List (List ℕ)) × (cut_lines (byte ∷ rest) ≡ line ∷ later)
cut-some byte rest = elim (cases_Bool (byte == 10)) [
  | inl same ↦ rw same ([], cut_lines rest, refl)
  | inr other ↦ rw other (join-some byte (cut_lines rest))
]

-- a byte that is no LF joins the first line
join-append : (byte : ℕ) (lines more : List (List ℕ)) (line : List ℕ) (later : List (List ℕ)) → lines ≡ line ∷ later
    → join_first byte (lines ++ more) ≡ join_first byte lines ++ more
join-append byte lines more line later is = rw is refl

-- what follows whole lines is cut by itself
pub cut-whole : (text more : List ℕ) → are_whole_lines text ≡ true → cut_lines (text ++ more) ≡ cut_lines text ++ cut_lines more
cut-whole [] more w = refl
cut-whole (byte ∷ []) more w = rw w refl
cut-whole (byte ∷ next ∷ rest) more w = elim (cases_Bool (byte == 10)) [
  | inl same ↦ rw same (ap (λ (ls : List (List ℕ)). [] ∷ ls) (cut-whole (next ∷ rest) more w))
  | inr other ↦
      let some = cut-some next rest in
      rw other (ap (join_first byte) (cut-whole (next ∷ rest) more w) ∙ join-append byte (cut_lines (next ∷ rest)) (cut_lines more) some.0 some.1 some.2)
]

-- a line with its LF is one line
pub cut-line : (line : List ℕ) → list_any is_lf line ≡ false → cut_lines (line ++ 10 ∷ []) ≡ line ∷ []
cut-line [] n = refl
cut-line (byte ∷ rest) n =
    let p = or_parts (byte == 10) (list_any is_lf rest) n in
    rw (p.0, cut-line rest p.1) refl

-- and so is a last line without
pub cut-last : (byte : ℕ) (rest : List ℕ) → list_any is_lf (byte ∷ rest) ≡ false → cut_lines (byte ∷ rest) ≡ (byte ∷ rest) ∷ []
cut-last byte [] n = let p = or_parts (byte == 10) false n in rw p.0 refl
cut-last byte (next ∷ rest) n =
    let p = or_parts (byte == 10) (list_any is_lf (next ∷ rest)) n in
    rw p.0 (ap (join_first byte) (cut-last next rest p.1))

-- whole lines with one more
pub whole-line : (text line : List ℕ) → are_whole_lines text ≡ true → are_whole_lines (text ++ (line ++ 10 ∷ [])) ≡ true
whole-line [] [] w = refl
whole-line [] (byte ∷ []) w = refl
whole-line [] (byte ∷ next ∷ rest) w = whole-line [] (next ∷ rest) w
whole-line (byte ∷ []) [] w = refl
whole-line (byte ∷ []) (first ∷ rest) w = whole-line [] (first ∷ rest) refl
whole-line (byte ∷ next ∷ rest) line w = whole-line (next ∷ rest) line w

-- how many bytes lines have, each with its LF
abbrev pub extent : List (List ℕ) → ℕ
extent [] = 0
extent (line ∷ lines) = length line + 1 + extent lines

extent-join : (byte : ℕ) (lines : List (List ℕ)) (line : List ℕ) (later : List (List ℕ)) → lines ≡ line ∷ later → extent (join_first byte lines) ≡ extent lines + 1
extent-join byte lines line later is = rw is (omega arith)

pub extent-whole : (text : List ℕ) → are_whole_lines text ≡ true → extent (cut_lines text) ≡ length text
extent-whole [] w = refl
extent-whole (byte ∷ []) w = rw w refl
extent-whole (byte ∷ next ∷ rest) w = elim (cases_Bool (byte == 10)) [
  | inl same ↦ rw same (let later = extent-whole (next ∷ rest) w in omega (arith, later))
  | inr other ↦
      let some = cut-some next rest in
      let later = extent-whole (next ∷ rest) w in
      rw other (extent-join byte (cut_lines (next ∷ rest)) some.0 some.1 some.2 ∙ omega (arith, later))
]

pub placed-append : (start : ℕ) (lines more : List (List ℕ)) → lines_with_offsets start (lines ++ more) ≡ lines_with_offsets start lines ++ lines_with_offsets (start + extent lines) more
placed-append start [] more = ap (λ (n : ℕ). lines_with_offsets n more) (omega arith)
placed-append start (line ∷ lines) more =
    ap (λ (ls : List Line). record { start = start; text = without_cr line } ∷ ls) (placed-append (start + length line + 1) lines more
    ∙ ap (λ (n : ℕ). lines_with_offsets (start + length line + 1) lines ++ lines_with_offsets n more) (omega arith))

pub filter-append : {T : Type 0} (test : T → Bool) (xs ys : List T) → filter test (xs ++ ys) ≡ filter test xs ++ filter test ys
filter-append test [] ys = refl
filter-append test (x ∷ xs) ys = elim (cases_Bool (test x)) [
  | inl holds ↦ rw holds (ap (λ (l : List _). x ∷ l) (filter-append test xs ys))
  | inr fails ↦ rw fails (filter-append test xs ys)
]

-- the mark is in the first line
pub mark_size-whole : (text more : List ℕ) → are_whole_lines text ≡ true → (text ≡ [] → ⊥) → mark_size (text ++ more) ≡ mark_size text
mark_size-whole [] more w n = absurd (n refl)
mark_size-whole (a ∷ []) more w n = rw (eqb-true a 10 w) refl
mark_size-whole (a ∷ b ∷ []) more w n = rw (eqb-true b 10 w) refl
mark_size-whole (a ∷ b ∷ c ∷ rest) more w n = refl

mark_size-line : (line : List ℕ) → mark_size (line ++ 10 ∷ []) ≡ mark_size line
mark_size-line [] = refl
mark_size-line (a ∷ []) = refl
mark_size-line (a ∷ b ∷ []) = refl
mark_size-line (a ∷ b ∷ c ∷ rest) = refl

-- the mark is part of the log
three-le : (test : Bool) (n : ℕ) → cond (test && false) 3 0 ≤ n
three-le true n = omega arith
three-le false n = omega arith

three-le-three : (test : Bool) (n : ℕ) → 3 ≤ n → cond test 3 0 ≤ n
three-le-three true n h = h
three-le-three false n h = omega arith

two-le : (first second : Bool) (n : ℕ) → cond (first && (second && false)) 3 0 ≤ n
two-le true second n = three-le second n
two-le false second n = omega arith

pub mark_size-le : (log : List ℕ) → mark_size log ≤ length log
mark_size-le [] = omega arith
mark_size-le (a ∷ []) = three-le (239 == a) 1
mark_size-le (a ∷ b ∷ []) = two-le (239 == a) (187 == b) 2
mark_size-le (a ∷ b ∷ c ∷ rest) = three-le-three (starts_with ◌==◌ (a ∷ b ∷ c ∷ rest) byte_order_mark) (length (a ∷ b ∷ c ∷ rest)) (omega arith)

whole-rest : (byte : ℕ) (rest : List ℕ) → are_whole_lines (byte ∷ rest) ≡ true → are_whole_lines rest ≡ true
whole-rest byte [] w = refl
whole-rest byte (next ∷ rest) w = w

pub whole-drop : (n : ℕ) (text : List ℕ) → are_whole_lines text ≡ true → are_whole_lines (drop n text) ≡ true
whole-drop zero text w = w
whole-drop (suc n) [] w = refl
whole-drop (suc n) (byte ∷ rest) w = whole-drop n rest (whole-rest byte rest w)

pub no-lf-drop : (n : ℕ) (line : List ℕ) → list_any is_lf line ≡ false → list_any is_lf (drop n line) ≡ false
no-lf-drop zero line e = e
no-lf-drop (suc n) [] e = refl
no-lf-drop (suc n) (byte ∷ rest) e = no-lf-drop n rest (or_parts (byte == 10) (list_any is_lf rest) e).1

-- the lines after whole lines begin where these end
pub after-some : (text more : List ℕ) → are_whole_lines text ≡ true → (text ≡ [] → ⊥)
    → nonempty_lines (text ++ more) ≡ nonempty_lines text ++ filter is_nonempty_line (lines_with_offsets (length text) (cut_lines more))
unfolding nonempty_lines
after-some text more w n =
    let m : ℕ = mark_size text in
    let le : m ≤ length text = mark_size-le text in
    let w' : are_whole_lines (drop m text) ≡ true = whole-drop m text w in
    let cuts : cut_lines (drop m (text ++ more)) ≡ cut_lines (drop m text) ++ cut_lines more =
    ap cut_lines (drop-append-le m text more le) ∙ cut-whole (drop m text) more w' in
    let ends : m + extent (cut_lines (drop m text)) ≡ length text =
    omega (arith, extent-whole (drop m text) w', length-drop m text) in
    ap (λ (k : ℕ). filter is_nonempty_line (lines_with_offsets k (cut_lines (drop k (text ++ more))))) (mark_size-whole text more w n)
    ∙ ap (λ (ls : List (List ℕ)). filter is_nonempty_line (lines_with_offsets m ls)) cuts
    ∙ ap (filter is_nonempty_line) (placed-append m (cut_lines (drop m text)) (cut_lines more))
    ∙ filter-append is_nonempty_line (lines_with_offsets m (cut_lines (drop m text))) (lines_with_offsets (m + extent (cut_lines (drop m text))) (cut_lines more))
    ∙ ap (λ (k : ℕ). filter is_nonempty_line (lines_with_offsets m (cut_lines (drop m text))) ++ filter is_nonempty_line (lines_with_offsets k (cut_lines more))) ends

full-cut : (start : ℕ) (text line : List ℕ) → cut_lines text ≡ line ∷ [] → filter is_nonempty_line (lines_with_offsets start (cut_lines text)) ≡ filter is_nonempty_line (record { start = start; text = without_cr line } ∷ [])
full-cut start text line e = rw e refl

-- whole lines and then one more
pub full_lines-line : (text line : List ℕ) → are_whole_lines text ≡ true → list_any is_lf line ≡ false
    → nonempty_lines (text ++ (line ++ 10 ∷ [])) ≡ nonempty_lines text ++ filter is_nonempty_line (line_at (length text) line ∷ [])
unfolding nonempty_lines
full_lines-line [] line w e =
    let m : ℕ = mark_size line in
    ap (λ (k : ℕ). filter is_nonempty_line (lines_with_offsets k (cut_lines (drop k (line ++ 10 ∷ []))))) (mark_size-line line)
    ∙ ap (λ (t : List ℕ). filter is_nonempty_line (lines_with_offsets m (cut_lines t))) (drop-append-le m line (10 ∷ []) (mark_size-le line))
    ∙ ap (λ (ls : List (List ℕ)). filter is_nonempty_line (lines_with_offsets m ls)) (cut-line (drop m line) (no-lf-drop m line e))
full_lines-line (byte ∷ rest) line w e =
    after-some (byte ∷ rest) (line ++ 10 ∷ []) w (λ z. cc z)
    ∙ ap (λ (ls : List (List ℕ)). nonempty_lines (byte ∷ rest) ++ filter is_nonempty_line (lines_with_offsets (length (byte ∷ rest)) ls)) (cut-line line e)

last-full : (start : ℕ) (line : List ℕ) → list_any is_lf line ≡ false
    → filter is_nonempty_line (lines_with_offsets start (cut_lines line)) ≡ filter is_nonempty_line (record { start = start; text = without_cr line } ∷ [])
last-full start [] e = refl
last-full start (byte ∷ rest) e = ap (λ (ls : List (List ℕ)). filter is_nonempty_line (lines_with_offsets start ls)) (cut-last byte rest e)

-- whole lines and then a last one with no LF
pub full_lines-last : (text line : List ℕ) → are_whole_lines text ≡ true → list_any is_lf line ≡ false
    → nonempty_lines (text ++ line) ≡ nonempty_lines text ++ filter is_nonempty_line (line_at (length text) line ∷ [])
unfolding nonempty_lines
full_lines-last [] line w e = last-full (mark_size line) (drop (mark_size line) line) (no-lf-drop (mark_size line) line e)
full_lines-last (byte ∷ rest) line w e =
    after-some (byte ∷ rest) line w (λ z. cc z)
    ∙ ap (λ (ls : List Line). nonempty_lines (byte ∷ rest) ++ ls) (last-full (length (byte ∷ rest)) line e)

-- a front in which no byte is an LF
pub no-lf-take : (n : ℕ) (text : List ℕ) → ((k : ℕ) → k < n → k < length text → (get_or text k 0 == 10) ≡ true → ⊥) → list_any is_lf (take n text) ≡ false
no-lf-take zero text none = refl
no-lf-take (suc n) [] none = refl
no-lf-take (suc n) (byte ∷ rest) none =
    or_from (byte == 10) (list_any is_lf (take n rest)) (false_from_ne_true (byte == 10) (none 0 (omega arith) (omega arith)))
    (no-lf-take n rest (λ k h l. none (suc k) (omega (arith, h)) (omega (arith, l))))

-- a text around its first LF
pub around-lf : (at : ℕ) (text : List ℕ) → at < length text → (get_or text at 0 == 10) ≡ true
    → text ≡ take at text ++ 10 ∷ take (length text - (at + 1)) (drop (at + 1) text)
around-lf at text h lf =
    sym (take-append-drop at text)
    ∙ ap (λ (t : List ℕ). take at text ++ t) (drop_more text at 0 h ∙ ap (λ (b : ℕ). b ∷ drop (at + 1) text) (eqb-true (get_or text at 0) 10 lf)
    ∙ ap (λ (t : List ℕ). 10 ∷ t) (sym (take_rest text (at + 1))))
