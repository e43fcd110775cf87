-- Lines of printable bytes without quotes: no mark, no CR and no LF is in them, and they aren't broken.
use Rattle.std.proofs.Common.{◌≡◌, ℕ, zero, suc, Bool, true, false, not, ◌-◌, ◌≤◌, ◌==◌, List, [], ◌∷◌, ◌++◌, length, take, drop, refl, ap, ◌∙◌, arith}
use Rattle.std.specs.Prelude.{count_by}
use Rattle.std.specs.List.{list_all, list_any, starts_with, ends_with}
use Rattle.std.proofs.lemmas.Bool.{and_parts, and_from, or_from, or_parts, both_ways, not-true, leb-true, ne_eqb, false_from_ne_true}
use Rattle.csv.specs.Reading.{is_bom, strip_bom}
use Rattle.csv_logs.specs.Columns.{is_printable, is_quote, has_bad_byte_or_open_quote, is_unquoted_byte}
use Rattle.csv_logs.specs.Lines.{Line, byte_order_mark, mark_size, without_cr}
use Rattle.csv_logs.specs.Steps.{line_at}
use Rattle.csv_logs.specs.Feeds.{is_lf}
use Rattle.csv_logs.specs.Readers.{is_plain_byte}
use Rattle.csv_logs.proofs.FieldLemmas.{bytes-same}

unquoted-printable : (line : List ℕ) → list_all is_unquoted_byte line ≡ true → list_all is_printable line ≡ true
unquoted-printable [] unquoted = refl
unquoted-printable (byte ∷ rest) unquoted =
    let p = and_parts (is_unquoted_byte byte) (list_all is_unquoted_byte rest) unquoted in
    and_from (is_printable byte) (list_all is_printable rest) (and_parts (is_printable byte) (not (is_quote byte)) p.0).0 (unquoted-printable rest p.1)

unquoted-quotes : (line : List ℕ) → list_all is_unquoted_byte line ≡ true → count_by is_quote line ≡ 0
unquoted-quotes [] unquoted = refl
unquoted-quotes (byte ∷ rest) unquoted =
    let p = and_parts (is_unquoted_byte byte) (list_all is_unquoted_byte rest) unquoted in
    let none = not-true (is_quote byte) (and_parts (is_printable byte) (not (is_quote byte)) p.0).1 in
    rw (none, unquoted-quotes rest p.1) refl

pub unquoted-unbroken : (line : List ℕ) → list_all is_unquoted_byte line ≡ true → has_bad_byte_or_open_quote line ≡ false
unquoted-unbroken line unquoted = rw (unquoted-printable line unquoted, unquoted-quotes line unquoted) refl

pub unquoted-low : (byte : ℕ) → is_unquoted_byte byte ≡ true → 32 ≤ byte
unquoted-low byte unquoted = leb-true 32 byte (and_parts _ _ (and_parts (is_printable byte) (not (is_quote byte)) unquoted).0).0

pub unquoted-no_lf : (line : List ℕ) → list_all is_unquoted_byte line ≡ true → list_any is_lf line ≡ false
unquoted-no_lf [] unquoted = refl
unquoted-no_lf (byte ∷ rest) unquoted =
    let p = and_parts (is_unquoted_byte byte) (list_all is_unquoted_byte rest) unquoted in
    let low = unquoted-low byte p.0 in
    or_from (is_lf byte) (list_any is_lf rest) (ne_eqb byte 10 (λ e. omega (arith, e, low))) (unquoted-no_lf rest p.1)

pub unquoted-take : (n : ℕ) (line : List ℕ) → list_all is_unquoted_byte line ≡ true → list_all is_unquoted_byte (take n line) ≡ true
unquoted-take zero line unquoted = refl
unquoted-take (suc n) [] unquoted = refl
unquoted-take (suc n) (byte ∷ rest) unquoted =
    let p = and_parts (is_unquoted_byte byte) (list_all is_unquoted_byte rest) unquoted in
    and_from (is_unquoted_byte byte) (list_all is_unquoted_byte (take n rest)) p.0 (unquoted-take n rest p.1)

pub unquoted-drop : (n : ℕ) (line : List ℕ) → list_all is_unquoted_byte line ≡ true → list_all is_unquoted_byte (drop n line) ≡ true
unquoted-drop zero line unquoted = unquoted
unquoted-drop (suc n) [] unquoted = refl
unquoted-drop (suc n) (byte ∷ rest) unquoted = unquoted-drop n rest (and_parts (is_unquoted_byte byte) (list_all is_unquoted_byte rest) unquoted).1

no-mark : (line : List ℕ) → list_all is_unquoted_byte line ≡ true → starts_with ◌==◌ line byte_order_mark ≡ false
no-mark line unquoted = false_from_ne_true (starts_with ◌==◌ line byte_order_mark) (λ is.
    let same = bytes-same byte_order_mark (take 3 line) is in
    both_ways (list_all is_unquoted_byte byte_order_mark) refl (ap (list_all is_unquoted_byte) same ∙ unquoted-take 3 line unquoted))

pub unquoted-mark : (line : List ℕ) → list_all is_unquoted_byte line ≡ true → mark_size line ≡ 0
unquoted-mark line unquoted = rw (no-mark line unquoted) refl

no-cr : (line : List ℕ) → list_all is_unquoted_byte line ≡ true → ends_with ◌==◌ line (13 ∷ []) ≡ false
no-cr line unquoted = false_from_ne_true (ends_with ◌==◌ line (13 ∷ [])) (λ is.
    let same = bytes-same (13 ∷ []) (drop (length line - 1) line) is in
    both_ways (list_all is_unquoted_byte (13 ∷ [])) refl (ap (list_all is_unquoted_byte) same ∙ unquoted-drop (length line - 1) line unquoted))

pub unquoted-cr : (line : List ℕ) → list_all is_unquoted_byte line ≡ true → without_cr line ≡ line
unquoted-cr line unquoted = rw (no-cr line unquoted) refl

-- an unquoted line stays as it is
pub unquoted-line_at : (start : ℕ) (line : List ℕ) → list_all is_unquoted_byte line ≡ true → line_at start line ≡ record { start = start; text = line }
unquoted-line_at zero line unquoted =
    ap (λ (m : ℕ). let l : Line = record { start = m; text = without_cr (drop m line) } in l) (unquoted-mark line unquoted)
    ∙ ap (λ (t : List ℕ). let l : Line = record { start = 0; text = t } in l) (unquoted-cr line unquoted)
unquoted-line_at (suc start) line unquoted = ap (λ (t : List ℕ). let l : Line = record { start = suc start; text = t } in l) (unquoted-cr line unquoted)

-- `csv` finds no mark at the start of a printable line
not-bom : (byte next third : ℕ) → is_printable byte ≡ true → is_bom byte next third ≡ false
not-bom byte next third printable =
    let high : byte ≤ 126 = leb-true byte 126 (and_parts _ _ printable).1 in
    let other : (byte == 0xEF) ≡ false = ne_eqb byte 0xEF (λ e. omega (arith, e, high)) in
    rw other refl

pub printable-bom_before : (line : List ℕ) (end : ℕ) (tail : List ℕ) → list_all is_printable line ≡ true → (end == 0xEF) ≡ false → strip_bom (line ++ end ∷ tail) ≡ line ++ end ∷ tail
unfolding strip_bom
printable-bom_before [] end [] printable other = refl
printable-bom_before [] end (a ∷ []) printable other = refl
printable-bom_before [] end (a ∷ b ∷ tail) printable other = rw other refl
printable-bom_before (a ∷ []) end [] printable other = refl
printable-bom_before (a ∷ []) end (b ∷ tail) printable other = let p = and_parts (is_printable a) true printable in rw (not-bom a end b p.0) refl
printable-bom_before (a ∷ b ∷ []) end tail printable other = let p = and_parts (is_printable a) (list_all is_printable (b ∷ [])) printable in rw (not-bom a b end p.0) refl
printable-bom_before (a ∷ b ∷ c ∷ rest) end tail printable other = let p = and_parts (is_printable a) (list_all is_printable (b ∷ c ∷ rest)) printable in rw (not-bom a b c p.0) refl

pub printable-bom : (line tail : List ℕ) → list_all is_printable line ≡ true → strip_bom (line ++ 10 ∷ tail) ≡ line ++ 10 ∷ tail
printable-bom line tail printable = printable-bom_before line 10 tail printable refl

pub unquoted-bom : (line tail : List ℕ) → list_all is_unquoted_byte line ≡ true → strip_bom (line ++ 10 ∷ tail) ≡ line ++ 10 ∷ tail
unquoted-bom line tail unquoted = printable-bom line tail (unquoted-printable line unquoted)

-- Texts of such lines and LFs.

pub plain-parts : (n : ℕ) (text : List ℕ) → list_all is_plain_byte (take n text) ≡ true → list_all is_plain_byte (drop n text) ≡ true → list_all is_plain_byte text ≡ true
plain-parts zero text front rest = rest
plain-parts (suc n) [] front rest = refl
plain-parts (suc n) (byte ∷ text) front rest =
    let p = and_parts (is_plain_byte byte) (list_all is_plain_byte (take n text)) front in
    and_from (is_plain_byte byte) (list_all is_plain_byte text) p.0 (plain-parts n text p.1 rest)

plain-unquoted : (byte : ℕ) → is_plain_byte byte ≡ true → is_lf byte ≡ false → is_unquoted_byte byte ≡ true
plain-unquoted byte plain other = go (is_unquoted_byte byte) refl
  where
    go : (b : Bool) → is_unquoted_byte byte ≡ b → is_unquoted_byte byte ≡ true
    go true on = on
    go false off = absurd (both_ways (is_plain_byte byte) (or_from (is_unquoted_byte byte) (is_lf byte) off other) plain)

-- a line of a plain text is unquoted, and what follows it is plain
pub plain-line : (line later : List ℕ) → list_all is_plain_byte (line ++ 10 ∷ later) ≡ true → list_any is_lf line ≡ false
    → (list_all is_unquoted_byte line ≡ true) × (list_all is_plain_byte later ≡ true)
plain-line [] later plain none = (refl, plain)
plain-line (byte ∷ line) later plain none =
    let p = and_parts (is_plain_byte byte) (list_all is_plain_byte (line ++ 10 ∷ later)) plain in
    let q = or_parts (is_lf byte) (list_any is_lf line) none in
    let rest = plain-line line later p.1 q.1 in
    (and_from (is_unquoted_byte byte) (list_all is_unquoted_byte line) (plain-unquoted byte p.0 q.0) rest.0, rest.1)

pub unquoted-without_cr : (line : List ℕ) → list_all is_unquoted_byte line ≡ true → list_all is_unquoted_byte (without_cr line) ≡ true
unquoted-without_cr line unquoted = rw (no-cr line unquoted) unquoted
