-- Texts that are put behind one another.
use Rattle.std.proofs.Common.{◌≡◌, ◌∙◌, refl, sym, ap, ℕ, List, [], ◌∷◌, ◌++◌, length, arith, append_assoc}
use Rattle.std.proofs.lemmas.List.{append-nil}
use Rattle.std.specs.Prelude.{codes, Option, Some}
use Rattle.page_markup.specs.declared.words.Tag.TheVariants as tag
use Rattle.page_parts.specs.Elements.{element}
use Rattle.day_page.specs.PropertyWords.{broken_by_record}
use Rattle.day_page.specs.DayLines.{behind_line, behind_commas, field_at, first_line, is_newline, text_lines}
use Rattle.day_page.specs.Rows.{row_of_line, rows_of_text}
use Rattle.day_page.proofs.CutLemmas.{first-part}

-- three texts behind a row
pub three-behind : (row one two more a b c : List ℕ) → one ≡ row ++ a → two ≡ one ++ b → more ≡ two ++ c → more ≡ row ++ (a ++ b ++ c)
three-behind row one two more a b c p q r = r ∙ ap (λ (l : List ℕ). l ++ c) (q ∙ ap (λ (l : List ℕ). l ++ b) p) ∙ simp append_assoc

-- cells behind the heading of a row
pub cells-behind : (heading one two three more a b c : List ℕ) → one ≡ heading → two ≡ one ++ a → three ≡ two ++ b → more ≡ three ++ c → more ≡ heading ++ a ++ b ++ c
cells-behind heading one two three more a b c p q r s =
    s ∙ ap (λ (l : List ℕ). l ++ c) (r ∙ ap (λ (l : List ℕ). l ++ b) (q ∙ ap (λ (l : List ℕ). l ++ a) p))

-- a row behind others
pub row-behind : (rows row cells more : List ℕ) → row ≡ cells → more ≡ rows ++ element tag.Row [] row → more ≡ rows ++ element tag.Row [] cells
row-behind rows row cells more p q = q ∙ ap (λ (l : List ℕ). rows ++ element tag.Row [] l) p

-- what a record breaks, behind what is said first
pub broken-said : (word words : List ℕ) (said : Option (List ℕ)) (out one more : List ℕ) → Some words ≡ said → one ≡ out ++ codes "a record " → more ≡ one ++ words → more ≡ out ++ broken_by_record word said
broken-said word words said out one more e p q =
    q ∙ ap (λ (l : List ℕ). l ++ words) p ∙ append_assoc out (codes "a record ") words ∙ ap (λ (s : Option (List ℕ)). out ++ broken_by_record word s) e

-- a line with nothing in it gives no row
pub no-row : (asked : List ℕ) → row_of_line asked [] ≡ []
unfolding behind_commas field_at
no-row asked = refl

pub no-rows : (asked : List ℕ) → rows_of_text asked [] ≡ []
unfolding text_lines
no-rows asked = ap (λ (l : List ℕ). l ++ []) (no-row asked)

-- the rows of a text are that of its first line, and those of what is behind it
pub first-row : (asked text : List ℕ) → rows_of_text asked text ≡ row_of_line asked (first_line text) ++ rows_of_text asked (behind_line text)
unfolding behind_line first_line text_lines
first-row asked text = first-part (row_of_line asked) is_newline text (no-row asked)

-- one line more
pub one-row-more : (asked text rest left line rows more : List ℕ) → rows ++ rows_of_text asked rest ≡ rows_of_text asked text → line ≡ first_line rest → left ≡ behind_line rest → more ≡ rows ++ row_of_line asked line
    → more ++ rows_of_text asked left ≡ rows_of_text asked text
one-row-more asked text rest left line rows more so_far line_is left_is more_is =
    ap (λ (l : List ℕ). l ++ rows_of_text asked left) more_is ∙ ap (λ (l : List ℕ). (rows ++ row_of_line asked l) ++ rows_of_text asked left) line_is
    ∙ ap (λ (l : List ℕ). (rows ++ row_of_line asked (first_line rest)) ++ rows_of_text asked l) left_is ∙ append_assoc rows (row_of_line asked (first_line rest)) (rows_of_text asked (behind_line rest))
    ∙ ap (λ (l : List ℕ). rows ++ l) (sym (first-row asked rest)) ∙ so_far

-- no line is left
pub all-rows : (asked text rest rows : List ℕ) → rows ++ rows_of_text asked rest ≡ rows_of_text asked text → length rest ≡ 0 → rows ≡ rows_of_text asked text
all-rows asked text [] rows so_far none = sym (ap (λ (l : List ℕ). rows ++ l) (no-rows asked) ∙ append-nil rows) ∙ so_far
all-rows asked text (byte ∷ rest) rows so_far none = absurd (omega arith)
