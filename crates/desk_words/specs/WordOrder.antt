-- The form `COMMAND OPTIONS -- WORDS`, which is read as `COMMAND WORDS OPTIONS`, and in which SYMBOL
-- may begin with `-`.
use Rattle.std.specs.Prelude.{◌≡◌, ◌==◌, ◌&&◌, not, ◌+◌, ◌-◌, ℕ, Bool, false, Option, None, Some, is_some, List, All, ◌++◌, length, nat_le, take, drop, codes, if◌then◌else◌}
use Rattle.std.specs.List.{position_or_len}
use Rattle.audit_base.specs.Least.{only_if}
use Rattle.audit_base.specs.Names.{name_form}
use Rattle.command_words.specs.WordForms.{is_path, nth_word, symbol_named, word_equals}

-- the word that stands between the options and the words
abbrev pub is_mark : List ℕ → Bool
is_mark word = word_equals word (codes "--")

-- the index of the first `--` behind the command, or how many words there are
abbrev pub mark_index : List (List ℕ) → ℕ
mark_index words = 1 + position_or_len is_mark (drop 1 words)

-- the index of `--`, where words have that form with so many WORDS: right behind the command stands
-- an option, or `--`, and neither a rule nor a path, and behind `--` stand exactly the WORDS
abbrev pub marked_at : ℕ → List (List ℕ) → Option ℕ
marked_at count words =
    only_if (nat_le 2 (length words) && not (is_path (nth_word words 1))
    && (mark_index words + 1 + count == length words)) (mark_index words)

-- the command, the words behind `--`, and the options before it
abbrev pub in_order : Option ℕ → List (List ℕ) → List (List ℕ)
in_order None words = words
in_order (Some mark) words =
    take 1 words ++ drop (mark + 1) words ++ take (mark - 1) (drop 1 words)

-- words that have the form are put in order, and all others stay
abbrev pub plain_order : ℕ → List (List ℕ) → List (List ℕ)
plain_order count words = in_order (marked_at count words) words

-- SYMBOL, which may begin with `-` behind `--` alone
abbrev pub symbol_behind : Option ℕ → List ℕ → Option (List ℕ)
symbol_behind None word = symbol_named word
symbol_behind (Some mark) word = name_form word

-- words without `--` stay as they are, and no SYMBOL of theirs begins with `-`
abbrev pub UnmarkedWordsStay : Type 0
UnmarkedWordsStay = (count : ℕ) (words : List (List ℕ)) → All (λ word. is_mark word ≡ false) words
    → (plain_order count words ≡ words) × (marked_at count words ≡ None)
