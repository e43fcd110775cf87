-- How words are typed into a shell, and which words a shell reads (POSIX Shell Command Language,
-- Quoting). The codes of a tab, LF, a space, `'` and `\` are 9, 10, 32, 39 and 92.
use Rattle.std.specs.Prelude.{ℕ, Bool, ◌==◌, ◌||◌, List, [], ◌∷◌, ◌++◌, Option, None, Some, codes, unwrap_or, if◌then◌else◌}
use Rattle.std.specs.List.{flat_map, list_all}
use Rattle.std.specs.Char.{is_ascii_alphanumeric}

-- one of `_` `.` `/`, and one of `-` `@` `,`
abbrev pub is_path_byte : ℕ → Bool
is_path_byte byte = (byte == 95) || (byte == 46) || (byte == 47)

abbrev pub is_sign_byte : ℕ → Bool
is_sign_byte byte = (byte == 45) || (byte == 64) || (byte == 44)

-- the byte means itself to a shell: a letter, a digit, or one of these
abbrev pub is_bare_byte : ℕ → Bool
is_bare_byte byte = is_ascii_alphanumeric byte || is_path_byte byte || is_sign_byte byte

-- a byte between quotes: a quote ends them, stands for itself behind `\`, and begins them again
abbrev pub quoted_byte : ℕ → List ℕ
quoted_byte byte = if byte == 39 then codes "'\\''" else byte ∷ []

-- a word between quotes
abbrev pub quoted : List ℕ → List ℕ
quoted word = 39 ∷ flat_map quoted_byte word ++ 39 ∷ []

-- a word as it is typed: as it is, or between quotes where a byte of it means more than itself
abbrev pub typed : List ℕ → List ℕ
typed word = if list_all is_bare_byte word then word else quoted word

-- a further word of a command
abbrev pub next_word : List ℕ → List ℕ
next_word word = 32 ∷ typed word

-- where a shell is in a text: outside of quotes, within them, or behind a `\` outside of them
pub data ShellPlace : Type 0 where
  Outside : ShellPlace
  Within : ShellPlace
  Behind : ShellPlace

-- Where a shell is, and what it has read of a word; nothing between words.
pub record ShellState : Type 0 where
  pub place : ShellPlace
  pub word : Option (List ℕ)

-- a blank parts words outside of quotes
abbrev pub is_blank : ℕ → Bool
is_blank byte = (byte == 32) || (byte == 9) || (byte == 10)

-- what was read of a word, and a byte that stands for itself behind it
abbrev pub begun : Option (List ℕ) → List ℕ
begun word = unwrap_or word []

abbrev pub with_byte : Option (List ℕ) → ℕ → Option (List ℕ)
with_byte word byte = Some (begun word ++ byte ∷ [])

-- what a byte means outside of quotes, and within them
abbrev pub behind_outside : Option (List ℕ) → ℕ → ShellState
behind_outside word byte = if is_blank byte then record { place = Outside; word = None }
    else (if byte == 39 then record { place = Within; word = Some (begun word) }
    else (if byte == 92 then record { place = Behind; word = Some (begun word) }
    else record { place = Outside; word = with_byte word byte }))

abbrev pub behind_within : Option (List ℕ) → ℕ → ShellState
behind_within word byte = if byte == 39 then record { place = Outside; word = word }
    else record { place = Within; word = with_byte word byte }

-- the state behind a byte
abbrev pub state_behind : ShellPlace → Option (List ℕ) → ℕ → ShellState
state_behind Outside word byte = behind_outside word byte
state_behind Within word byte = behind_within word byte
state_behind Behind word byte = record { place = Outside; word = with_byte word byte }

-- the word that is read, if one is
abbrev pub word_read : Option (List ℕ) → List (List ℕ)
word_read None = []
word_read (Some word) = word ∷ []

-- the word that a byte ends: one before a blank outside of quotes
abbrev pub word_ended : ShellPlace → Option (List ℕ) → ℕ → List (List ℕ)
word_ended Outside word byte = if is_blank byte then word_read word else []
word_ended Within word byte = []
word_ended Behind word byte = []

-- the words that a shell reads from such a state on
abbrev pub words_from : ShellState → List ℕ → List (List ℕ)
words_from state [] = word_read state.word
words_from state (byte ∷ rest) = word_ended state.place state.word byte
    ++ words_from (state_behind state.place state.word byte) rest

-- the words that a shell reads of a text
abbrev pub shell_words : List ℕ → List (List ℕ)
shell_words text = words_from (record { place = Outside; word = None }) text
