-- A shell reads words back as they were typed.
use Rattle.std.proofs.Common.{◌≡◌, ℕ, true, false, List, [], ◌∷◌, ◌++◌, Some, None, refl, sym, ap, ◌∙◌, inl, inr, arith, append_assoc, append-nil, true≢false}
use Rattle.std.specs.Prelude.{◌==◌, All, codes}
use Rattle.std.specs.List.{flat_map, list_all}
use Rattle.std.proofs.lemmas.Bool.{and_parts, cases_Bool, cond-true, cond-false, eqb-true}
use Rattle.std.proofs.lemmas.List.Elements.{All-head, All-tail}
use Rattle.page_parts.specs.Laws.{HasByte}
use Rattle.page_parts.specs.Repeats.{typed_command}
use Rattle.page_parts.specs.ShellWords.{Outside, Within, ShellState, is_bare_byte, next_word, quoted, quoted_byte, shell_words, typed, words_from}

-- outside of quotes, within them, and behind a backslash, with this read of a word
abbrev outside : List ℕ → ShellState
outside word = record { place = Outside; word = Some word }

abbrev within : List ℕ → ShellState
within word = record { place = Within; word = Some word }

-- a byte that means itself is not one that means more
other-byte : (n byte : ℕ) → is_bare_byte n ≡ false → is_bare_byte byte ≡ true → (byte == n) ≡ false
other-byte n byte more bare = elim (cases_Bool (byte == n)) [
  | inl t ↦ absurd (true≢false (sym bare ∙ ap is_bare_byte (eqb-true byte n t) ∙ more))
  | inr f ↦ f
]

bare-byte : (word rest : List ℕ) (byte : ℕ) → is_bare_byte byte ≡ true → words_from (outside word) (byte ∷ rest) ≡ words_from (outside (word ++ byte ∷ [])) rest
bare-byte word rest byte bare =
    rw (other-byte 32 byte refl bare, other-byte 9 byte refl bare, other-byte 10 byte refl bare, other-byte 39 byte refl bare, other-byte 92 byte refl bare) refl

bare-word : (word more rest : List ℕ) → list_all is_bare_byte more ≡ true → words_from (outside word) (more ++ rest) ≡ words_from (outside (word ++ more)) rest
bare-word word [] rest all = ap (λ (w : List ℕ). words_from (outside w) rest) (sym (append-nil word))
bare-word word (byte ∷ more) rest all =
    let parts = and_parts (is_bare_byte byte) (list_all is_bare_byte more) all in
    bare-byte word (more ++ rest) byte parts.0
    ∙ bare-word (word ++ byte ∷ []) more rest parts.1
    ∙ ap (λ (w : List ℕ). words_from (outside w) rest) (append_assoc word (byte ∷ []) more)

quoted-one : (word rest : List ℕ) (byte : ℕ) → words_from (within word) (quoted_byte byte ++ rest) ≡ words_from (within (word ++ byte ∷ [])) rest
quoted-one word rest byte = elim (cases_Bool (byte == 39)) [
  | inl t ↦ rw (eqb-true byte 39 t) refl
  | inr f ↦ rw f (rw f refl)
]

quoted-word : (word more rest : List ℕ) → words_from (within word) (flat_map quoted_byte more ++ rest) ≡ words_from (within (word ++ more)) rest
quoted-word word [] rest = ap (λ (w : List ℕ). words_from (within w) rest) (sym (append-nil word))
quoted-word word (byte ∷ more) rest =
    ap (words_from (within word)) (append_assoc (quoted_byte byte) (flat_map quoted_byte more) rest)
    ∙ quoted-one word (flat_map quoted_byte more ++ rest) byte
    ∙ quoted-word (word ++ byte ∷ []) more rest
    ∙ ap (λ (w : List ℕ). words_from (within w) rest) (append_assoc word (byte ∷ []) more)

-- between words
abbrev between : ShellState
between = record { place = Outside; word = None }

quoted-read : (word rest : List ℕ) → words_from between (quoted word ++ rest) ≡ words_from (outside word) rest
quoted-read word rest =
    ap (λ (t : List ℕ). words_from (within []) t) (append_assoc (flat_map quoted_byte word) (39 ∷ []) rest)
    ∙ quoted-word [] word (39 ∷ rest)

bare-read : (word rest : List ℕ) → HasByte word → list_all is_bare_byte word ≡ true → words_from between (word ++ rest) ≡ words_from (outside word) rest
bare-read [] rest some all = absurd (omega arith)
bare-read (byte ∷ more) rest some all =
    let parts = and_parts (is_bare_byte byte) (list_all is_bare_byte more) all in
    between-byte ∙ bare-word (byte ∷ []) more rest parts.1
  where
    between-byte : words_from between (byte ∷ more ++ rest) ≡ words_from (outside (byte ∷ [])) (more ++ rest)
    between-byte =
        let bare = (and_parts (is_bare_byte byte) (list_all is_bare_byte more) all).0 in
        rw (other-byte 32 byte refl bare, other-byte 9 byte refl bare, other-byte 10 byte refl bare, other-byte 39 byte refl bare, other-byte 92 byte refl bare) refl

typed-read : (word rest : List ℕ) → HasByte word → words_from between (typed word ++ rest) ≡ words_from (outside word) rest
typed-read word rest some = elim (cases_Bool (list_all is_bare_byte word)) [
  | inl t ↦ ap (λ (w : List ℕ). words_from between (w ++ rest)) (cond-true (list_all is_bare_byte word) word (quoted word) t) ∙ bare-read word rest some t
  | inr f ↦ ap (λ (w : List ℕ). words_from between (w ++ rest)) (cond-false (list_all is_bare_byte word) word (quoted word) f) ∙ quoted-read word rest
]

words-read : (first : List ℕ) (words : List (List ℕ)) → All HasByte words → words_from (outside first) (flat_map next_word words) ≡ first ∷ words
words-read first [] all = refl
words-read first (word ∷ words) all =
    ap (λ (xs : List (List ℕ)). first ∷ xs) (typed-read word (flat_map next_word words) (All-head HasByte word words all) ∙ words-read word words (All-tail HasByte word words all))

pub command-read : (words : List (List ℕ)) → All HasByte words → shell_words (typed_command words) ≡ codes "desk" ∷ words
command-read words all = bare-read (codes "desk") (flat_map next_word words) (omega arith) refl ∙ words-read (codes "desk") words all
