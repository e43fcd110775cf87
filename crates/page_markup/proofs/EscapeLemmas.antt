-- What is written for a text has no byte of markup, and is read back.
use Rattle.std.proofs.Common.{◌≡◌, ◌≤◌, ℕ, zero, suc, ◌+◌, Bool, true, false, List, [], ◌∷◌, ◌++◌, length, length-append, refl, ap, ◌∙◌, arith}
use Rattle.std.specs.Prelude.{◌==◌, ◌&&◌, if◌then◌else◌}
use Rattle.std.specs.List.{list_all}
use Rattle.std.proofs.lemmas.Bool.{eqb-true}
use Rattle.std.proofs.lemmas.List.Folds.{list_all-append}
use Rattle.page_markup.specs.Escapes.{escape_of, escaped, is_byte_of_text, unescaped, unescaped_within}

-- what holds of one text where a test holds, and else of another, holds of what the test picks
pick : (P : List ℕ → Type 0) (test : Bool) (one other : List ℕ) → (test ≡ true → P one) → (test ≡ false → P other)
    → P (if test then one else other)
pick P true one other p q = p refl
pick P false one other p q = q refl

-- what holds of each entity, and of every byte for which none stands, holds of what is written for a byte
of-each : (P : ℕ → List ℕ → Type 0) → P 38 (escape_of 38) → P 60 (escape_of 60) → P 62 (escape_of 62)
    → P 34 (escape_of 34) → P 39 (escape_of 39)
    → ((byte : ℕ) → (byte == 38) ≡ false → (byte == 60) ≡ false → (byte == 62) ≡ false → (byte == 34) ≡ false
    → (byte == 39) ≡ false → P byte (byte ∷ []))
    → (byte : ℕ) → P byte (escape_of byte)
of-each P amp lt gt quote apos other byte =
    pick (P byte) (byte == 38) _ _ (λ e. rw (eqb-true byte 38 e) amp) (λ a.
    pick (P byte) (byte == 60) _ _ (λ e. rw (eqb-true byte 60 e) lt) (λ b.
    pick (P byte) (byte == 62) _ _ (λ e. rw (eqb-true byte 62 e) gt) (λ c.
    pick (P byte) (byte == 34) _ _ (λ e. rw (eqb-true byte 34 e) quote) (λ d.
    pick (P byte) (byte == 39) _ _ (λ e. rw (eqb-true byte 39 e) apos) (λ f.
    other byte a b c d f)))))

escape-plain : (byte : ℕ) → list_all is_byte_of_text (escape_of byte) ≡ true
escape-plain = of-each (λ byte text. list_all is_byte_of_text text ≡ true) refl refl refl refl refl
    (λ byte a b c d f. rw (b, c, d, f) refl)

pub escaped-plain : (text : List ℕ) → list_all is_byte_of_text (escaped text) ≡ true
escaped-plain [] = refl
escaped-plain (byte ∷ rest) =
    list_all-append is_byte_of_text (escape_of byte) (escaped rest)
    ∙ ap (λ (t : Bool). t && list_all is_byte_of_text (escaped rest)) (escape-plain byte)
    ∙ escaped-plain rest

-- what is written for a byte is read as that byte
read-escape : (n : ℕ) (more : List ℕ) (byte : ℕ) → unescaped_within (suc n) (escape_of byte ++ more) ≡ byte ∷ unescaped_within n more
read-escape n more = of-each (λ byte text. unescaped_within (suc n) (text ++ more) ≡ byte ∷ unescaped_within n more) refl refl refl refl refl
    (λ byte a b c d f. rw a refl)

nothing-read : (n : ℕ) → unescaped_within n [] ≡ []
nothing-read zero = refl
nothing-read (suc n) = refl

read-within : (n : ℕ) (text : List ℕ) → length text ≤ n → unescaped_within n (escaped text) ≡ text
read-within n [] few = nothing-read n
read-within zero (byte ∷ rest) few = absurd (omega arith)
read-within (suc n) (byte ∷ rest) few = read-escape n (escaped rest) byte ∙ ap (λ (t : List ℕ). byte ∷ t) (read-within n rest (omega (arith, few)))

-- nothing is written for no byte
one-written : (byte : ℕ) → 1 ≤ length (escape_of byte)
one-written = of-each (λ byte text. 1 ≤ length text) (omega arith) (omega arith) (omega arith) (omega arith) (omega arith) (λ byte a b c d f. omega arith)

as-many : (text : List ℕ) → length text ≤ length (escaped text)
as-many [] = omega arith
as-many (byte ∷ rest) =
    let one = one-written byte in
    let more = as-many rest in
    let both = length-append (escape_of byte) (escaped rest) in
    omega (arith, one, more, both)

pub read-back : (text : List ℕ) → unescaped (escaped text) ≡ text
read-back text = read-within (length (escaped text)) text (as-many text)
