-- The fields of a line, where no part has a comma.
use Rattle.std.proofs.Common.{◌≡◌, ◌∙◌, refl, ap, ℕ, zero, suc, ◌+◌, ◌&&◌, Bool, true, false, List, [], ◌∷◌, ◌++◌, cond, get_or, take, drop, arith}
use Rattle.std.specs.Prelude.{◌==◌, not, nat_le}
use Rattle.std.specs.List.{All, after_first, before_first, join_with_byte, list_all, position_or_len}
use Rattle.std.proofs.lemmas.Bool.{and_parts, eqb-true, leb-true}
use Rattle.std.proofs.lemmas.List.Elements.{All-head, All-tail}
use Rattle.audit_base.specs.Names.{is_comma, is_name_byte}
use Rattle.day_page.specs.DayLines.{behind_commas, field_at, is_newline}
use Rattle.day_page.proofs.CutLemmas.{no-commas}

-- Names and numbers have neither a comma nor an LF.

pub not-true : (test : Bool) → not test ≡ true → test ≡ false
not-true true h = cc
not-true false h = refl

pub other-byte : (byte other : ℕ) → (byte ≡ other → ⊥) → (byte == other) ≡ false
other-byte byte other apart = by_test (byte == other) refl
  where
    by_test : (t : Bool) → (byte == other) ≡ t → t ≡ false
    by_test true e = absurd (apart (eqb-true byte other e))
    by_test false e = refl

pub no-end : (byte : ℕ) → is_name_byte byte ≡ true → is_newline byte ≡ false
no-end byte h =
    let unquoted = and_parts (nat_le 32 byte && nat_le byte 126 && not (byte == 34)) (not (byte == 44)) h in
    let printed = and_parts (nat_le 32 byte && nat_le byte 126) (not (byte == 34)) unquoted.0 in
    let between = and_parts (nat_le 32 byte) (nat_le byte 126) printed.0 in
    let low = leb-true 32 byte between.0 in
    other-byte byte 10 (λ e. omega (arith, low, e))

pub no-comma : (byte : ℕ) → is_name_byte byte ≡ true → is_comma byte ≡ false
no-comma byte h = not-true (byte == 44) (and_parts (nat_le 32 byte && nat_le byte 126 && not (byte == 34)) (not (byte == 44)) h).1

-- Fields that have no comma.

one-more : (test : Bool) (n byte : ℕ) (text : List ℕ) → test ≡ false → take (cond (not test) (1 + n) 0) (byte ∷ text) ≡ byte ∷ take n text
one-more true n byte text e = absurd (cc)
one-more false n byte text e = let same : 1 + n ≡ suc n = omega arith in rw same refl

one-less : (test : Bool) (n byte : ℕ) (text : List ℕ) → test ≡ false → drop (cond (not test) (1 + n) 0 + 1) (byte ∷ text) ≡ drop (n + 1) text
one-less true n byte text e = absurd (cc)
one-less false n byte text e = let same : 1 + n + 1 ≡ suc (n + 1) = omega arith in rw same refl

pub before-comma : (field more : List ℕ) → list_all is_name_byte field ≡ true → before_first is_comma (field ++ 44 ∷ more) ≡ field
before-comma [] more h = refl
before-comma (byte ∷ field) more h =
    let parts = and_parts (is_name_byte byte) (list_all is_name_byte field) h in
    one-more (is_comma byte) (position_or_len is_comma (field ++ 44 ∷ more)) byte (field ++ 44 ∷ more) (no-comma byte parts.0)
    ∙ ap (λ (l : List ℕ). byte ∷ l) (before-comma field more parts.1)

pub behind-comma : (field more : List ℕ) → list_all is_name_byte field ≡ true → after_first is_comma (field ++ 44 ∷ more) ≡ more
behind-comma [] more h = refl
behind-comma (byte ∷ field) more h =
    let parts = and_parts (is_name_byte byte) (list_all is_name_byte field) h in
    one-less (is_comma byte) (position_or_len is_comma (field ++ 44 ∷ more)) byte (field ++ 44 ∷ more) (no-comma byte parts.0) ∙ behind-comma field more parts.1

none-behind : (field : List ℕ) → list_all is_name_byte field ≡ true → after_first is_comma field ≡ []
none-behind [] h = refl
none-behind (byte ∷ field) h =
    let parts = and_parts (is_name_byte byte) (list_all is_name_byte field) h in
    one-less (is_comma byte) (position_or_len is_comma field) byte field (no-comma byte parts.0) ∙ none-behind field parts.1

all-before : (field : List ℕ) → list_all is_name_byte field ≡ true → before_first is_comma field ≡ field
all-before [] h = refl
all-before (byte ∷ field) h =
    let parts = and_parts (is_name_byte byte) (list_all is_name_byte field) h in
    one-more (is_comma byte) (position_or_len is_comma field) byte field (no-comma byte parts.0) ∙ ap (λ (l : List ℕ). byte ∷ l) (all-before field parts.1)

-- Parts that commas join.

abbrev are_plain : List (List ℕ) → Type 0
are_plain parts = All (λ part. list_all is_name_byte part ≡ true) parts

first-of-parts : (parts : List (List ℕ)) → are_plain parts → before_first is_comma (join_with_byte 44 parts) ≡ get_or parts 0 []
first-of-parts [] are = refl
first-of-parts (part ∷ []) are = all-before part (All-head (λ p. list_all is_name_byte p ≡ true) part [] are)
first-of-parts (part ∷ next ∷ parts) are = before-comma part (join_with_byte 44 (next ∷ parts)) (All-head (λ p. list_all is_name_byte p ≡ true) part (next ∷ parts) are)

parts-behind-first : (part : List ℕ) (parts : List (List ℕ)) → are_plain (part ∷ parts) → after_first is_comma (join_with_byte 44 (part ∷ parts)) ≡ join_with_byte 44 parts
parts-behind-first part [] are = none-behind part (All-head (λ p. list_all is_name_byte p ≡ true) part [] are)
parts-behind-first part (next ∷ parts) are = behind-comma part (join_with_byte 44 (next ∷ parts)) (All-head (λ p. list_all is_name_byte p ≡ true) part (next ∷ parts) are)

-- the first comma may be passed first
behind-first : (n : ℕ) (line : List ℕ) → behind_commas (suc n) line ≡ behind_commas n (after_first is_comma line)
unfolding behind_commas
behind-first zero line = refl
behind-first (suc n) line = ap (after_first is_comma) (behind-first n line)

part-at : (n : ℕ) (parts : List (List ℕ)) → are_plain parts → before_first is_comma (behind_commas n (join_with_byte 44 parts)) ≡ get_or parts n []
part-at zero parts are = ap (before_first is_comma) (no-commas (join_with_byte 44 parts)) ∙ first-of-parts parts are
part-at (suc n) [] are = ap (before_first is_comma) (behind-first n []) ∙ part-at n [] are
part-at (suc n) (part ∷ parts) are =
    ap (before_first is_comma) (behind-first n (join_with_byte 44 (part ∷ parts)) ∙ ap (behind_commas n) (parts-behind-first part parts are))
    ∙ part-at n parts (All-tail (λ p. list_all is_name_byte p ≡ true) part parts are)

pub fields-are : (parts : List (List ℕ)) (n : ℕ) → are_plain parts → field_at n (join_with_byte 44 parts) ≡ get_or parts n []
unfolding field_at
fields-are parts n are = part-at n parts are
