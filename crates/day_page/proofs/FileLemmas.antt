-- The name of a symbol's page is read back as the symbol.
use Rattle.std.proofs.Common.{◌≡◌, ℕ, ◌<◌, ◌+◌, ◌*◌, ◌-◌, ◌/◌, ◌%◌, ◌&&◌, Bool, true, false, List, [], ◌∷◌, ◌++◌, drop, get_or, Option, Some, None, refl, sym, ap, ◌∙◌, arith}
use Rattle.std.specs.Prelude.{◌==◌, if◌then◌else◌, codes, nat_lt, nat_le, not, unwrap_or}
use Rattle.std.specs.List.{list_all}
use Rattle.std.proofs.lemmas.Bool.{agree_below_at, and_parts, eqb-true, leb-true}
use Rattle.std.proofs.lemmas.List.{append_cancel_right}
use Rattle.std.proofs.lemmas.Option.{none-some}
use Rattle.audit_base.specs.Names.{is_name_byte}
use Rattle.day_page.specs.FileNames.{file_byte, file_bytes, file_name, hex_digit, is_file_byte}

-- what holds of one text where a test holds, and else of another, holds of what the test picks
pick : (P : List ℕ → Type 0) (test : Bool) (one other : List ℕ) → (test ≡ true → P one) → (test ≡ false → P other)
    → P (if test then one else other)
pick P true one other p q = p refl
pick P false one other p q = q refl

-- the number of a hexadecimal digit, and of two
abbrev digit_value : ℕ → ℕ
digit_value digit = if nat_lt digit 58 then digit - 48 else digit - 55

abbrev two_digits_value : ℕ → ℕ → ℕ
two_digits_value high low = digit_value high * 16 + digit_value low

abbrev is_told : ℕ → Bool
is_told byte = two_digits_value (hex_digit (byte / 16)) (hex_digit (byte % 16)) == byte

digits-told : (byte : ℕ) → byte < 256 → two_digits_value (hex_digit (byte / 16)) (hex_digit (byte % 16)) ≡ byte
digits-told byte small =
    eqb-true (two_digits_value (hex_digit (byte / 16)) (hex_digit (byte % 16))) byte
    (agree_below_at is_told (λ (b : ℕ). true) 256 byte refl small)

-- the byte for which the front of a file name is written, and what follows
abbrev byte_read : List ℕ → Option (ℕ × List ℕ)
byte_read [] = None
byte_read (first ∷ rest) =
    if first == 37 then Some (two_digits_value (get_or rest 0 0) (get_or rest 1 0), drop 2 rest)
    else Some (first, rest)

-- no `%` stands as it is
bare-test : (is_first : Bool) → is_file_byte is_first 37 ≡ false
bare-test true = refl
bare-test false = refl

no-percent : (is_first : Bool) (byte : ℕ) (test : Bool) → (byte == 37) ≡ test → is_file_byte is_first byte ≡ true → test ≡ false
no-percent is_first byte false same e = refl
no-percent is_first byte true same e =
    sym e ∙ ap (is_file_byte is_first) (eqb-true byte 37 same) ∙ bare-test is_first

read-plain : (byte : ℕ) (more : List ℕ) → (byte == 37) ≡ false → byte_read (byte ∷ more) ≡ Some (byte, more)
read-plain byte more e = rw e refl

read-file : (is_first : Bool) (byte : ℕ) (more : List ℕ) → byte < 256 → byte_read (file_byte is_first byte ++ more) ≡ Some (byte, more)
read-file is_first byte more small =
    pick (λ text. byte_read (text ++ more) ≡ Some (byte, more)) (is_file_byte is_first byte) _ _
    (λ e. read-plain byte more (no-percent is_first byte (byte == 37) refl e))
    (λ e. ap (λ (n : ℕ). Some (n, more)) (digits-told byte small))

-- a byte and what was written for the symbol behind it
abbrev was_read : ℕ → List ℕ → Option (ℕ × List ℕ)
was_read byte text = Some (byte, file_bytes false text)

same-byte : (is_first : Bool) (x y : ℕ) (xs ys : List ℕ) → x < 256 → y < 256
    → file_bytes is_first (x ∷ xs) ≡ file_bytes is_first (y ∷ ys) → was_read x xs ≡ was_read y ys
same-byte is_first x y xs ys a b e =
    sym (read-file is_first x (file_bytes false xs) a) ∙ ap byte_read e ∙ read-file is_first y (file_bytes false ys) b

nothing-read : (is_first : Bool) (y : ℕ) (ys : List ℕ) → y < 256 → [] ≡ file_bytes is_first (y ∷ ys) → ⊥
nothing-read is_first y ys small e =
    let read : None ≡ was_read y ys = ap byte_read e ∙ read-file is_first y (file_bytes false ys) small in
    none-some (y, file_bytes false ys) read

small-byte : (b : ℕ) → is_name_byte b ≡ true → b < 256
small-byte b h =
    let unquoted = and_parts (nat_le 32 b && nat_le b 126 && not (b == 34)) (not (b == 44)) h in
    let printed = and_parts (nat_le 32 b && nat_le b 126) (not (b == 34)) unquoted.0 in
    let between = and_parts (nat_le 32 b) (nat_le b 126) printed.0 in
    omega (arith, leb-true b 126 between.1)

bytes-back : (is_first : Bool) (xs ys : List ℕ) → list_all is_name_byte xs ≡ true → list_all is_name_byte ys ≡ true
    → file_bytes is_first xs ≡ file_bytes is_first ys → xs ≡ ys
bytes-back is_first [] [] p q e = refl
bytes-back is_first [] (y ∷ ys) p q e = absurd (nothing-read is_first y ys (small-byte y (and_parts (is_name_byte y) (list_all is_name_byte ys) q).0) e)
bytes-back is_first (x ∷ xs) [] p q e = absurd (nothing-read is_first x xs (small-byte x (and_parts (is_name_byte x) (list_all is_name_byte xs) p).0) (sym e))
bytes-back is_first (x ∷ xs) (y ∷ ys) p q e =
    let one = and_parts (is_name_byte x) (list_all is_name_byte xs) p in
    let two = and_parts (is_name_byte y) (list_all is_name_byte ys) q in
    let both = same-byte is_first x y xs ys (small-byte x one.0) (small-byte y two.0) e in
    let first : x ≡ y = ap (λ (o : Option (ℕ × List ℕ)). (unwrap_or o (0, [])).0) both in
    let rest : file_bytes false xs ≡ file_bytes false ys = ap (λ (o : Option (ℕ × List ℕ)). (unwrap_or o (0, [])).1) both in
    rw (first, bytes-back false xs ys one.1 two.1 rest) refl

pub own-names : (symbol other : List ℕ) → list_all is_name_byte symbol ≡ true → list_all is_name_byte other ≡ true
    → file_name symbol ≡ file_name other → symbol ≡ other
own-names symbol other p q e =
    bytes-back true symbol other p q (append_cancel_right (file_bytes true symbol) (file_bytes true other) (codes ".html") e)
