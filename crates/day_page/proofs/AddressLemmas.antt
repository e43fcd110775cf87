-- The address of a link is read back as the name of the file.
use Rattle.std.proofs.Common.{◌≡◌, ◌∙◌, refl, sym, ap, ℕ, Bool, true, false, List, [], ◌∷◌, ◌++◌}
use Rattle.std.specs.Prelude.{◌==◌, codes, if◌then◌else◌}
use Rattle.std.specs.List.{flat_map}
use Rattle.std.proofs.lemmas.Bool.{eqb-true}
use Rattle.day_page.specs.Addresses.{without_escapes}
use Rattle.day_page.specs.FileNames.{address_byte, file_name, page_address}

-- a byte that is no `%` begins no escape
plain-undone : (byte : ℕ) (more : List ℕ) → (byte == 37) ≡ false
    → without_escapes (byte ∷ more) ≡ byte ∷ without_escapes more
plain-undone byte more e = rw e refl

-- what is written for a byte is read back as the byte
byte-undone : (byte : ℕ) (test : Bool) → (byte == 37) ≡ test → (more : List ℕ)
    → without_escapes ((if test then codes "%25" else byte ∷ []) ++ more) ≡ byte ∷ without_escapes more
byte-undone byte true e more = ap (λ (b : ℕ). b ∷ without_escapes more) (sym (eqb-true byte 37 e))
byte-undone byte false e more = plain-undone byte more e

name-undone : (name : List ℕ) → without_escapes (flat_map address_byte name) ≡ name
name-undone [] = refl
name-undone (byte ∷ rest) = byte-undone byte (byte == 37) refl (flat_map address_byte rest)
    ∙ ap (λ (l : List ℕ). byte ∷ l) (name-undone rest)

pub leads-back : (symbol : List ℕ) → without_escapes (page_address symbol) ≡ file_name symbol
leads-back symbol = name-undone (file_name symbol)
