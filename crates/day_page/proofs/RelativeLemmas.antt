-- The address of the page of a symbol names a file beside the page.
use Rattle.std.proofs.Common.{◌≡◌, ℕ, Bool, true, List, [], ◌∷◌, ◌++◌, refl, ap, ◌∙◌, inl, inr}
use Rattle.std.specs.Prelude.{◌==◌, ◌&&◌, IsTrue, codes}
use Rattle.std.specs.List.{flat_map}
use Rattle.std.proofs.lemmas.Bool.{and_parts, cases_Bool, cond-true, cond-false}
use Rattle.std.proofs.lemmas.List.Folds.{list_all-append}
use Rattle.page_markup.specs.Addresses.{is_relative, is_relative_byte}
use Rattle.day_page.specs.FileNames.{address_byte}

joined : (one other : List ℕ) → IsTrue (is_relative one) → IsTrue (is_relative other) → IsTrue (is_relative (one ++ other))
joined one other a b = list_all-append is_relative_byte one other ∙ ap (λ (t : Bool). t && is_relative other) a ∙ b

address-byte-relative : (byte : ℕ) → is_relative_byte byte ≡ true → IsTrue (is_relative (address_byte byte))
address-byte-relative byte is = elim (cases_Bool (byte == 37)) [
  | inl t ↦ rw (cond-true (byte == 37) (codes "%25") (byte ∷ []) t) refl
  | inr f ↦ rw (cond-false (byte == 37) (codes "%25") (byte ∷ []) f) (rw is refl)
]

pub address-relative : (name : List ℕ) → IsTrue (is_relative name) → IsTrue (is_relative (flat_map address_byte name))
address-relative [] is = refl
address-relative (byte ∷ rest) is =
    let parts = and_parts (is_relative_byte byte) (is_relative rest) is in
    joined (address_byte byte) (flat_map address_byte rest) (address-byte-relative byte parts.0) (address-relative rest parts.1)
