-- Headers: what a message begins with, from `8=` to `9=`. Source: FIX 4.4, BeginString (8) and
-- BodyLength (9); each version of FIX has a BeginString of its own.
use Rattle.std.specs.Prelude.{ℕ, ◌<◌, Bool, not, ◌==◌, ◌&&◌, ◌||◌, nat_eq, nat_lt, nat_le, max, List, [], ◌∷◌, ◌++◌, length, codes, IsTrue, if◌then◌else◌}
use Rattle.std.specs.List.{list_all, starts_with}
use Rattle.audit_base.specs.Sizes.{soh}

-- `8=FIX.4.4`, SOH, `9=`: what every message of FIX 4.4 begins with
unfoldable pub header : List ℕ
header = codes "8=FIX.4.4" ++ soh ∷ codes "9="

-- the headers of a log of FIX 4.4: this one
abbrev pub fix44 : List (List ℕ)
fix44 = header ∷ []

-- `8=`, the name of a version, SOH, `9=`
abbrev pub header_of_version : List ℕ → List ℕ
header_of_version name = codes "8=" ++ name ++ soh ∷ codes "9="

-- the headers of a log whose messages are of FIX 4.0 to 4.4 or of FIXT 1.1, each of its own version
unfoldable pub any_version : List (List ℕ)
any_version =
    header_of_version (codes "FIX.4.0") ∷ header_of_version (codes "FIX.4.1")
    ∷ header_of_version (codes "FIX.4.2") ∷ header_of_version (codes "FIX.4.3")
    ∷ header_of_version (codes "FIX.4.4") ∷ header_of_version (codes "FIXT.1.1") ∷ []

-- from 1 to 13 bytes
abbrev pub is_header_size : List ℕ → Bool
is_header_size head = nat_le 1 (length head) && nat_le (length head) 13

-- one is no prefix of the other, unless both are equally long and so the same
abbrev pub are_apart : List ℕ → List ℕ → Bool
are_apart head other = not (starts_with nat_eq other head) || length head == length other

-- What messages begin with: one or more, each of 1 to 13 bytes, and none is a prefix of another
pub record AreHeaders (headers : List (List ℕ)) : Type 0 where
  pub some : 0 < length headers
  pub sized : IsTrue (list_all is_header_size headers)
  pub apart : IsTrue (list_all (λ head. list_all (are_apart head) headers) headers)

-- the first of the headers that is a prefix of the text, or no bytes where none is
abbrev pub header_of : List (List ℕ) → List ℕ → List ℕ
header_of [] text = []
header_of (head ∷ more) text = if starts_with nat_eq text head then head else header_of more text

-- the number of bytes of the header that the text begins with
unfoldable pub header_size : List (List ℕ) → List ℕ → ℕ
header_size headers text = length (header_of headers text)

-- the number of bytes of the longest header
abbrev pub longest_header : List (List ℕ) → ℕ
longest_header [] = 0
longest_header (head ∷ more) = max (length head) (longest_header more)

-- the header is a prefix of the text, or the text is a prefix of the header
abbrev pub may_begin : List ℕ → List ℕ → Bool
may_begin text head = starts_with nat_eq text head || starts_with nat_eq head text

-- the text is a proper prefix of the header
abbrev pub is_cut_header : List ℕ → List ℕ → Bool
is_cut_header text head = starts_with nat_eq head text && nat_lt (length text) (length head)
