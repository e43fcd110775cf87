-- The data fields, whose values are counted: each has a length field right before it.
use Rattle.std.specs.Prelude.{ℕ, Bool, false, ◌==◌, Option, Some, None, List, [], ◌∷◌}
use Rattle.std.specs.List.{find, list_any}
use Rattle.std.specs.Option.{option_map}

-- the tag of a length field, and the tag of the data field that it counts
abbrev pub data_field_pairs : List (ℕ × ℕ)
data_field_pairs =
    (90, 91) ∷ (93, 89) ∷ (95, 96) ∷ (212, 213) ∷ (348, 349) ∷ (350, 351) ∷ (352, 353)
    ∷ (354, 355) ∷ (356, 357) ∷ (358, 359) ∷ (360, 361) ∷ (362, 363) ∷ (364, 365)
    ∷ (445, 446) ∷ (618, 619) ∷ (621, 622) ∷ []

-- the length tag that is beside a data tag in the table; None of a tag that is no data tag
abbrev pub length_tag_of : ℕ → Option ℕ
length_tag_of data_tag = option_map (λ p. p.0) (find (λ p. p.1 == data_tag) data_field_pairs)

-- whether there is such a tag, and it is this one
abbrev pub is_tag : Option ℕ → ℕ → Bool
is_tag None tag = false
is_tag (Some t) tag = t == tag

-- whether the two tags are a pair of the table
abbrev pub is_data_field_pair : ℕ → ℕ → Bool
is_data_field_pair length_tag data_tag = is_tag (length_tag_of data_tag) length_tag

-- whether there is a pair with this length tag
abbrev pub is_length_tag : ℕ → Bool
is_length_tag tag = list_any (λ p. p.0 == tag) data_field_pairs
