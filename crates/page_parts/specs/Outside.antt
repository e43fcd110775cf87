-- What a style may name outside of the page. The codes of `\`, and of the bytes from 65 to 90, are
-- 92 and those of the capital letters.
use Rattle.std.specs.Prelude.{ℕ, Bool, false, ◌==◌, ◌||◌, List, [], ◌∷◌, codes, map}
use Rattle.std.specs.Char.{to_ascii_lowercase}
use Rattle.std.specs.List.{list_any, starts_with}

-- the text has these words somewhere
abbrev pub has_words : List ℕ → List ℕ → Bool
has_words words [] = false
has_words words (byte ∷ rest) = starts_with ◌==◌ (byte ∷ rest) words || has_words words rest

-- a byte behind which CSS writes a byte by its number
abbrev pub is_backslash : ℕ → Bool
is_backslash byte = byte == 92

-- the style, in small letters, names something outside of the page: by `url(`, by `@import`, or by
-- letters that are written as numbers (CSS Syntax Module Level 3; whatever else names something
-- there has a text between quotes)
abbrev pub small_names_outside : List ℕ → Bool
small_names_outside style = has_words (codes "url(") style || has_words (codes "@import") style
    || list_any is_backslash style

-- the same, in letters of either case
abbrev pub names_outside : List ℕ → Bool
names_outside style = small_names_outside (map to_ascii_lowercase style)
