-- Text in markup: each byte that has a meaning in markup is written as an entity.
use Rattle.std.specs.Prelude.{ℕ, zero, suc, Bool, not, nat_eq, ◌==◌, ◌&&◌, List, [], ◌∷◌, length, drop, codes, if◌then◌else◌}
use Rattle.std.specs.List.{flat_map, starts_with}

-- what is written for a byte: the entity of `&` (38), `<` (60), `>` (62), `"` (34) or `'` (39), and
-- else the byte
abbrev pub escape_of : ℕ → List ℕ
escape_of byte =
    if byte == 38 then codes "&amp;"
    else (if byte == 60 then codes "&lt;"
    else (if byte == 62 then codes "&gt;"
    else (if byte == 34 then codes "&quot;"
    else (if byte == 39 then codes "&#39;"
    else byte ∷ []))))

-- what is written for a text
abbrev pub escaped : List ℕ → List ℕ
escaped text = flat_map escape_of text

-- the byte begins no element, ends none, and ends no value of an attribute
abbrev pub is_byte_of_text : ℕ → Bool
is_byte_of_text byte =
    not (byte == 60) && not (byte == 62) && not (byte == 34) && not (byte == 39)

-- the byte for which an entity behind `&` stands, and what follows it; a `&` without one stands for
-- itself (HTML Living Standard, 13.2.5.72, of the five entities that are written here)
abbrev pub entity_read : List ℕ → ℕ × List ℕ
entity_read rest =
    if starts_with nat_eq rest (codes "amp;") then (38, drop 4 rest)
    else (if starts_with nat_eq rest (codes "lt;") then (60, drop 3 rest)
    else (if starts_with nat_eq rest (codes "gt;") then (62, drop 3 rest)
    else (if starts_with nat_eq rest (codes "quot;") then (34, drop 5 rest)
    else (if starts_with nat_eq rest (codes "#39;") then (39, drop 4 rest)
    else (38, rest)))))

-- the byte for which the front of what was written stands, and what follows it
abbrev pub byte_read : ℕ → List ℕ → ℕ × List ℕ
byte_read first rest = if first == 38 then entity_read rest else (first, rest)

-- the first bytes, at most so many, for which what was written stands
abbrev pub unescaped_within : ℕ → List ℕ → List ℕ
unescaped_within zero written = []
unescaped_within (suc n) [] = []
unescaped_within (suc n) (first ∷ rest) =
    (byte_read first rest).0 ∷ unescaped_within n (byte_read first rest).1

-- the text for which what was written stands
abbrev pub unescaped : List ℕ → List ℕ
unescaped written = unescaped_within (length written) written
