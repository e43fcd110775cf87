-- The text of a day. The codes of `,` and LF are 44 and 10.
use Rattle.std.specs.Prelude.{ℕ, Bool, true, ◌==◌, List, [], ◌∷◌, ◌++◌, codes, decimal, if◌then◌else◌}
use Rattle.audit_report.specs.Lines.{line_text}
use Rattle.audit_report.specs.declared.day_line.DayCounts.{DayCounts}

-- `day,SYMBOLS,ACCEPTED,REJECTED,RULE`, with what the symbols were judged by in the place of RULE
abbrev pub day_line : DayCounts → List ℕ → List ℕ
day_line counts question_text =
    line_text (codes "day" ∷ decimal counts.symbols ∷ decimal counts.accepted
    ∷ decimal counts.rejected ∷ question_text ∷ [])

-- a byte, and before it the front of a line where it begins one
abbrev pub byte_in_line : List ℕ → Bool → ℕ → List ℕ
byte_in_line front begins byte = (if begins then front else []) ++ byte ∷ []

-- a text with this front before each of its lines, given whether it begins one: a byte after
-- LF does
abbrev pub with_line_fronts : List ℕ → Bool → List ℕ → List ℕ
with_line_fronts front begins [] = []
with_line_fronts front begins (byte ∷ text) =
    byte_in_line front begins byte ++ with_line_fronts front (byte == 10) text

-- the front of each line of a symbol: the symbol and a comma
abbrev pub symbol_front : List ℕ → List ℕ
symbol_front symbol = symbol ++ 44 ∷ []

-- the report of a symbol with the symbol and a comma before each of its lines
abbrev pub symbol_lines : List ℕ → List ℕ → List ℕ
symbol_lines symbol report = with_line_fronts (symbol_front symbol) true report
