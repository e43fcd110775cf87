-- How a CSV log is cut into lines. The codes of LF and CR are 10 and 13.
use Rattle.std.specs.Prelude.{ℕ, Bool, not, ◌+◌, ◌-◌, ◌==◌, List, [], ◌∷◌, length, take, drop, filter, if◌then◌else◌}
use Rattle.std.specs.List.{ends_with, starts_with}

-- a line of a log: the offset in the log of its first byte, and its bytes without the end
-- of the line
pub record Line : Type 0 where
  pub start : ℕ
  pub text : List ℕ

-- the byte order mark
abbrev pub byte_order_mark : List ℕ
byte_order_mark = 0xEF ∷ 0xBB ∷ 0xBF ∷ []

-- how many bytes the mark takes at the start of a log: it counts only whole
abbrev pub mark_size : List ℕ → ℕ
mark_size log = if starts_with ◌==◌ log byte_order_mark then 3 else 0

-- a byte before the first of these lines
abbrev pub join_first : ℕ → List (List ℕ) → List (List ℕ)
join_first byte [] = (byte ∷ []) ∷ []
join_first byte (line ∷ lines) = (byte ∷ line) ∷ lines

-- a text, cut at each LF; the last line may lack its LF, and nothing after the last LF is no line
abbrev pub cut_lines : List ℕ → List (List ℕ)
cut_lines [] = []
cut_lines (byte ∷ rest) =
    if byte == 10 then [] ∷ cut_lines rest else join_first byte (cut_lines rest)

-- a line with one CR at its end taken off
abbrev pub without_cr : List ℕ → List ℕ
without_cr line = if ends_with ◌==◌ line (13 ∷ []) then take (length line - 1) line else line

-- lines with their offsets and without one CR at their ends, where the first one starts at
-- `start` and each is followed by an LF
abbrev pub lines_with_offsets : ℕ → List (List ℕ) → List Line
lines_with_offsets start [] = []
lines_with_offsets start (line ∷ lines) =
    record { start = start; text = without_cr line }
    ∷ lines_with_offsets (start + length line + 1) lines

-- the line has at least one byte, not counting its end
abbrev pub is_nonempty_line : Line → Bool
is_nonempty_line line = not (length line.text == 0)

-- the lines of a log that are not empty: after the mark, if there is one, the log is cut into lines
unfoldable pub nonempty_lines : List ℕ → List Line
nonempty_lines log =
    filter is_nonempty_line
    (lines_with_offsets (mark_size log) (cut_lines (drop (mark_size log) log)))
