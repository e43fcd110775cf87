-- The report of the bad messages of a day: a line for each, in order, and then how many there are,
-- and how many messages in all.
use Rattle.std.specs.Prelude.{ℕ, List, [], ◌∷◌, Option, codes, decimal, length}
use Rattle.audit_report.specs.Lines.{line_text}
use Rattle.fix_days.specs.declared.faults.BadMessage.{BadMessage}
use Rattle.fix_days.specs.LinesAlone.{bad_messages, DayMessage}
use Rattle.fix_days.specs.LinesAlone.DayMessage.{Bad, Good}
use Rattle.fix_framing.specs.declared.frames.FrameFault.{FrameFault}
use Rattle.fix_framing.specs.declared.frames.FrameFault.TheVariants as frame
use Rattle.plain_logs.specs.LinesAlone.{IsReadAsItems}

-- the word for a fault of a frame, which the line of a malformed log has too
abbrev pub fault_word : FrameFault → List ℕ
fault_word frame.Begin = codes "begin"
fault_word frame.Length = codes "length"
fault_word frame.Truncated = codes "truncated"
fault_word frame.Trailer = codes "trailer"
fault_word frame.Checksum = codes "checksum"

-- `bad,PLACE,OFFSET,REASON`
abbrev pub bad_message_line : ℕ → ℕ → FrameFault → List ℕ
bad_message_line place offset fault =
    line_text (codes "bad" ∷ decimal place ∷ decimal offset ∷ fault_word fault ∷ [])

-- the line of a message that is bad
abbrev pub items_if_bad : DayMessage → List (List ℕ)
items_if_bad (Good body) = []
items_if_bad (Bad place offset fault) = bad_message_line place offset fault ∷ []

-- `bad,COUNT`, COUNT being how many of the messages are bad, and `messages,COUNT`, how many there
-- are, good and bad ones
abbrev pub report_end : List DayMessage → List (List ℕ)
report_end messages = line_text (codes "bad" ∷ decimal (length (bad_messages messages)) ∷ [])
    ∷ line_text (codes "messages" ∷ decimal (length messages) ∷ []) ∷ []

-- what is written of a line of the report: the line
abbrev pub whole_line : List ℕ → List ℕ
whole_line line = line

-- what is read of a day for this report: its lines
abbrev pub IsReadAsReport : List ℕ → List ℕ → List (List ℕ) → Option BadMessage → Type 0
IsReadAsReport soh_text day lines bad =
    IsReadAsItems items_if_bad report_end soh_text day lines bad
