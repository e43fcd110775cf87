-- The text of a day that conforms. The codes of `,` and `@` are 44 and 64.
use Rattle.std.specs.Prelude.{ℕ, zero, suc, Bool, List, [], ◌∷◌, ◌++◌, codes, decimal, length, map, slice_index, if◌then◌else◌}
use Rattle.std.specs.List.{join_with_byte}
use Rattle.audit_base.specs.Words.{rule_word}
use Rattle.audit_base.specs.declared.orders.Order.{Order}
use Rattle.audit_base.specs.Orders.{place_at}
use Rattle.audit_report.specs.Lines.{line_text, totals_line}
use Rattle.session_audit.specs.declared.phases.Phase.{Phase}
use Rattle.session_audit.specs.Phases.{rule_of}

-- `KIND@FIRST`
abbrev pub phase_text : Phase → List ℕ
phase_text p = rule_word (rule_of p.kind) ++ 64 ∷ decimal p.first

-- the phases, joined by commas
abbrev pub phases_text : List Phase → List ℕ
phases_text phases = join_with_byte 44 (map phase_text phases)

-- `session,SYMBOL,PHASES`
abbrev pub session_line : List ℕ → List Phase → List ℕ
session_line symbol phases = line_text (codes "session" ∷ symbol ∷ phases_text phases ∷ [])

-- `order,PLACE,TRADED`
abbrev pub total_line : ℕ → ℕ → List ℕ
total_line place traded = line_text (codes "order" ∷ decimal place ∷ decimal traded ∷ [])

-- the lines of what the first n orders traded over the day
unfoldable pub total_lines : List Order → List ℕ → ℕ → List ℕ
total_lines orders totals zero = []
total_lines orders totals (suc n) =
    total_lines orders totals n ++ total_line (place_at orders n) (slice_index totals n)

-- with the option, a line for each order
abbrev pub table_text : Bool → List Order → List ℕ → List ℕ
table_text table orders totals =
    if table then total_lines orders totals (length orders) else []

-- the accepted text of a day, from what each order traded over it, and the volume
abbrev pub day_text : List ℕ → List Phase → List Order → List ℕ × ℕ → ℕ → Bool → List ℕ
day_text symbol phases orders totals trades table = session_line symbol phases
    ++ totals_line (length orders) trades totals.1 ++ table_text table orders totals.0
