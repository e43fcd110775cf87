-- The table of what shows a finding.
use Rattle.std.specs.Prelude.{ℕ, Bool, true, false, ◌||◌, List, [], ◌∷◌, ◌++◌, Option, None, Some, is_none, codes, if◌then◌else◌}
use Rattle.audit_base.specs.declared.findings.Finding.{Finding}
use Rattle.audit_base.specs.declared.findings.OrderLine.{OrderLine}
use Rattle.audit_base.specs.declared.findings.Property.{Property}
use Rattle.audit_base.specs.declared.findings.Shown.{Shown}
use Rattle.audit_base.specs.declared.findings.Shown.TheVariants as shown
use Rattle.audit_base.specs.declared.names.Key.{Key}
use Rattle.audit_base.specs.declared.terms.Side.{Side}
use Rattle.audit_base.specs.declared.terms.Which.{Which}
use Rattle.audit_base.specs.declared.terms.Which.TheVariants as which
use Rattle.audit_report.specs.Lines.{log_word, side_word}
use Rattle.page_markup.specs.declared.words.Tag.TheVariants as tag
use Rattle.page_parts.specs.declared.cells.TableColumn.{TableColumn}
use Rattle.page_parts.specs.declared.cells.TableColumn.TheVariants.{Role, Mark, Log, Record, Side as SideColumn, Firm, Id, Quantity, Limit, Traded, Due}
use Rattle.page_parts.specs.Elements.{element}
use Rattle.page_parts.specs.TableElements.{gaps, head_of_table, name_cell, number_cell, price_cell, row_heading, table_element, words_cell}
use Rattle.page_parts.specs.Wording.{role_words}

-- A row ends with its last cell that says something.

-- a record of a log, of which no more is said
abbrev pub place_row : List ℕ → Which → ℕ → List ℕ
place_row role log place =
    row_heading role ++ words_cell [] ++ words_cell (log_word log) ++ number_cell place

-- a key that names no order
abbrev pub unknown_row : Side → Key → List ℕ
unknown_row side key = row_heading (codes "no such order") ++ gaps 3 ++ words_cell (side_word side)
    ++ name_cell key.firm ++ name_cell key.id

-- what is due to an order, where that is said
abbrev pub due_cell : Option ℕ → List ℕ
due_cell None = []
due_cell (Some due) = number_cell due

-- the cells that name an order, and those of its numbers
abbrev pub order_names : OrderLine → List ℕ
order_names line = number_cell line.place ++ words_cell (side_word line.side)
    ++ name_cell line.key.firm ++ name_cell line.key.id

abbrev pub order_numbers : OrderLine → Option ℕ → List ℕ
order_numbers line due = number_cell line.quantity ++ price_cell line.limit
    ++ number_cell line.traded ++ due_cell due

-- an order, with its mark in the picture
abbrev pub order_line_row : List ℕ → List ℕ → OrderLine → Option ℕ → List ℕ
order_line_row role mark line due =
    row_heading role ++ words_cell mark ++ words_cell (log_word which.Orders)
    ++ order_names line ++ order_numbers line due

-- the mark of what is shown first or second
abbrev pub mark_words : Bool → List ℕ
mark_words is_first = if is_first then codes "1" else codes "2"

-- the row of what is shown first or second
abbrev pub shown_row : Property → Bool → Shown → List ℕ
shown_row broken is_first (shown.Place log place) =
    place_row (codes "the record it conflicts with") log place
shown_row broken is_first (shown.Unknown side key) = unknown_row side key
shown_row broken is_first (shown.Order line) =
    order_line_row (role_words broken is_first line.side) (mark_words is_first) line None
shown_row broken is_first (shown.Due line due) =
    order_line_row (role_words broken is_first line.side) (mark_words is_first) line (Some due)

-- the same where something is shown
abbrev pub shown_row_if_there : Property → Bool → Option Shown → List ℕ
shown_row_if_there broken is_first None = []
shown_row_if_there broken is_first (Some it) =
    element tag.Row [] (shown_row broken is_first it)

-- the record that offends; none does where the volume is not the greatest
abbrev pub offending_row : Finding → List ℕ
offending_row finding = if is_none finding.short
    then element tag.Row []
    (place_row (codes "the offending record") finding.log finding.place)
    else []

-- something shown tells what is due to an order
abbrev pub tells_due : Option Shown → Bool
tells_due None = false
tells_due (Some (shown.Place log place)) = false
tells_due (Some (shown.Unknown side key)) = false
tells_due (Some (shown.Order line)) = false
tells_due (Some (shown.Due line due)) = true

abbrev pub finding_tells_due : Finding → Bool
finding_tells_due finding = tells_due finding.first || tells_due finding.second

-- the columns of the table
abbrev pub evidence_columns : List TableColumn
evidence_columns = Role ∷ Mark ∷ Log ∷ Record ∷ SideColumn ∷ Firm ∷ Id ∷ Quantity ∷ Limit ∷ Traded
    ∷ []

-- its head, with a column for what is due where that is told
abbrev pub evidence_head : Bool → List ℕ
evidence_head false = head_of_table evidence_columns
evidence_head true = head_of_table (evidence_columns ++ Due ∷ [])

-- what the table has, and what is due to an order where that is told
unfoldable pub evidence_caption : Bool → List ℕ
evidence_caption false = codes "Records of the two logs"
evidence_caption true = codes "Records of the two logs. Due: what it trades in every list of trades that conforms."

-- the record that offends, and what the report shows beside it
abbrev pub evidence_table : Finding → List ℕ
evidence_table finding = table_element (evidence_caption (finding_tells_due finding))
    (evidence_head (finding_tells_due finding))
    (offending_row finding ++ shown_row_if_there finding.property true finding.first
    ++ shown_row_if_there finding.property false finding.second)
