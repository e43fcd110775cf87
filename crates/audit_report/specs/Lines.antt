-- The lines of reports. A line is its parts joined by commas, and ends with LF.
-- Names hold no comma and no quote, so nothing is quoted. The codes of `,` and LF are 44 and 10.
use Rattle.std.specs.Prelude.{ℕ, List, [], ◌∷◌, ◌++◌, codes, decimal}
use Rattle.std.specs.List.{join_with_byte}
use Rattle.audit_base.specs.Numbers.{price_text}
use Rattle.audit_base.specs.Words.{rule_word, property_word}
use Rattle.audit_base.specs.declared.terms.Rule.{Rule}
use Rattle.audit_base.specs.declared.terms.Side.{Side}
use Rattle.audit_base.specs.declared.terms.Side.TheVariants.{Buy, Sell}
use Rattle.audit_base.specs.declared.terms.Which.{Which}
use Rattle.audit_base.specs.declared.terms.Which.TheVariants.{Orders, Trades}
use Rattle.audit_base.specs.declared.faults.BadPlace.{BadPlace}
use Rattle.audit_base.specs.declared.findings.Finding.{Finding}
use Rattle.audit_base.specs.declared.findings.OrderLine.{OrderLine}
use Rattle.audit_base.specs.declared.findings.Short.{Short}
use Rattle.audit_base.specs.declared.findings.Shown.{Shown}
use Rattle.audit_base.specs.declared.findings.Shown.TheVariants.{Place, Unknown, Order, Due}
use Rattle.audit_base.specs.declared.names.Key.{Key}
use Rattle.audit_base.specs.declared.orders.Cut.{Cut}
use Rattle.audit_report.specs.Reasons.{reason_text}
use Rattle.audit_report.specs.declared.tables.Line.{Line}
use Rattle.audit_report.specs.declared.tables.Line.TheVariants as row

-- the parts of a line joined by commas, then LF
abbrev pub line_text : List (List ℕ) → List ℕ
line_text parts = join_with_byte 44 parts ++ 10 ∷ []

-- the word of a log
abbrev pub log_word : Which → List ℕ
log_word Orders = codes "orders"
log_word Trades = codes "trades"

-- the word of a side
abbrev pub side_word : Side → List ℕ
side_word Buy = codes "buy"
side_word Sell = codes "sell"

-- `accepted,RULE,SYMBOL`
abbrev pub accepted_line : Rule → List ℕ → List ℕ
accepted_line rule symbol = line_text (codes "accepted" ∷ rule_word rule ∷ symbol ∷ [])

-- `totals,ORDERS,TRADES,VOLUME`
abbrev pub totals_line : ℕ → ℕ → ℕ → List ℕ
totals_line orders trades volume =
    line_text (codes "totals" ∷ decimal orders ∷ decimal trades ∷ decimal volume ∷ [])

-- `bound,PRICE,VOLUME`
abbrev pub bound_line : Cut → List ℕ
bound_line cut = line_text (codes "bound" ∷ price_text cut.price ∷ decimal cut.volume ∷ [])

-- the parts `order`, PLACE, SIDE, FIRM, ID, QUANTITY, PRICE, TRADED
abbrev pub order_parts : OrderLine → List (List ℕ)
order_parts o =
    codes "order" ∷ decimal o.place ∷ side_word o.side ∷ o.key.firm ∷ o.key.id ∷ decimal o.quantity
    ∷ price_text o.limit ∷ decimal o.traded ∷ []

-- `order,PLACE,SIDE,FIRM,ID,QUANTITY,PRICE,TRADED`
abbrev pub order_line : OrderLine → List ℕ
order_line o = line_text (order_parts o)

-- the order line with a last part DUE
abbrev pub due_line : OrderLine → ℕ → List ℕ
due_line o due = line_text (order_parts o ++ decimal due ∷ [])

-- `pair,BUYPLACE,SELLPLACE,QUANTITY`
abbrev pub pair_line : ℕ → ℕ → ℕ → List ℕ
pair_line bid ask quantity =
    line_text (codes "pair" ∷ decimal bid ∷ decimal ask ∷ decimal quantity ∷ [])

-- a line of a table
abbrev pub table_line : Line → List ℕ
table_line (row.Order o) = order_line o
table_line (row.Pair bid ask quantity) = pair_line bid ask quantity

-- `rejected,PROPERTY,LOG,PLACE`
abbrev pub rejected_line : Finding → List ℕ
rejected_line f =
    line_text (codes "rejected" ∷ property_word f.property ∷ log_word f.log ∷ decimal f.place
    ∷ [])

-- `volume,REACHED,GREATEST`
abbrev pub volume_line : Short → List ℕ
volume_line s = line_text (codes "volume" ∷ decimal s.reached ∷ decimal s.greatest ∷ [])

-- `see,LOG,PLACE`
abbrev pub see_line : Which → ℕ → List ℕ
see_line log place = line_text (codes "see" ∷ log_word log ∷ decimal place ∷ [])

-- `unknown,SIDE,FIRM,ID`
abbrev pub unknown_line : Side → Key → List ℕ
unknown_line side key = line_text (codes "unknown" ∷ side_word side ∷ key.firm ∷ key.id ∷ [])

-- the line of what shows a finding
abbrev pub shown_line : Shown → List ℕ
shown_line (Place log place) = see_line log place
shown_line (Unknown side key) = unknown_line side key
shown_line (Order o) = order_line o
shown_line (Due o due) = due_line o due

-- `malformed,LOG,PLACE,OFFSET,REASON`
abbrev pub malformed_line : Which → BadPlace → List ℕ
malformed_line log bad =
    line_text (codes "malformed" ∷ log_word log ∷ decimal bad.place ∷ decimal bad.offset
    ∷ reason_text log bad.reason ∷ [])

-- `readfault,LOG`
abbrev pub read_fault_line : Which → List ℕ
read_fault_line log = line_text (codes "readfault" ∷ log_word log ∷ [])

-- `toolong,LOG`
abbrev pub too_long_line : Which → List ℕ
too_long_line log = line_text (codes "toolong" ∷ log_word log ∷ [])

-- how the command line is used
abbrev pub auditor_usage_line : List ℕ
auditor_usage_line =
    codes "usage: audit RULE SYMBOL ORDERS TRADES" ++ codes " | expect RULE SYMBOL ORDERS"
    ++ codes " | convert orders|trades csv|fix PATH" ++ codes " | generate START COUNT"
    ++ codes " | certify RULE SYMBOL ORDERS TRADES"
    ++ codes " | verify SYMBOL ORDERS TRADES CERTIFICATE"
    ++ codes " | session SYMBOL PHASES ORDERS TRADES" ++ 10 ∷ []
