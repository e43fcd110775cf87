-- The words and the text of the further findings, as those of the others.
use Rattle.std.specs.Prelude.{ℕ, List, [], ◌∷◌, ◌++◌, codes, decimal}
use Rattle.audit_base.specs.declared.findings.OrderLine.{OrderLine}
use Rattle.audit_base.specs.declared.terms.Which.TheVariants as which
use Rattle.audit_report.specs.Lines.{line_text, log_word, order_line}
use Rattle.further_checks.specs.declared.findings.FurtherFinding.{FurtherFinding}
use Rattle.further_checks.specs.declared.findings.FurtherFinding.TheVariants.{RestingPrice, TradeTime}

-- the word of the property
abbrev pub further_word : FurtherFinding → List ℕ
further_word (RestingPrice place resting incoming) = codes "resting-price"
further_word (TradeTime place order) = codes "trade-time"

-- the place of the trade
abbrev pub further_place : FurtherFinding → ℕ
further_place (RestingPrice place resting incoming) = place
further_place (TradeTime place order) = place

-- the order that is shown first
abbrev pub further_first : FurtherFinding → OrderLine
further_first (RestingPrice place resting incoming) = resting
further_first (TradeTime place order) = order

-- the lines of the orders that are shown
abbrev pub further_shown_text : FurtherFinding → List ℕ
further_shown_text (RestingPrice place resting incoming) = order_line resting ++ order_line incoming
further_shown_text (TradeTime place order) = order_line order

-- a first word, PROPERTY, `trades`, PLACE
abbrev pub further_line : List ℕ → FurtherFinding → List ℕ
further_line word f = line_text (word ∷ further_word f ∷ log_word which.Trades
    ∷ decimal (further_place f) ∷ [])

-- a log that a check rejects: `rejected,PROPERTY,trades,PLACE`, and the lines of the orders
abbrev pub further_text : FurtherFinding → List ℕ
further_text f = further_line (codes "rejected") f ++ further_shown_text f
