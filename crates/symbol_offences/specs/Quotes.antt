-- The records that a letter quotes behind an offence, in canonical CSV. Only records that are kept
-- are quoted, so that there are none where they are not asked for.
use Rattle.std.specs.Prelude.{ℕ, Bool, true, false, not, ◌==◌, List, ◌∷◌, ◌++◌, Option, None, Some, codes, decimal, length, map, option_map, option_and_then, slice_get, slice_index, if◌then◌else◌}
use Rattle.audit_base.specs.declared.findings.Finding.{Finding}
use Rattle.audit_base.specs.declared.findings.Property.{Property}
use Rattle.audit_base.specs.declared.findings.Property.TheVariants.{DuplicateId, TimeBack, UnknownTarget, Unpaired, DuplicateTrade, UnknownOrder, Inactive, Limit, UniformPrice, BuyQuantity, SellQuantity, BuyPriority, SellPriority, Volume, Spread, InstantOrder}
use Rattle.audit_base.specs.declared.findings.Shown.{Shown}
use Rattle.audit_base.specs.declared.findings.Shown.TheVariants as shown
use Rattle.audit_base.specs.declared.orders.Order.{Order}
use Rattle.audit_base.specs.declared.terms.Which.{Which}
use Rattle.audit_base.specs.declared.terms.Which.TheVariants.{Orders, Trades}
use Rattle.audit_base.specs.Least.{least_with, only_if}
use Rattle.audit_base.specs.Orders.{order_at}
use Rattle.audit_report.specs.Lines.{line_text, log_word}
use Rattle.audit_report.specs.Texts.{line_if_there}
use Rattle.csv_logs.specs.Written.{order_row, trade_row}
use Rattle.further_checks.specs.declared.findings.FurtherFinding.{FurtherFinding}
use Rattle.further_checks.specs.declared.findings.FurtherFinding.TheVariants.{RestingPrice, TradeTime}
use Rattle.symbol_offences.specs.declared.symbol_before_rule.QuotedRecords.{QuotedRecords}
use Rattle.symbol_offences.specs.SymbolBeforeRule.{places_of_records}

-- `record,LOG,PLACE,` and the fields of the record
abbrev pub record_line : Which → ℕ → List (List ℕ) → List ℕ
record_line log place fields = line_text (codes "record" ∷ log_word log ∷ decimal place ∷ fields)

-- the index of the first of these places that is this one
abbrev pub index_with_place : List ℕ → ℕ → Option ℕ
index_with_place places place = least_with (λ i. slice_index places i == place) (length places)

-- the record at a place, if one is there
abbrev pub record_at : {R : Type 0} → List (ℕ × R) → ℕ → Option R
record_at listed place = option_and_then (λ i. option_map (λ e. e.1) (slice_get listed i))
    (index_with_place (places_of_records listed) place)

-- the line of the order record at a place, if one is there
abbrev pub order_quote : QuotedRecords → ℕ → List ℕ
order_quote quoted place =
    line_if_there (λ entry. record_line Orders place (order_row entry))
    (record_at quoted.orders.entries place)

-- the line of the trade at a place, if one is there
abbrev pub trade_quote : QuotedRecords → ℕ → List ℕ
trade_quote quoted place =
    line_if_there (λ trade. record_line Trades place (trade_row trade))
    (record_at quoted.trades.trades place)

-- the line of the record of a log at a place, if one is there
abbrev pub quote_in : QuotedRecords → Which → ℕ → List ℕ
quote_in quoted Orders place = order_quote quoted place
quote_in quoted Trades place = trade_quote quoted place

-- the place of the order record that is shown, if one is
abbrev pub shown_order_place : Option Shown → Option ℕ
shown_order_place None = None
shown_order_place (Some (shown.Place Orders place)) = Some place
shown_order_place (Some (shown.Place Trades place)) = None
shown_order_place (Some (shown.Unknown side key)) = None
shown_order_place (Some (shown.Order o)) = Some o.place
shown_order_place (Some (shown.Due o due)) = Some o.place

-- the finding is `inactive`
abbrev pub is_inactive : Property → Bool
is_inactive DuplicateId = false
is_inactive TimeBack = false
is_inactive UnknownTarget = false
is_inactive Unpaired = false
is_inactive DuplicateTrade = false
is_inactive UnknownOrder = false
is_inactive Inactive = true
is_inactive Limit = false
is_inactive UniformPrice = false
is_inactive BuyQuantity = false
is_inactive SellQuantity = false
is_inactive BuyPriority = false
is_inactive SellPriority = false
is_inactive Volume = false
is_inactive Spread = false
is_inactive InstantOrder = false

-- the place of the record that ended an order, if one did: a replacement that was never placed has
-- its own place there, and no record ended it
abbrev pub ending_of_order : Order → Option ℕ
ending_of_order o = option_and_then (λ place. only_if (not (place == o.place)) place) o.cancelled

-- the places of orders
abbrev pub places_of_orders : List Order → List ℕ
places_of_orders orders = map (λ o. o.place) orders

-- the place of the record that ended the order whose record is at this place
abbrev pub ending_at : List Order → ℕ → Option ℕ
ending_at orders place =
    option_and_then (λ i. ending_of_order (order_at orders i))
    (index_with_place (places_of_orders orders) place)

-- of `inactive`, the place of the record that ended the order that is shown, if one did
abbrev pub ending_place : List Order → Finding → Option ℕ
ending_place orders f =
    if is_inactive f.property then option_and_then (ending_at orders) (shown_order_place f.first)
    else None

-- the records that are quoted behind a finding: the offending one, the order records that it shows,
-- first before second, and this one, which ended an order
abbrev pub quotes_with : QuotedRecords → Finding → Option ℕ → List ℕ
quotes_with quoted f ending =
    quote_in quoted f.log f.place
    ++ line_if_there (order_quote quoted) (shown_order_place f.first)
    ++ line_if_there (order_quote quoted) (shown_order_place f.second)
    ++ line_if_there (order_quote quoted) ending

-- the records that are quoted behind a finding about these orders
abbrev pub finding_quotes : List Order → QuotedRecords → Finding → List ℕ
finding_quotes orders quoted f = quotes_with quoted f (ending_place orders f)

-- the same of a further finding: the trade, and the orders that it shows
abbrev pub further_quotes : QuotedRecords → FurtherFinding → List ℕ
further_quotes quoted (RestingPrice place resting incoming) =
    trade_quote quoted place ++ order_quote quoted resting.place
    ++ order_quote quoted incoming.place
further_quotes quoted (TradeTime place order) =
    trade_quote quoted place ++ order_quote quoted order.place
