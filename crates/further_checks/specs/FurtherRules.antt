-- Two checks that are no part of the five rules: of the price of each trade, and of its time.
-- They are looked for only where they are asked for, after all that the rule asks.
use Rattle.std.specs.Prelude.{ℕ, Bool, false, ◌==◌, ◌||◌, not, List, [], ◌∷◌, Option, None, map, length, slice_get, slice_index_or, if◌then◌else◌}
use Rattle.audit_base.specs.Moments.{Moment, is_before}
use Rattle.audit_base.specs.declared.records.TradeRecord.{TradeRecord}
use Rattle.audit_base.specs.declared.orders.Order.{Order}
use Rattle.audit_base.specs.declared.orders.Deal.{Deal}
use Rattle.audit_base.specs.declared.findings.OrderLine.{OrderLine}
use Rattle.audit_base.specs.Least.{least_answer, first_answer, only_if}
use Rattle.audit_base.specs.Orders.{order_at, limit_at}
use Rattle.audit_base.specs.Deals.{deal_at, traded}
use Rattle.audit_base.specs.Trades.{trades_of_symbol, deals_of_symbol}
use Rattle.audit_base.specs.Continuous.{incoming_order, resting_order}
use Rattle.audit_base.specs.Shows.{with_traded_number}
use Rattle.offence_list.specs.Answers.{answers_below}
use Rattle.further_checks.specs.declared.findings.FurtherChecks.{FurtherChecks}
use Rattle.further_checks.specs.declared.findings.FurtherFinding.{FurtherFinding}
use Rattle.further_checks.specs.declared.findings.FurtherFinding.TheVariants.{RestingPrice, TradeTime}

-- no check is asked for
abbrev pub no_checks : FurtherChecks
no_checks = record { resting_price = false; trade_times = false }

-- a check is asked for
abbrev pub asks_further : FurtherChecks → Bool
asks_further checks = checks.resting_price || checks.trade_times

-- the time of each trade of a symbol, in log order, as the deals of the symbol are
abbrev pub times_of_symbol : List ℕ → List TradeRecord → List Moment
times_of_symbol symbol trades = map (λ e. e.1.time) (trades_of_symbol symbol trades)

-- the time of the trade at an index
abbrev pub trade_time_at : List Moment → ℕ → Moment
trade_time_at times deal = slice_index_or times deal (record { second = 0; nano = 0 })

-- an order with what it trades
abbrev pub traded_line : List Order → (ℕ → ℕ) → ℕ → OrderLine
traded_line orders amount order = with_traded_number (order_at orders order) (amount order)

-- a time is before that of the record of the deal's bid or of its ask
abbrev pub is_before_orders : List Order → Deal → Moment → Bool
is_before_orders orders d time = is_before time (order_at orders d.bid).time
    || is_before time (order_at orders d.ask).time

-- finding 17: the price is not the limit of the resting order, the one of its two that came first
-- (as in continuous trading). The resting order is shown, and the incoming one
abbrev pub resting_price_failure : List Order → (ℕ → ℕ) → Deal → Option FurtherFinding
resting_price_failure orders amount d =
    only_if (not (d.price == limit_at orders (resting_order orders d)))
    (RestingPrice d.place (traded_line orders amount (resting_order orders d))
    (traded_line orders amount (incoming_order orders d)))

-- finding 18: the time of the trade is before that of the record of its bid or of its ask.
-- The order of the later record is shown
abbrev pub trade_time_failure : List Order → (ℕ → ℕ) → Deal → Moment → Option FurtherFinding
trade_time_failure orders amount d time =
    only_if (is_before_orders orders d time)
    (TradeTime d.place (traded_line orders amount (incoming_order orders d)))

-- of the checks that are asked for, the first that a deal fails: 17 before 18
abbrev pub further_failure : FurtherChecks → List Order → (ℕ → ℕ) → Deal → Moment
    → Option FurtherFinding
further_failure checks orders amount d time =
    first_answer ((if checks.resting_price then resting_price_failure orders amount d else None)
    ∷ (if checks.trade_times then trade_time_failure orders amount d time else None) ∷ [])

-- the same of the deal at an index, with what the orders trade in the whole log
abbrev pub further_finding : FurtherChecks → List Order → List Deal → List Moment → ℕ
    → Option FurtherFinding
further_finding checks orders deals times deal =
    further_failure checks orders (traded deals) (deal_at deals deal) (trade_time_at times deal)

-- what is told: the finding at the least deal that fails one of them
unfoldable pub first_further_finding : FurtherChecks → List Order → List Deal → List Moment
    → Option FurtherFinding
first_further_finding checks orders deals times =
    least_answer (further_finding checks orders deals times) (length deals)

-- the findings at all deals that fail, in order
unfoldable pub further_findings : FurtherChecks → List Order → List Deal → List Moment
    → List FurtherFinding
further_findings checks orders deals times =
    answers_below (further_finding checks orders deals times) (length deals)

-- the same of the trades of a symbol
abbrev pub further_findings_of_symbol : FurtherChecks → List Order → List ℕ → List TradeRecord
    → List FurtherFinding
further_findings_of_symbol checks orders symbol trades =
    further_findings checks orders (deals_of_symbol orders symbol trades)
    (times_of_symbol symbol trades)

-- of these the first, if there is one: it rejects a symbol that is accepted but for it
abbrev pub first_finding_of_symbol : FurtherChecks → List Order → List ℕ → List TradeRecord
    → Option FurtherFinding
first_finding_of_symbol checks orders symbol trades =
    slice_get (further_findings_of_symbol checks orders symbol trades) 0
