-- What the records of two logs of a day give before a rule is looked at, of all symbols of a share
-- at once.
use Rattle.std.specs.Prelude.{◌≡◌, ◌<◌, ◌-◌, ◌^◌, List, Result, Err, IsOkAnd, length}
use Rattle.audit_base.specs.declared.findings.Finding.{Finding}
use Rattle.audit_base.specs.declared.records.OrderRecord.{OrderRecord}
use Rattle.audit_base.specs.declared.records.TradeRecord.{TradeRecord}
use Rattle.day_logs.specs.declared.before_rule.DayBeforeRule.{DayBeforeRule}
use Rattle.day_logs.specs.declared.before_rule.DayBeforeRule.TheVariants as before_rule
use Rattle.day_symbols.specs.Shares.{DayShare}
use Rattle.day_records.specs.declared.day_trades.DayRecords.{DayRecords}
use Rattle.day_records.specs.DayTrades.{HasTradesOf}
use Rattle.record_verdict.specs.declared.scopes.Admission.{Admission}

-- the records of both logs give this: what is known of each symbol of the share; or finding 4
-- alone, exactly where the reports of the trade log do not pair
abbrev pub IsDayBeforeRule : DayShare → Admission → List OrderRecord
    → Result (List TradeRecord) Finding → DayBeforeRule → Type 0
IsDayBeforeRule share admission entries paired (before_rule.Read ended) =
    IsOkAnd paired (HasTradesOf share admission entries ended)
IsDayBeforeRule share admission entries paired (before_rule.Unpaired finding) = paired ≡ Err finding

-- The day has some records, of trades fewer than there are places.
pub record DayTradesFitPlaces (share : DayShare) (admission : Admission) (ended : DayRecords)
    : Type 0 where
  pub entries : List OrderRecord
  pub trades : List TradeRecord
  pub has : HasTradesOf share admission entries ended trades
  pub fits_places : length trades < 2 ^ 32 - 1

-- a day that was read has fewer trades than there are places
abbrev pub IsDayWithFewTrades : DayShare → Admission → DayBeforeRule → Type 0
IsDayWithFewTrades share admission (before_rule.Read ended) =
    DayTradesFitPlaces share admission ended
IsDayWithFewTrades share admission (before_rule.Unpaired finding) = Unit {0}
