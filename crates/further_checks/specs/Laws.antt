-- The laws of the further checks, as statements.
use Rattle.std.specs.Prelude.{◌≡◌, List, [], None, true, false, slice_get}
use Rattle.audit_base.specs.Moments.{Moment}
use Rattle.audit_base.specs.declared.orders.Order.{Order}
use Rattle.audit_base.specs.declared.orders.Deal.{Deal}
use Rattle.audit_base.specs.Expected.{IsExpectedContinuous}
use Rattle.further_checks.specs.declared.findings.FurtherChecks.{FurtherChecks}
use Rattle.further_checks.specs.FurtherRules.{asks_further, first_further_finding, further_findings}

-- the finding that is told is the first of all, so that there is none exactly where none is told
abbrev pub FurtherFindingsBeginWithTheFirst : Type 0
FurtherFindingsBeginWithTheFirst = (checks : FurtherChecks) (orders : List Order)
    (deals : List Deal) (times : List Moment)
    → slice_get (further_findings checks orders deals times) 0
    ≡ first_further_finding checks orders deals times

-- where no check is asked for, no trade fails one
abbrev pub NothingIsFoundUnasked : Type 0
NothingIsFoundUnasked = (checks : FurtherChecks) (orders : List Order) (deals : List Deal)
    (times : List Moment) → asks_further checks ≡ false
    → further_findings checks orders deals times ≡ []

-- each of the Expected trades of `continuous` has the limit of its resting order as its price
abbrev pub ExpectedTradesHaveRestingPrices : Type 0
ExpectedTradesHaveRestingPrices = (orders : List Order) (deals : List Deal) (times : List Moment)
    → IsExpectedContinuous orders deals
    → first_further_finding (record { resting_price = true; trade_times = false }) orders deals times
    ≡ None
