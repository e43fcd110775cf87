-- The laws of the lists of offences, as statements.
use Rattle.std.specs.Prelude.{◌≡◌, ◌≢◌, ◌↔◌, ◌<◌, ◌^◌, ℕ, List, [], All, Option, None, Some, Result, length, slice_get}
use Rattle.audit_base.specs.declared.terms.Rule.{Rule}
use Rattle.audit_base.specs.declared.records.OrderRecord.{OrderRecord}
use Rattle.audit_base.specs.declared.records.TradeRecord.{TradeRecord}
use Rattle.audit_base.specs.declared.orders.Order.{Order}
use Rattle.audit_base.specs.declared.orders.Deal.{Deal}
use Rattle.audit_base.specs.declared.findings.Finding.{Finding}
use Rattle.audit_base.specs.Orders.{IsOrderList, place_at}
use Rattle.audit_base.specs.Deals.{NamesOrders, DealsInRange}
use Rattle.audit_base.specs.Trades.{TradesInRange}
use Rattle.audit_base.specs.ContinuousRules.{ConformsAt}
use Rattle.audit_base.specs.ContinuousOffences.{finding_at_place}
use Rattle.audit_base.specs.Verdicts.{IsRuleFinding, IsRecordFinding, paired_trades}
use Rattle.offence_list.specs.ContinuousLists.{offence_at_place}
use Rattle.offence_list.specs.Offences.{rule_offences, record_offences}

-- the first of the offences under a rule is its first offence, and where there is no first offence
-- there is none
abbrev pub OffencesBeginWithTheFirst : Type 0
OffencesBeginWithTheFirst = (the_rule : Rule) (orders : List Order) (deals : List Deal) (count : ℕ)
    (found : Option Finding)
    → IsOrderList orders → All (NamesOrders orders) deals → DealsInRange deals
    → IsRuleFinding the_rule orders deals count found
    → slice_get (rule_offences the_rule orders deals found) 0 ≡ found

-- the same on the records of two logs: the first of their offences is the finding of their verdict
abbrev pub OffencesBeginWithTheVerdict : Type 0
OffencesBeginWithTheVerdict = (the_rule : Rule) (symbol : List ℕ) (entries : List OrderRecord)
    (trades : Result (List TradeRecord) Finding) (found : Option Finding)
    → length entries < 2 ^ 32 → TradesInRange (paired_trades trades)
    → IsRecordFinding the_rule symbol entries trades found
    → slice_get (record_offences the_rule symbol entries trades found) 0 ≡ found

-- so there is no offence exactly where the logs are accepted
abbrev pub NoOffenceWhereAccepted : Type 0
NoOffenceWhereAccepted = (the_rule : Rule) (symbol : List ℕ) (entries : List OrderRecord)
    (trades : Result (List TradeRecord) Finding) (found : Option Finding)
    → length entries < 2 ^ 32 → TradesInRange (paired_trades trades)
    → IsRecordFinding the_rule symbol entries trades found
    → record_offences the_rule symbol entries trades found ≡ [] ↔ found ≡ None

-- a place of no order of the list has no offence
abbrev pub OffencesAreAtOrders : Type 0
OffencesAreAtOrders = (orders : List Order) (deals : List Deal) (place : ℕ)
    → All (NamesOrders orders) deals
    → ((order : ℕ) → order < length orders → place_at orders order ≢ place)
    → offence_at_place orders deals place ≡ None

-- at a place with an offence the rule of continuous trading fails
abbrev pub OffencesAreFailures : Type 0
OffencesAreFailures = (orders : List Order) (deals : List Deal) (place : ℕ) (finding : Finding)
    → All (NamesOrders orders) deals → DealsInRange deals
    → offence_at_place orders deals place ≡ Some finding
    → ConformsAt orders deals place → ⊥

-- where the rule holds at the place before, the offence is the finding of First offence (continuous)
-- at the place, also where this is the spread
abbrev pub OffenceAfterCalm : Type 0
OffenceAfterCalm = (orders : List Order) (deals : List Deal) (place : ℕ)
    → ((earlier : ℕ) → earlier < place → ConformsAt orders deals earlier)
    → offence_at_place orders deals place ≡ finding_at_place orders deals place
