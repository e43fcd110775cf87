-- The offences of two logs, by the first: which findings stand behind a first finding.
use Rattle.std.specs.Prelude.{ℕ, Bool, true, false, List, [], ◌∷◌, Option, None, Some, Result, is_some, if◌then◌else◌}
use Rattle.audit_base.specs.declared.terms.Rule.{Rule}
use Rattle.audit_base.specs.declared.terms.Rule.TheVariants as rule
use Rattle.audit_base.specs.declared.records.OrderRecord.{OrderRecord}
use Rattle.audit_base.specs.declared.records.TradeRecord.{TradeRecord}
use Rattle.audit_base.specs.declared.orders.Order.{Order}
use Rattle.audit_base.specs.declared.orders.Deal.{Deal}
use Rattle.audit_base.specs.declared.findings.Property.{Property}
use Rattle.audit_base.specs.declared.findings.Property.TheVariants.{DuplicateId, TimeBack, UnknownTarget, Unpaired, DuplicateTrade, UnknownOrder, Inactive, Limit, UniformPrice, BuyQuantity, SellQuantity, BuyPriority, SellPriority, Volume, Spread, InstantOrder}
use Rattle.audit_base.specs.declared.findings.Finding.{Finding}
use Rattle.audit_base.specs.Histories.{order_list}
use Rattle.audit_base.specs.Trades.{deals_of_symbol}
use Rattle.audit_base.specs.Verdicts.{finding_before_rule, paired_trades}
use Rattle.offence_list.specs.declared.kinds.OffenceKind.{OffenceKind}
use Rattle.offence_list.specs.declared.kinds.OffenceKind.TheVariants.{Alone, OfDeal, OfPriority, OfBook}
use Rattle.offence_list.specs.CallLists.{matching_offences, priority_offences}
use Rattle.offence_list.specs.ContinuousLists.{continuous_offences}

-- what a property is said of: 1 to 6, 14 and 16 of the log, 7 to 11 of a deal by itself, 12 and 13
-- of a deal and an order that waits, and 15 of the orders that rest
abbrev pub offence_kind : Property → OffenceKind
offence_kind DuplicateId = Alone
offence_kind TimeBack = Alone
offence_kind UnknownTarget = Alone
offence_kind Unpaired = Alone
offence_kind DuplicateTrade = Alone
offence_kind UnknownOrder = Alone
offence_kind Inactive = OfDeal
offence_kind Limit = OfDeal
offence_kind UniformPrice = OfDeal
offence_kind BuyQuantity = OfDeal
offence_kind SellQuantity = OfDeal
offence_kind BuyPriority = OfPriority
offence_kind SellPriority = OfPriority
offence_kind Volume = Alone
offence_kind Spread = OfBook
offence_kind InstantOrder = Alone

-- the offences under a rule of a call with this first one; `uniform` is whether one price is
-- asked for
abbrev pub call_offences_of : OffenceKind → Bool → List Order → List Deal → Finding → List Finding
call_offences_of Alone uniform orders deals first = first ∷ []
call_offences_of OfDeal uniform orders deals first = matching_offences uniform orders deals
call_offences_of OfPriority uniform orders deals first = priority_offences orders deals
call_offences_of OfBook uniform orders deals first = first ∷ []

-- the offences in continuous trading with this first one
abbrev pub continuous_offences_of : OffenceKind → List Order → List Deal → Finding → List Finding
continuous_offences_of Alone orders deals first = first ∷ []
continuous_offences_of OfDeal orders deals first = continuous_offences orders deals
continuous_offences_of OfPriority orders deals first = continuous_offences orders deals
continuous_offences_of OfBook orders deals first = continuous_offences orders deals

-- the offences of deals under a rule, by the first offence
abbrev pub offences_of : Rule → List Order → List Deal → Finding → List Finding
offences_of rule.Matching orders deals first =
    call_offences_of (offence_kind first.property) false orders deals first
offences_of rule.Fair orders deals first =
    call_offences_of (offence_kind first.property) false orders deals first
offences_of rule.Uniform orders deals first =
    call_offences_of (offence_kind first.property) true orders deals first
offences_of rule.Maximum orders deals first =
    call_offences_of (offence_kind first.property) false orders deals first
offences_of rule.Continuous orders deals first =
    continuous_offences_of (offence_kind first.property) orders deals first

-- none where there is no first offence, since the deals conform
abbrev pub rule_offences : Rule → List Order → List Deal → Option Finding → List Finding
rule_offences the_rule orders deals None = []
rule_offences the_rule orders deals (Some first) = offences_of the_rule orders deals first

-- the offences on the records of two logs, by the finding of their verdict, which is nothing where
-- they are accepted: a finding that is looked for before the rule stands alone
abbrev pub record_offences : Rule → List ℕ → List OrderRecord → Result (List TradeRecord) Finding
    → Option Finding → List Finding
record_offences the_rule symbol entries trades None = []
record_offences the_rule symbol entries trades (Some first) =
    let orders = order_list symbol entries in
    if is_some (finding_before_rule the_rule symbol entries trades) then first ∷ []
    else offences_of the_rule orders (deals_of_symbol orders symbol (paired_trades trades)) first
