-- That there is an answer under each of the five rules, and only one, as statements.
use Rattle.std.specs.Prelude.{◌≡◌, ◌<◌, ◌^◌, ℕ, List, All, Option, Result, length}
use Rattle.audit_base.specs.declared.terms.Rule.{Rule}
use Rattle.audit_base.specs.declared.terms.Rule.TheVariants as rule
use Rattle.audit_base.specs.declared.orders.Order.{Order}
use Rattle.audit_base.specs.declared.orders.Deal.{Deal}
use Rattle.audit_base.specs.declared.findings.Finding.{Finding}
use Rattle.audit_base.specs.declared.records.OrderRecord.{OrderRecord}
use Rattle.audit_base.specs.declared.records.TradeRecord.{TradeRecord}
use Rattle.audit_base.specs.Orders.{IsOrderList, OrdersInRange}
use Rattle.audit_base.specs.Deals.{NamesOrders, DealsInRange}
use Rattle.audit_base.specs.Rules.{Conforms}
use Rattle.audit_base.specs.Histories.{WellFormed, order_list, Regular}
use Rattle.audit_base.specs.Trades.{TradesInRange}
use Rattle.audit_base.specs.Verdicts.{paired_trades, IsRuleFinding, IsRecordFinding}

-- the order list is regular, where the rule is that of continuous trading, which asks for it
abbrev pub RegularIfContinuous : Rule → List Order → Type 0
RegularIfContinuous the_rule orders = the_rule ≡ rule.Continuous → Regular orders

-- under each of the five rules some list of deals conforms, with numbers in range
abbrev pub ConformingListExists : Type 0
ConformingListExists = (the_rule : Rule) (orders : List Order)
    → IsOrderList orders → OrdersInRange orders → RegularIfContinuous the_rule orders
    → (deals : List Deal) × DealsInRange deals × Conforms the_rule orders deals

-- so each well-formed history has such a list under each of them
abbrev pub HistoryHasConformingList : Type 0
HistoryHasConformingList = (the_rule : Rule) (symbol : List ℕ) (entries : List OrderRecord)
    → length entries < 2 ^ 32 → OrdersInRange (order_list symbol entries)
    → WellFormed symbol entries
    → (deals : List Deal) × DealsInRange deals × Conforms the_rule (order_list symbol entries) deals

-- under each of the five rules every list of deals conforms or has a first offence
abbrev pub RuleVerdictExists : Type 0
RuleVerdictExists = (the_rule : Rule) (orders : List Order) (deals : List Deal) (count : ℕ)
    → IsOrderList orders → OrdersInRange orders → All (NamesOrders orders) deals
    → DealsInRange deals
    → (verdict : Option Finding) × IsRuleFinding the_rule orders deals count verdict

-- under each of the five rules two logs that have been read have a verdict
abbrev pub VerdictExists : Type 0
VerdictExists = (the_rule : Rule) (symbol : List ℕ) (entries : List OrderRecord)
    (trades : Result (List TradeRecord) Finding)
    → length entries < 2 ^ 32 → OrdersInRange (order_list symbol entries)
    → TradesInRange (paired_trades trades)
    → (verdict : Option Finding) × IsRecordFinding the_rule symbol entries trades verdict

-- and at most one
abbrev pub VerdictIsTheOnlyOne : Type 0
VerdictIsTheOnlyOne = (the_rule : Rule) (symbol : List ℕ) (entries : List OrderRecord)
    (trades : Result (List TradeRecord) Finding) (one other : Option Finding)
    → TradesInRange (paired_trades trades)
    → IsRecordFinding the_rule symbol entries trades one
    → IsRecordFinding the_rule symbol entries trades other
    → one ≡ other
