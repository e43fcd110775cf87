-- What is reported of deals that conform.
use Rattle.std.specs.Prelude.{◌≡◌, ◌<◌, ℕ, List, None, Some, length, map, slice_index, take}
use Rattle.std.specs.List.{range_with_len}
use Rattle.audit_base.specs.declared.orders.Order.{Order}
use Rattle.audit_base.specs.declared.orders.Deal.{Deal}
use Rattle.audit_base.specs.declared.terms.Rule.{Rule}
use Rattle.audit_base.specs.declared.terms.CallRule.{CallRule}
use Rattle.audit_base.specs.RuleKinds.{rule_of_call}
use Rattle.audit_base.specs.Deals.{AreTotals, volume}
use Rattle.audit_base.specs.Verdicts.{IsRuleFinding}
use Rattle.audit_base.specs.Orders.{order_at, place_at}
use Rattle.audit_base.specs.Shows.{with_traded_number}
use Rattle.audit_report.specs.declared.tables.Line.{Line}
use Rattle.audit_report.specs.declared.tables.Line.TheVariants as line
use Rattle.audit_report.specs.declared.verdicts.Verdict.{Verdict}
use Rattle.audit_report.specs.declared.verdicts.Verdict.TheVariants as verdict
use Rattle.matching_core.specs.declared.outcomes.Outcome.{Outcome}
use Rattle.matching_core.specs.declared.outcomes.Outcome.TheVariants as outcome
use Rattle.matching_core.specs.declared.outcomes.CheckFault.{CheckFault}
use Rattle.matching_core.specs.declared.outcomes.CheckFault.TheVariants as fault
use Rattle.matching_core.specs.declared.outcomes.Reached.{Reached}
use Rattle.record_verdict.specs.declared.questions.Question.{Question}
use Rattle.canonical_form.specs.declared.shares.Share.{Share}
use Rattle.record_verdict.specs.RecordVerdicts.{AreOnlyQuantities, IsReportedBound, table_lines}

-- the line of an order with what it traded
abbrev pub line_of_order : Order → ℕ → Line
line_of_order o traded = line.Order (with_traded_number o traded)

-- one line for each of the first n orders, in log order
abbrev pub lines_below : List Order → List ℕ → ℕ → List Line
lines_below orders traded n =
    map (λ i. line_of_order (order_at orders i) (slice_index traded i)) (range_with_len 0 n)

-- one line for each order
abbrev pub lines_of : List Order → List ℕ → List Line
lines_of orders traded = lines_below orders traded (length orders)

-- the line of a bid and an ask by their share, and one line for each of the first n shares
abbrev pub line_of_share : List Order → Share → Line
line_of_share orders s = line.Pair (place_at orders s.bid) (place_at orders s.ask) s.quantity

abbrev pub share_lines : List Order → List Share → ℕ → List Line
share_lines orders shares n = map (line_of_share orders) (take n shares)

-- a share is of a bid and an ask of the order list
pub record IsShareOf (orders : List Order) (s : Share) : Type 0 where
  pub bid_inside : s.bid < length orders
  pub ask_inside : s.ask < length orders

-- the verdict that deals are accepted, with the volume and the bound
abbrev pub accepted_verdict : Question → List Order → List Deal → Reached → Verdict
accepted_verdict q orders deals conforming = verdict.Accepted (record {
  rule = q.rule;
  symbol = q.symbol;
  orders = length orders;
  trades = length deals;
  volume = conforming.traded.1;
  bound = conforming.bound;
  table = table_lines q.rule q.table orders deals;
})

-- The deals conform to the rule, with what each order traded, the volume and the bound; the
-- quantities are the only ones.
pub record IsConformingUnderRule (the_rule : Rule) (orders : List Order) (deals : List Deal)
    (count : ℕ) (conforming : Reached) : Type 0 where
  pub conforms : IsRuleFinding the_rule orders deals count None
  pub totals : AreTotals orders deals conforming.traded.0
  pub volume_is : conforming.traded.1 ≡ volume deals
  pub bound_is : IsReportedBound the_rule orders (volume deals) conforming.bound
  pub only : AreOnlyQuantities the_rule orders deals

-- what the audit of a rule answers: that the deals conform, or their first offence
abbrev pub IsRuleOutcome : Rule → List Order → List Deal → ℕ → Outcome → Type 0
IsRuleOutcome the_rule orders deals count (outcome.Conforms conforming) =
    IsConformingUnderRule the_rule orders deals count conforming
IsRuleOutcome the_rule orders deals count (outcome.Broken finding) =
    IsRuleFinding the_rule orders deals count (Some finding)

-- the same of a rule of a call, whatever the number of trades of the whole log is
abbrev pub IsCallOutcomeForAnyCount : CallRule → List Order → List Deal → Outcome → Type 0
IsCallOutcomeForAnyCount the_rule orders deals the_outcome =
    (count : ℕ) → IsRuleOutcome (rule_of_call the_rule) orders deals count the_outcome

-- the outcome of deals that conform to a rule without a bound
abbrev pub conforming_outcome : List ℕ × ℕ → Outcome
conforming_outcome totals =
    outcome.Conforms (record { traded = totals; bound = None })

-- the outcome of deals in which a check found this
abbrev pub IsOutcomeOfFault : CheckFault → Outcome → Type 0
IsOutcomeOfFault (fault.Found finding) the_outcome = the_outcome ≡ outcome.Broken finding
IsOutcomeOfFault fault.Memory the_outcome = ⊥
