-- The verdict on the records of two logs: the finding of the rules,
-- or what is reported of an accepted log.
use Rattle.std.specs.Prelude.{◌≡◌, ◌<◌, ℕ, Bool, true, false, nat_lt, List, [], Option, None, Result, length, map, filter_map, flat_map, is_some, if◌then◌else◌, MatchOption, IfSome, IsSomeAnd}
use Rattle.std.specs.List.{range_with_len}
use Rattle.audit_base.specs.declared.terms.Rule.{Rule}
use Rattle.audit_base.specs.declared.terms.Rule.TheVariants as rule
use Rattle.audit_base.specs.declared.records.OrderRecord.{OrderRecord}
use Rattle.audit_base.specs.declared.records.TradeRecord.{TradeRecord}
use Rattle.audit_base.specs.declared.orders.Order.{Order}
use Rattle.audit_base.specs.declared.orders.Deal.{Deal}
use Rattle.audit_base.specs.declared.orders.Cut.{Cut}
use Rattle.audit_base.specs.declared.findings.Finding.{Finding}
use Rattle.audit_base.specs.RuleKinds.{call_rule, volume_rule_of_call, rule_of_volume, volume_rule}
use Rattle.audit_base.specs.Orders.{order_at, place_at}
use Rattle.audit_base.specs.Deals.{traded, pair, volume}
use Rattle.audit_base.specs.Shows.{with_traded_number}
use Rattle.audit_base.specs.Histories.{order_list}
use Rattle.audit_base.specs.Least.{only_if}
use Rattle.audit_base.specs.Trades.{deals_of_symbol}
use Rattle.audit_base.specs.Rules.{Only, OnlyPair}
use Rattle.audit_base.specs.Verdicts.{IsRecordFinding, paired_trades}
use Rattle.audit_report.specs.declared.tables.Line.{Line}
use Rattle.audit_report.specs.declared.tables.Line.TheVariants as line
use Rattle.audit_report.specs.declared.verdicts.Accepted.{Accepted}
use Rattle.audit_report.specs.declared.verdicts.Verdict.{Verdict}
use Rattle.audit_report.specs.declared.verdicts.Verdict.TheVariants as verdict
use Rattle.call_audit.specs.Audits.{IsReachedBound}
use Rattle.record_verdict.specs.declared.questions.Question.{Question}

-- what is asked of two logs: the rule, the symbol, and whether a table is wanted
abbrev pub question : Rule → List ℕ → Bool → Question
question the_rule symbol table = record { rule = the_rule; symbol = symbol; table = table }

-- the line of an order of a call, with what it trades
abbrev pub order_line_at : List Order → List Deal → ℕ → Line
order_line_at orders deals i = line.Order (with_traded_number (order_at orders i) (traded deals i))

-- the line of a bid and an ask that trade with one another
abbrev pub pair_line_at : List Order → List Deal → ℕ → ℕ → Option Line
pair_line_at orders deals bid ask = only_if (nat_lt 0 (pair deals bid ask))
    (line.Pair (place_at orders bid) (place_at orders ask) (pair deals bid ask))

-- of a call each order of the history, cancelled ones too, in log order
abbrev pub order_table_lines : List Order → List Deal → List Line
order_table_lines orders deals = map (order_line_at orders deals) (range_with_len 0 (length orders))

-- of continuous trading each pair that trades, in order of the bid and then of the ask
abbrev pub pair_table_lines : List Order → List Deal → List Line
pair_table_lines orders deals = let indices = range_with_len 0 (length orders) in
    flat_map (λ bid. filter_map (pair_line_at orders deals bid) indices) indices

-- the lines of a rule: of a call its orders, of continuous trading its pairs
abbrev pub rule_lines : Rule → List Order → List Deal → List Line
rule_lines the_rule orders deals =
    if is_some (call_rule the_rule) then order_table_lines orders deals
    else pair_table_lines orders deals

-- the table of a log, where one is asked for
abbrev pub table_lines : Rule → Bool → List Order → List Deal → List Line
table_lines the_rule false orders deals = []
table_lines the_rule true orders deals = rule_lines the_rule orders deals

-- the bound that is reported: where the rule asks for the greatest volume, the least price that
-- shows the volume, else none
abbrev pub IsReportedBound : Rule → List Order → ℕ → Option Cut → Type 0
IsReportedBound the_rule orders volume bound =
    MatchOption (volume_rule the_rule) (bound ≡ None)
    (λ r. IsSomeAnd bound (IsReachedBound r orders volume))

-- each order's quantity is the only conforming one
abbrev pub EachOnly : Rule → List Order → List Deal → Type 0
EachOnly the_rule orders deals =
    (i : ℕ) → i < length orders → Only the_rule orders i (traded deals i)

-- each pair's quantity is the only one that conforms to continuous trading
abbrev pub EachPairOnly : List Order → List Deal → Type 0
EachPairOnly orders deals =
    (bid ask : ℕ) → OnlyPair rule.Continuous orders bid ask (pair deals bid ask)

-- the quantities are the only conforming ones: of a call that asks for the greatest volume each
-- order's, of continuous trading each pair's; a call that does not ask for it claims none
abbrev pub AreOnlyQuantities : Rule → List Order → List Deal → Type 0
AreOnlyQuantities the_rule orders deals =
    MatchOption (call_rule the_rule) (EachPairOnly orders deals)
    (λ call. IfSome (volume_rule_of_call call) (λ r. EachOnly (rule_of_volume r) orders deals))

-- What is reported of a log that conforms; its quantities are the only conforming ones.
pub record IsAcceptedLog (q : Question) (orders : List Order) (deals : List Deal)
    (accepted : Accepted) : Type 0 where
  pub rule_is : accepted.rule ≡ q.rule
  pub symbol_is : accepted.symbol ≡ q.symbol
  pub orders_are : accepted.orders ≡ length orders
  pub trades_are : accepted.trades ≡ length deals
  pub volume_is : accepted.volume ≡ volume deals
  pub bound_is : IsReportedBound q.rule orders (volume deals) accepted.bound
  pub table_is : accepted.table ≡ table_lines q.rule q.table orders deals
  pub only : AreOnlyQuantities q.rule orders deals

-- the verdict is that the log is accepted
abbrev pub IsAcceptance : Question → List Order → List Deal → Verdict → Type 0
IsAcceptance q orders deals (verdict.Accepted accepted) =
    IsAcceptedLog q orders deals accepted
IsAcceptance q orders deals (verdict.Rejected finding) = ⊥
IsAcceptance q orders deals (verdict.Malformed log bad) = ⊥

-- the verdict is this finding, or, where there is none, that the log is accepted
abbrev pub IsOutcomeByFinding : Question → List Order → List Deal → Option Finding
    → Verdict → Type 0
IsOutcomeByFinding q orders deals found the_verdict =
    MatchOption found (IsAcceptance q orders deals the_verdict)
    (λ finding. the_verdict ≡ verdict.Rejected finding)

-- The verdict on the records of two logs is that of the rules, which have no other. `trades` are
-- those of the trade log, or finding 4 in their place.
pub record IsRecordVerdict (q : Question) (entries : List OrderRecord)
    (trades : Result (List TradeRecord) Finding) (the_verdict : Verdict) : Type 0 where
  pub found : Option Finding
  pub by_the_rules : IsRecordFinding q.rule q.symbol entries trades found
  pub one : (other : Option Finding) → IsRecordFinding q.rule q.symbol entries trades other
      → other ≡ found
  pub outcome : let orders = order_list q.symbol entries in
      IsOutcomeByFinding q orders
      (deals_of_symbol orders q.symbol (paired_trades trades)) found the_verdict
