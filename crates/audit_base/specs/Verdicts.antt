-- The finding on the records of two logs, or none: the first stage with an answer decides.
use Rattle.std.specs.Prelude.{◌≡◌, ℕ, List, [], ◌∷◌, Option, None, Some, Result, Ok, Err, length, MatchOption, option_and_then}
use Rattle.audit_base.specs.declared.terms.Rule.{Rule}
use Rattle.audit_base.specs.declared.records.OrderRecord.{OrderRecord}
use Rattle.audit_base.specs.declared.records.TradeRecord.{TradeRecord}
use Rattle.audit_base.specs.declared.orders.Order.{Order}
use Rattle.audit_base.specs.declared.orders.Deal.{Deal}
use Rattle.audit_base.specs.declared.findings.Finding.{Finding}
use Rattle.audit_base.specs.Least.{first_answer}
use Rattle.audit_base.specs.Histories.{history_finding, order_list, instant_order_finding}
use Rattle.audit_base.specs.Trades.{trades_finding, deals_of_symbol}
use Rattle.audit_base.specs.RuleKinds.{call_rule}
use Rattle.audit_base.specs.Rules.{Conforms}
use Rattle.audit_base.specs.CallOffences.{IsCallOffence}
use Rattle.audit_base.specs.ContinuousOffences.{IsContinuousOffence}

-- finding 16 is looked for under the four rules of a call
abbrev pub instant_finding_of_rule : Rule → List Order → Option Finding
instant_finding_of_rule the_rule orders =
    option_and_then (λ call. instant_order_finding orders) (call_rule the_rule)

-- finding 4: a trade log that has been read is its trades,
-- or this finding where its reports do not pair
abbrev pub pairing_finding : Result (List TradeRecord) Finding → Option Finding
pairing_finding (Ok trades) = None
pairing_finding (Err finding) = Some finding

-- the trades of such a log
abbrev pub paired_trades : Result (List TradeRecord) Finding → List TradeRecord
paired_trades (Ok trades) = trades
paired_trades (Err finding) = []

-- the findings before those of the rule, in the order of the stages: 1 to 3, 16, 4, 5 and 6
abbrev pub finding_before_rule : Rule → List ℕ → List OrderRecord
    → Result (List TradeRecord) Finding
    → Option Finding
finding_before_rule the_rule symbol entries trades =
    first_answer (history_finding symbol entries
    ∷ instant_finding_of_rule the_rule (order_list symbol entries)
    ∷ pairing_finding trades
    ∷ trades_finding (order_list symbol entries) symbol (paired_trades trades) ∷ [])

-- First offence of a rule; `count` is the number of trades of the whole log
abbrev pub IsFirstOffence : Rule → List Order → List Deal → ℕ → Finding → Type 0
IsFirstOffence the_rule orders deals count finding =
    MatchOption (call_rule the_rule) (IsContinuousOffence orders deals finding)
    (λ call. IsCallOffence call orders deals count finding)

-- what the rule says: nothing where the deals conform, else the first offence
abbrev pub IsRuleFinding : Rule → List Order → List Deal → ℕ → Option Finding → Type 0
IsRuleFinding the_rule orders deals count found =
    MatchOption found (Conforms the_rule orders deals)
    (IsFirstOffence the_rule orders deals count)

-- the finding on the records of two logs, or none, where the logs are accepted
abbrev pub IsRecordFinding : Rule → List ℕ → List OrderRecord → Result (List TradeRecord) Finding
    → Option Finding → Type 0
IsRecordFinding the_rule symbol entries trades found =
    let orders = order_list symbol entries in
    MatchOption (finding_before_rule the_rule symbol entries trades)
    (IsRuleFinding the_rule orders (deals_of_symbol orders symbol (paired_trades trades))
    (length (paired_trades trades)) found)
    (λ finding. found ≡ Some finding)
