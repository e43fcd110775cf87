-- What a reading of two logs is about, and what it finds before any rule is looked at.
use Rattle.std.specs.Prelude.{ℕ, List, [], ◌∷◌, Option, None, Result, is_some, if◌then◌else◌}
use Rattle.audit_base.specs.declared.findings.Finding.{Finding}
use Rattle.audit_base.specs.declared.orders.Order.{Order}
use Rattle.audit_base.specs.declared.records.OrderRecord.{OrderRecord}
use Rattle.audit_base.specs.declared.records.TradeRecord.{TradeRecord}
use Rattle.audit_base.specs.declared.terms.Rule.{Rule}
use Rattle.audit_base.specs.RuleKinds.{call_rule}
use Rattle.audit_base.specs.Histories.{history_finding, instant_order_finding, order_list}
use Rattle.audit_base.specs.Least.{first_answer}
use Rattle.audit_base.specs.Trades.{trades_finding}
use Rattle.audit_base.specs.Verdicts.{pairing_finding, paired_trades}
use Rattle.record_verdict.specs.declared.questions.Question.{Question}
use Rattle.record_verdict.specs.declared.scopes.Admission.{Admission}
use Rattle.record_verdict.specs.declared.scopes.Admission.TheVariants as admission
use Rattle.record_verdict.specs.declared.scopes.Scope.{Scope}

-- a rule of a call admits orders that rest, continuous trading admits all
abbrev pub admission_of : Rule → Admission
admission_of the_rule =
    if is_some (call_rule the_rule) then admission.Resting else admission.All

-- what of a question a reading needs to know: the symbol, and which orders the rule admits
abbrev pub scope_of : Question → Scope
scope_of q = record { symbol = q.symbol; admission = admission_of q.rule }

-- finding 16: the first order that is not admitted
abbrev pub unadmitted_order_finding : Admission → List Order → Option Finding
unadmitted_order_finding admission.Resting orders = instant_order_finding orders
unadmitted_order_finding admission.All orders = None

-- the findings before those of a rule, in the order of the stages: 1 to 3, 16, 4, 5 and 6
abbrev pub finding_before_rule_in_scope : Scope → List OrderRecord
    → Result (List TradeRecord) Finding
    → Option Finding
finding_before_rule_in_scope scope entries trades =
    let orders = order_list scope.symbol entries in
    first_answer (history_finding scope.symbol entries
    ∷ unadmitted_order_finding scope.admission orders
    ∷ pairing_finding trades
    ∷ trades_finding orders scope.symbol (paired_trades trades) ∷ [])

-- what a reading needs to know for a rule of a call: the symbol, and that orders which rest are
-- admitted
abbrev pub call_scope : List ℕ → Scope
call_scope symbol = record { symbol = symbol; admission = admission.Resting }

-- what it needs to know for a session: all orders are admitted, since an order that does not rest
-- is found by the phase that it is in, where that is a call
abbrev pub session_scope : List ℕ → Scope
session_scope symbol = record { symbol = symbol; admission = admission.All }
