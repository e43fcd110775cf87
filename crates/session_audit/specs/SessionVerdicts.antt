-- What `session` says of one symbol: whether its trades conform phase by phase, and the text.
use Rattle.std.specs.Prelude.{◌≡◌, ◌<◌, ◌⊎◌, ℕ, Bool, true, false, List, Result, length, if◌then◌else◌, MatchOption}
use Rattle.audit_base.specs.declared.findings.Finding.{Finding}
use Rattle.audit_base.specs.declared.orders.Deal.{Deal}
use Rattle.audit_base.specs.declared.orders.Order.{Order}
use Rattle.audit_base.specs.declared.records.OrderRecord.{OrderRecord}
use Rattle.audit_base.specs.declared.records.TradeRecord.{TradeRecord}
use Rattle.audit_base.specs.Deals.{DealsInRange}
use Rattle.audit_base.specs.Histories.{order_list}
use Rattle.audit_base.specs.Trades.{deals_of_symbol}
use Rattle.audit_base.specs.Verdicts.{paired_trades}
use Rattle.audit_report.specs.declared.statuses.Status.{Status}
use Rattle.audit_report.specs.declared.statuses.Status.TheVariants.{Accepted as StatusAccepted, Rejected as StatusRejected}
use Rattle.audit_report.specs.declared.verdicts.Verdict.{Verdict}
use Rattle.audit_report.specs.declared.verdicts.Verdict.TheVariants.{Rejected}
use Rattle.audit_report.specs.Texts.{verdict_text}
use Rattle.record_verdict.specs.declared.before_rule.BeforeRule.{BeforeRule}
use Rattle.record_verdict.specs.BeforeRule.{IsBeforeRule}
use Rattle.record_verdict.specs.Scopes.{finding_before_rule_in_scope, session_scope}
use Rattle.session_audit.specs.declared.phases.Phase.{Phase}
use Rattle.session_audit.specs.Audits.{IsBrokenDay, IsConformingDay}
use Rattle.session_audit.specs.Days.{ConformsDay}
use Rattle.session_audit.specs.PhaseOrders.{traded_in_phase}
use Rattle.session_audit.specs.Texts.{day_text}
use Rattle.session_audit.specs.declared.verdicts.Session.{Session}

-- what each order trades in each phase is the only quantity that it can: all lists of deals under
-- which the day conforms have it
abbrev pub AreOnlyOfDay : List Phase → List Order → List Deal → Type 0
AreOnlyOfDay phases orders deals =
    (others : List Deal) → DealsInRange others → ConformsDay phases orders others
    → (k : ℕ) → k < length phases → (i : ℕ)
    → traded_in_phase phases orders others k i ≡ traded_in_phase phases orders deals k i

-- The deals conform phase by phase, and the text is that of their day, with what each order
-- traded over it. These quantities are the only conforming ones.
pub record IsSessionText (symbol : List ℕ) (phases : List Phase) (table : Bool)
    (orders : List Order) (deals : List Deal) (text : List ℕ) : Type 0 where
  pub totals : List ℕ × ℕ
  pub conforms : IsConformingDay phases orders deals totals
  pub only : AreOnlyOfDay phases orders deals
  pub text_is : text ≡ day_text symbol phases orders totals (length deals) table

-- The session conforms, and this is its text.
pub record IsConformingSession (symbol : List ℕ) (phases : List Phase) (table : Bool)
    (orders : List Order) (deals : List Deal) (conforms : Bool) (text : List ℕ) : Type 0 where
  pub conforms_is : conforms ≡ true
  pub is : IsSessionText symbol phases table orders deals text

-- The session does not conform, and its text is that of this verdict.
pub record IsRejectedSession (verdict : Verdict) (conforms : Bool) (text : List ℕ) : Type 0 where
  pub conforms_is : conforms ≡ false
  pub text_is : text ≡ verdict_text verdict

-- The deals do not conform, and the session is rejected with the first offence of their day.
pub record IsSessionOffence (phases : List Phase) (orders : List Order) (deals : List Deal)
    (count : ℕ) (conforms : Bool) (text : List ℕ) : Type 0 where
  pub finding : Finding
  pub broken : IsBrokenDay phases orders deals count finding
  pub is : IsRejectedSession (Rejected finding) conforms text

-- the session of sound trades: it conforms, with the text of their day, or it is rejected with
-- their first offence; `count` is the number of trades of the whole log
abbrev pub IsSessionOfDeals : List ℕ → List Phase → Bool → List Order → List Deal → ℕ → Bool
    → List ℕ → Type 0
IsSessionOfDeals symbol phases table orders deals count conforms text =
    IsConformingSession symbol phases table orders deals conforms text
    ⊎ IsSessionOffence phases orders deals count conforms text

-- the session of records: it is rejected with a finding that comes before any rule of continuous
-- trading, if there is one; else it is that of their deals. So an order that does not rest is
-- found only in a phase that is a call, by the day
abbrev pub IsSessionOfRecords : List ℕ → List Phase → Bool → List OrderRecord
    → Result (List TradeRecord) Finding → Bool → List ℕ → Type 0
IsSessionOfRecords symbol phases table entries paired conforms text =
    let orders = order_list symbol entries in
    MatchOption (finding_before_rule_in_scope (session_scope symbol) entries paired)
    (IsSessionOfDeals symbol phases table orders
    (deals_of_symbol orders symbol (paired_trades paired))
    (length (paired_trades paired)) conforms text)
    (λ finding. IsRejectedSession (Rejected finding) conforms text)

-- the status that a session is answered with: 0 where it conforms, else 1
abbrev pub session_status : Bool → Status
session_status conforms = if conforms then StatusAccepted else StatusRejected

-- What functions pass on to one another.

-- the session is of this kind
abbrev pub IsSessionOfKind : (Bool → List ℕ → Type 0) → Session → Type 0
IsSessionOfKind is_session session = is_session session.conforms session.text.items

-- this is the session of whatever records give this before the phases are looked at
abbrev pub IsSessionAfter : List ℕ → List Phase → Bool → BeforeRule → Session → Type 0
IsSessionAfter symbol phases table given session =
    (entries : List OrderRecord) (paired : Result (List TradeRecord) Finding)
    → IsBeforeRule (session_scope symbol) entries paired given
    → IsSessionOfKind (IsSessionOfRecords symbol phases table entries paired) session
