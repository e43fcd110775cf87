-- What the commands about certificates answer: `certify` and `verify`.
use Rattle.std.specs.Prelude.{◌≡◌, ◌⊎◌, ℕ, List, Result, MatchOption}
use Rattle.audit_base.specs.declared.findings.Finding.{Finding}
use Rattle.audit_base.specs.declared.orders.Deal.{Deal}
use Rattle.audit_base.specs.declared.orders.Order.{Order}
use Rattle.audit_base.specs.declared.records.OrderRecord.{OrderRecord}
use Rattle.audit_base.specs.declared.records.TradeRecord.{TradeRecord}
use Rattle.audit_base.specs.declared.terms.Rule.{Rule}
use Rattle.audit_base.specs.Deals.{volume}
use Rattle.audit_base.specs.Histories.{order_list}
use Rattle.audit_base.specs.Rules.{Conforms}
use Rattle.audit_base.specs.Trades.{deals_of_symbol}
use Rattle.record_verdict.specs.Scopes.{finding_before_rule_in_scope, call_scope}
use Rattle.audit_base.specs.Verdicts.{paired_trades}
use Rattle.audit_certificate.specs.Agreement.{AgreesUnder, AgreesUnderNone, IsCertificateUnder, IsFirstRefused}
use Rattle.audit_report.specs.declared.statuses.Status.{Status}
use Rattle.audit_report.specs.declared.statuses.Status.TheVariants as status
use Rattle.audit_report.specs.declared.verdicts.Verdict.{Verdict}
use Rattle.audit_report.specs.declared.verdicts.Verdict.TheVariants.{Accepted, Rejected, Malformed}
use Rattle.audit_report.specs.Certificates.{refused_line, verified_line}
use Rattle.record_verdict.specs.declared.questions.Question.{Question}
use Rattle.log_verdict.specs.LogVerdicts.{Log, HaveRecords, IsLogVerdict, OfLogs}
use Rattle.command_run.specs.VerdictAnswers.{IsDone, IsVerdictAnswer}

-- The logs have orders and deals, and the text is their certificate, which agrees.
pub record IsCertificateOf (q : Question) (orders trades : Log) (text : List ℕ) : Type 0 where
  pub entries : List OrderRecord
  pub paired : Result (List TradeRecord) Finding
  pub logs : HaveRecords orders trades entries paired
  pub certificate : let orders = order_list q.symbol entries in
      IsCertificateUnder q.rule q.symbol orders
      (deals_of_symbol orders q.symbol (paired_trades paired)) text
  pub agrees : let orders = order_list q.symbol entries in
      AgreesUnder q.rule q.symbol orders
      (deals_of_symbol orders q.symbol (paired_trades paired)) text

-- the answer by a verdict, but with a text of this kind in the place of the accepted text
abbrev pub IsVerdictAnswerWith : (List ℕ → Type 0) → Verdict → Status → List ℕ → Type 0
IsVerdictAnswerWith is_text (Accepted accepted) status text = IsDone is_text status text
IsVerdictAnswerWith is_text (Rejected finding) status text =
    IsVerdictAnswer (Rejected finding) status text
IsVerdictAnswerWith is_text (Malformed log bad) status text =
    IsVerdictAnswer (Malformed log bad) status text

-- `certify` answers by the verdict on two logs, as `audit` does, but with their certificate in
-- the place of the accepted text.
pub record IsCertifyAnswer (q : Question) (orders trades : Log) (status : Status)
    (text : List ℕ) : Type 0 where
  pub verdict : Verdict
  pub is : IsLogVerdict q orders trades verdict
  pub answer : IsVerdictAnswerWith (IsCertificateOf q orders trades) verdict status text

-- The certificate agrees under a rule, to which the deals then conform, and the line says so.
pub record IsVerified (symbol : List ℕ) (orders : List Order) (deals : List Deal)
    (certificate : List ℕ) (the_status : Status) (text : List ℕ) : Type 0 where
  pub the_rule : Rule
  pub agrees : AgreesUnder the_rule symbol orders deals certificate
  pub conforms : Conforms the_rule orders deals
  pub status_is : the_status ≡ status.Accepted
  pub text_is : text ≡ verified_line the_rule symbol (volume deals)

-- The certificate agrees under no rule, and the line has the number of its first line
-- that is refused.
pub record IsCertificateRefused (symbol : List ℕ) (orders : List Order) (deals : List Deal)
    (certificate : List ℕ) (the_status : Status) (text : List ℕ) : Type 0 where
  pub line : ℕ
  pub first : IsFirstRefused symbol orders deals certificate line
  pub none : AgreesUnderNone symbol orders deals certificate
  pub status_is : the_status ≡ status.Rejected
  pub text_is : text ≡ refused_line line

-- over sound trades `verify` answers under which rule the certificate agrees, or which of its
-- lines is the first that is refused
abbrev pub VerifiesDeals : List ℕ → List Order → List Deal → List ℕ → Status → List ℕ → Type 0
VerifiesDeals symbol orders deals certificate the_status text =
    IsVerified symbol orders deals certificate the_status text
    ⊎ IsCertificateRefused symbol orders deals certificate the_status text

-- over records `verify` answers a finding that comes before any rule of a call, if there is one;
-- else what it answers over their deals
abbrev pub VerifiesRecords : List ℕ → List ℕ → List OrderRecord
    → Result (List TradeRecord) Finding → Status → List ℕ → Type 0
VerifiesRecords symbol certificate entries paired the_status text =
    let orders = order_list symbol entries in
    MatchOption (finding_before_rule_in_scope (call_scope symbol) entries paired)
    (VerifiesDeals symbol orders (deals_of_symbol orders symbol (paired_trades paired)) certificate
    the_status text)
    (λ finding. IsVerdictAnswer (Rejected finding) the_status text)

-- `verify` answers the first bad place of logs out of their grammar; else what it
-- answers over their records
abbrev pub IsVerifyAnswer : List ℕ → Log → Log → List ℕ → Status → List ℕ → Type 0
IsVerifyAnswer symbol orders trades certificate the_status text =
    OfLogs
    (λ entries paired. VerifiesRecords symbol certificate entries paired the_status text)
    (λ log bad. IsVerdictAnswer (Malformed log bad) the_status text) orders trades
