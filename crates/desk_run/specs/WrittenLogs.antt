-- What the commands answer that write logs: `orders` and `convert`.
use Rattle.std.specs.Prelude.{ℕ, List, Result, MatchResult}
use Rattle.audit_base.specs.declared.findings.Finding.{Finding}
use Rattle.audit_base.specs.declared.records.TradeRecord.{TradeRecord}
use Rattle.audit_base.specs.declared.terms.Form.{Form}
use Rattle.audit_base.specs.declared.terms.Which.{Which}
use Rattle.audit_base.specs.declared.terms.Which.TheVariants.{Orders, Trades}
use Rattle.audit_report.specs.declared.statuses.Status.{Status}
use Rattle.audit_report.specs.declared.statuses.Status.TheVariants.{Accepted}
use Rattle.audit_report.specs.declared.verdicts.Verdict.TheVariants.{Malformed, Rejected}
use Rattle.command_run.specs.VerdictAnswers.{IsAnswerWith, IsDone, IsVerdictAnswer}
use Rattle.written_logs.specs.GeneratedTexts.{generated_text}
use Rattle.log_verdict.specs.LogVerdicts.{Log, records_of_order_log, trades_of_trade_log}
use Rattle.written_logs.specs.Texts.{IsLogOfOrders, IsLogOfTrades}

-- `orders` answers the generated log of START and COUNT
abbrev pub IsGeneratedAnswer : ℕ → ℕ → Form → Status → List ℕ → Type 0
IsGeneratedAnswer start count form = IsAnswerWith Accepted (generated_text form start count)

-- over trades `convert` answers their log; where trade reports do not pair, the finding
abbrev pub WritesTrades : Form → Result (List TradeRecord) Finding → Status → List ℕ → Type 0
WritesTrades into paired status text =
    MatchResult paired (λ trades. IsDone (IsLogOfTrades into trades) status text)
    (λ finding. IsVerdictAnswer (Rejected finding) status text)

-- `convert` answers the first bad place of a log out of its grammar; else the log of its records in
-- the second form, or, of a trade log whose reports do not pair, the finding
abbrev pub IsWrittenLogAnswer : Which → Form → Log → Status → List ℕ → Type 0
IsWrittenLogAnswer Orders into log status text =
    MatchResult (records_of_order_log log.form log.bytes)
    (λ entries. IsDone (IsLogOfOrders into entries) status text)
    (λ bad. IsVerdictAnswer (Malformed Orders bad) status text)
IsWrittenLogAnswer Trades into log status text =
    MatchResult (trades_of_trade_log log.form log.bytes)
    (λ paired. WritesTrades into paired status text)
    (λ bad. IsVerdictAnswer (Malformed Trades bad) status text)
