-- Two logs have a verdict: that of the first bad place, or that of their records.
use Rattle.std.proofs.Common.{◌≡◌, ◌≤◌, ◌<◌, ◌^◌, ℕ, List, length, Result, Ok, Err, refl, arith}
use Rattle.std.specs.Prelude.{IfOk, MatchResult}
use Rattle.audit_base.specs.declared.faults.BadPlace.{BadPlace}
use Rattle.audit_base.specs.declared.findings.Finding.{Finding}
use Rattle.audit_base.specs.declared.records.OrderRecord.{OrderRecord}
use Rattle.audit_base.specs.declared.records.TradeRecord.{TradeRecord}
use Rattle.audit_base.specs.declared.terms.Which.TheVariants.{Orders, Trades}
use Rattle.audit_base.specs.RecordRanges.{RecordsInRange}
use Rattle.audit_base.specs.Trades.{TradesInRange}
use Rattle.audit_base.specs.Verdicts.{paired_trades}
use Rattle.audit_report.specs.declared.verdicts.Verdict.{Verdict}
use Rattle.audit_report.specs.declared.verdicts.Verdict.TheVariants.{Malformed}
use Rattle.log_source.specs.Collectors.{HasNineBytesEach}
use Rattle.log_source.specs.Sources.{longest_read}
use Rattle.record_verdict.specs.declared.questions.Question.{Question}
use Rattle.record_verdict.specs.Existence.{RecordVerdictExists}
use Rattle.record_verdict.specs.RecordVerdicts.{IsRecordVerdict}
use Rattle.log_verdict.specs.Existence.{LogVerdictExists}
use Rattle.log_verdict.specs.Laws.{OneVerdict}
use Rattle.log_verdict.specs.LogVerdicts.{records_of_order_log, trades_of_trade_log}
use Rattle.log_verdict.specs.Ranges.{OrderLogsAreInRange, OrderLogsHaveNineBytes, TradeLogsAreInRange}

few-records : (entries : List OrderRecord) (bytes : List ℕ) → HasNineBytesEach entries bytes → length bytes ≤ longest_read → length entries < 2 ^ 32
few-records entries bytes nine within = omega (arith, nine, within)

-- what two logs say has a verdict
said-verdict : RecordVerdictExists → (q : Question) (bytes : List ℕ) → length bytes ≤ longest_read → (orders : Result (List OrderRecord) BadPlace) (trades : Result (Result (List TradeRecord) Finding) BadPlace)
    → IfOk orders (λ entries. HasNineBytesEach entries bytes) → IfOk orders RecordsInRange → IfOk trades (λ paired. TradesInRange (paired_trades paired))
    → (v : Verdict) × MatchResult orders (λ entries. MatchResult trades (λ paired. IsRecordVerdict q entries paired v) (λ bad. v ≡ Malformed Trades bad)) (λ bad. v ≡ Malformed Orders bad)
said-verdict exists q bytes within (Err bad) trades nine records ranges = (Malformed Orders bad, refl)
said-verdict exists q bytes within (Ok entries) (Err bad) nine records ranges = (Malformed Trades bad, refl)
said-verdict exists q bytes within (Ok entries) (Ok paired) nine records ranges = exists q entries paired (few-records entries bytes nine within) records ranges

pub logs-verdict : OneVerdict → RecordVerdictExists → OrderLogsAreInRange → TradeLogsAreInRange → OrderLogsHaveNineBytes → LogVerdictExists
logs-verdict one exists orders_range trades_range nine q orders trades within =
    let v = said-verdict exists q orders.bytes within (records_of_order_log orders.form orders.bytes) (trades_of_trade_log trades.form trades.bytes)
    (nine orders.form orders.bytes) (orders_range orders.form orders.bytes) (trades_range trades.form trades.bytes) in
    (v.0, record { is = v.1; one = λ other is. one q orders trades other v.0 is v.1 })
