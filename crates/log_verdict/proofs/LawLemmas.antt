-- Two logs have one verdict, and logs of the same records have the same.
use Rattle.std.proofs.Common.{◌≡◌, ◌∙◌, sym, List, Result, Ok, Err}
use Rattle.std.specs.Prelude.{MatchResult}
use Rattle.audit_base.specs.declared.faults.BadPlace.{BadPlace}
use Rattle.audit_base.specs.declared.findings.Finding.{Finding}
use Rattle.audit_base.specs.declared.records.OrderRecord.{OrderRecord}
use Rattle.audit_base.specs.declared.records.TradeRecord.{TradeRecord}
use Rattle.audit_base.specs.declared.terms.Which.TheVariants.{Orders, Trades}
use Rattle.audit_report.specs.declared.verdicts.Verdict.{Verdict}
use Rattle.audit_report.specs.declared.verdicts.Verdict.TheVariants as verdict
use Rattle.record_verdict.specs.declared.questions.Question.{Question}
use Rattle.record_verdict.specs.RecordVerdicts.{IsRecordVerdict}
use Rattle.record_verdict.specs.Laws.{RecordVerdictIsOne}
use Rattle.log_verdict.specs.Laws.{FormsAgree, OneVerdict}
use Rattle.log_verdict.specs.LogVerdicts.{records_of_order_log, trades_of_trade_log}

one-said : RecordVerdictIsOne → (q : Question) (orders : Result (List OrderRecord) BadPlace) (trades : Result (Result (List TradeRecord) Finding) BadPlace) (a b : Verdict)
    → MatchResult orders (λ entries. MatchResult trades (λ paired. IsRecordVerdict q entries paired a) (λ bad. a ≡ verdict.Malformed Trades bad)) (λ bad. a ≡ verdict.Malformed Orders bad)
    → MatchResult orders (λ entries. MatchResult trades (λ paired. IsRecordVerdict q entries paired b) (λ bad. b ≡ verdict.Malformed Trades bad)) (λ bad. b ≡ verdict.Malformed Orders bad)
    → a ≡ b
one-said only_one q (Ok entries) (Ok paired) a b x y = only_one q entries paired a b x y
one-said only_one q (Ok entries) (Err bad) a b x y = x ∙ sym y
one-said only_one q (Err bad) trades a b x y = x ∙ sym y

pub one-verdict : RecordVerdictIsOne → OneVerdict
one-verdict only_one q orders trades a b x y = one-said only_one q (records_of_order_log orders.form orders.bytes) (trades_of_trade_log trades.form trades.bytes) a b x y

pub forms-agree : RecordVerdictIsOne → FormsAgree
forms-agree only_one q orders trades orders' trades' entries paired a b have have' x y =
    let here : IsRecordVerdict q entries paired a = rw (have.records, have.trades_are) at x in
    let there : IsRecordVerdict q entries paired b = rw (have'.records, have'.trades_are) at y in
    only_one q entries paired a b here there
