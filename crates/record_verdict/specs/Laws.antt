-- What follows of the verdict on records, as laws.
use Rattle.std.specs.Prelude.{◌≡◌, List, None, Result, Ok, length}
use Rattle.audit_base.specs.declared.findings.Finding.{Finding}
use Rattle.audit_base.specs.declared.orders.Deal.{Deal}
use Rattle.audit_base.specs.declared.records.OrderRecord.{OrderRecord}
use Rattle.audit_base.specs.declared.records.TradeRecord.{TradeRecord}
use Rattle.audit_base.specs.Deals.{DealsInRange}
use Rattle.audit_base.specs.Histories.{order_list}
use Rattle.audit_base.specs.Trades.{deals_of_symbol}
use Rattle.audit_base.specs.Verdicts.{finding_before_rule}
use Rattle.audit_report.specs.declared.verdicts.Verdict.{Verdict}
use Rattle.record_verdict.specs.declared.questions.Question.{Question}
use Rattle.record_verdict.specs.RecordVerdicts.{IsRecordVerdict}
use Rattle.record_verdict.specs.Stages.{VerdictFollowsDeals}

-- the records of two logs have one verdict on a question
abbrev pub RecordVerdictIsOne : Type 0
RecordVerdictIsOne = (q : Question) (entries : List OrderRecord)
    (paired : Result (List TradeRecord) Finding) (a b : Verdict)
    → IsRecordVerdict q entries paired a → IsRecordVerdict q entries paired b → a ≡ b

-- where nothing is found before the rule, the verdict on the deals of the trades
-- is that on the records
abbrev pub SoundTradesHaveVerdict : Type 0
SoundTradesHaveVerdict = (q : Question) (entries : List OrderRecord) (trades : List TradeRecord)
    (deals : List Deal) (the_verdict : Verdict)
    → finding_before_rule q.rule q.symbol entries (Ok trades) ≡ None
    → deals ≡ deals_of_symbol (order_list q.symbol entries) q.symbol trades → DealsInRange deals
    → VerdictFollowsDeals q (order_list q.symbol entries) deals (length trades) the_verdict
    → IsRecordVerdict q entries (Ok trades) the_verdict
