-- That two logs have one verdict, whatever forms they are in.
use Rattle.std.specs.Prelude.{◌≡◌, List, Result}
use Rattle.audit_base.specs.declared.findings.Finding.{Finding}
use Rattle.audit_base.specs.declared.records.OrderRecord.{OrderRecord}
use Rattle.audit_base.specs.declared.records.TradeRecord.{TradeRecord}
use Rattle.audit_report.specs.declared.verdicts.Verdict.{Verdict}
use Rattle.record_verdict.specs.declared.questions.Question.{Question}
use Rattle.log_verdict.specs.LogVerdicts.{Log, HaveRecords, IsLogVerdict}

-- one verdict: two logs have one verdict on a question
abbrev pub OneVerdict : Type 0
OneVerdict = (q : Question) (orders trades : Log) (a b : Verdict)
    → IsLogVerdict q orders trades a → IsLogVerdict q orders trades b → a ≡ b

-- forms agree: two pairs of logs of the same records and trades have the same verdict on a question
abbrev pub FormsAgree : Type 0
FormsAgree = (q : Question) (orders trades orders' trades' : Log) (entries : List OrderRecord)
    (paired : Result (List TradeRecord) Finding) (a b : Verdict)
    → HaveRecords orders trades entries paired → HaveRecords orders' trades' entries paired
    → IsLogVerdict q orders trades a → IsLogVerdict q orders' trades' b → a ≡ b
