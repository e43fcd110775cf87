-- The verdict on records, by what they give before the rule is looked at.
use Rattle.std.specs.Prelude.{◌≡◌, ℕ, List, Option, Result}
use Rattle.audit_base.specs.declared.records.OrderRecord.{OrderRecord}
use Rattle.audit_base.specs.declared.records.TradeRecord.{TradeRecord}
use Rattle.audit_base.specs.declared.orders.Order.{Order}
use Rattle.audit_base.specs.declared.orders.Deal.{Deal}
use Rattle.audit_base.specs.declared.findings.Finding.{Finding}
use Rattle.audit_base.specs.Verdicts.{IsRuleFinding}
use Rattle.audit_report.specs.declared.verdicts.Verdict.{Verdict}
use Rattle.matching_core.specs.declared.deals_draft.ResolvedTrades.{ResolvedTrades}
use Rattle.record_verdict.specs.declared.before_rule.BeforeRule.{BeforeRule}
use Rattle.record_verdict.specs.declared.before_rule.BeforeRule.TheVariants as before_rule
use Rattle.record_verdict.specs.declared.questions.Question.{Question}
use Rattle.record_verdict.specs.BeforeRule.{IsBeforeRule}
use Rattle.record_verdict.specs.declared.verdicts.RecordVerdict.{RecordVerdict}
use Rattle.record_verdict.specs.declared.verdicts.RecordVerdict.TheVariants as judged
use Rattle.record_verdict.specs.RecordVerdict.{as_verdict}
use Rattle.record_verdict.specs.Scopes.{scope_of}
use Rattle.record_verdict.specs.RecordVerdicts.{IsRecordVerdict, IsOutcomeByFinding}

-- The verdict is that of the rule where the trades are sound and these are their deals.
pub record VerdictFollowsDeals (q : Question) (orders : List Order) (deals : List Deal) (count : ℕ)
    (the_verdict : Verdict) : Type 0 where
  pub found : Option Finding
  pub by_the_rule : IsRuleFinding q.rule orders deals count found
  pub outcome : IsOutcomeByFinding q orders deals found the_verdict

-- The verdict on what records give before the rule is looked at: the finding, or that of the rule
-- on sound trades; and so it is that on whatever records give this.
pub record IsVerdictAfterStages (q : Question) (given : BeforeRule) (the_judged : RecordVerdict)
    : Type 0 where
  pub of_finding : (finding : Finding) → given ≡ before_rule.Found finding
      → the_judged ≡ judged.Rejected finding
  pub of_deals : (sound : ResolvedTrades) → given ≡ before_rule.Sound sound
      → VerdictFollowsDeals q sound.history sound.deals.items sound.count (as_verdict the_judged)
  pub of_records : (entries : List OrderRecord) (paired : Result (List TradeRecord) Finding)
      → IsBeforeRule (scope_of q) entries paired given
      → IsRecordVerdict q entries paired (as_verdict the_judged)
