-- The page of what two logs give is the page of the verdict on the records that give it.
use Rattle.std.proofs.Common.{◌≡◌, ◌∙◌, sym, ap, subst, ℕ, Bool, true, false, List, [], Option, Some, None, Result}
use Rattle.audit_base.specs.declared.findings.Finding.{Finding}
use Rattle.audit_base.specs.declared.orders.Deal.{Deal}
use Rattle.audit_base.specs.declared.orders.Order.{Order}
use Rattle.audit_base.specs.declared.records.OrderRecord.{OrderRecord}
use Rattle.audit_base.specs.declared.records.TradeRecord.{TradeRecord}
use Rattle.audit_base.specs.Histories.{order_list}
use Rattle.audit_base.specs.Trades.{deals_of_symbol}
use Rattle.audit_base.specs.Verdicts.{paired_trades}
use Rattle.audit_report.specs.declared.statuses.Status.{Status}
use Rattle.audit_report.specs.declared.verdicts.Verdict.{Verdict}
use Rattle.audit_report.specs.declared.verdicts.Verdict.TheVariants as verdict
use Rattle.audit_report.specs.Statuses.{verdict_status}
use Rattle.command_run.specs.declared.answers.Answer.{Answer}
use Rattle.command_run.specs.Deciding.{IsAnswerOfKind}
use Rattle.matching_core.specs.declared.deals_draft.ResolvedTrades.{ResolvedTrades}
use Rattle.desk_page.specs.PageAnswers.{verdict_finding, in_words, IsPageAfter, IsPageOfMarket, Pictures}
use Rattle.desk_page.specs.Telling.{IsAnswerByEmptiness, IsAnswerToGiven, IsNamedByAbsence, IsPageOfFinding}
use Rattle.record_verdict.specs.declared.before_rule.BeforeRule.{BeforeRule}
use Rattle.record_verdict.specs.declared.before_rule.BeforeRule.TheVariants as before_rule
use Rattle.record_verdict.specs.declared.questions.Question.{Question}
use Rattle.record_verdict.specs.declared.verdicts.RecordVerdict.{RecordVerdict}
use Rattle.record_verdict.specs.RecordVerdict.{as_verdict}
use Rattle.record_verdict.specs.BeforeRule.{IsBeforeRule, IsResolvedWithoutFinding}
use Rattle.record_verdict.specs.RecordVerdicts.{IsRecordVerdict}
use Rattle.record_verdict.specs.Scopes.{finding_before_rule_in_scope, scope_of}
use Rattle.record_verdict.specs.Stages.{IsVerdictAfterStages}
use Rattle.symbol_offences.specs.Laws.{AbsentHasNothing, FoundIsPresent}
use Rattle.symbol_offences.specs.OffenceAnswers.{is_absent}
use Rattle.symbol_offences.specs.Telling.{are_none}
use Rattle.page_parts.specs.declared.repeats.PageLogs.{PageLogs}
use Rattle.page_parts.specs.VerdictPages.{IsVerdictPage}

module _ (is_picture : Pictures) (q : Question) (named : PageLogs) (text : List ℕ) (v : Verdict) where
  -- where this was found before the rule, the page is that of the finding
  page-of-found : (before : Option Finding) (finding : Finding) (orders : List Order) (deals : List Deal) → before ≡ Some finding → v ≡ verdict.Rejected finding
      → IsVerdictPage (in_words q (Some finding) None) [] named text → IsPageAfter before is_picture q named orders deals (verdict_finding v) text
  page-of-found before finding orders deals found rejected page =
      subst (λ (b : Option Finding). IsPageAfter b is_picture q named orders deals (verdict_finding v) text) (sym found)
      (subst (λ (w : Verdict). IsVerdictPage (in_words q (verdict_finding w) None) [] named text) (sym rejected) page)

  -- where nothing was, it is that of the orders and deals
  page-of-sound : (before : Option Finding) (orders : List Order) (deals : List Deal) → before ≡ None
      → IsPageOfMarket is_picture q named orders deals (verdict_finding v) text → IsPageAfter before is_picture q named orders deals (verdict_finding v) text
  page-of-sound before orders deals none page = subst (λ (b : Option Finding). IsPageAfter b is_picture q named orders deals (verdict_finding v) text) (sym none) page

module _ (is_picture : Pictures) (q : Question) (named : PageLogs) (entries : List OrderRecord) (paired : Result (List TradeRecord) Finding) (v : Verdict) (has : IsRecordVerdict q entries paired v) (the_status : Status) (text : List ℕ) where
  abbrev orders : List Order
  orders = order_list q.symbol entries

  abbrev deals : List Deal
  deals = deals_of_symbol orders q.symbol (paired_trades paired)

  -- by whether the symbol is absent
  by-absence : (absent b : Bool) → absent ≡ b → IsNamedByAbsence b is_picture q named entries paired the_status text → IsNamedByAbsence absent is_picture q named entries paired the_status text
  by-absence absent b same is = subst (λ (x : Bool). IsNamedByAbsence x is_picture q named entries paired the_status text) (sym same) is

  -- a finding before the rule
  found-answer : FoundIsPresent → (finding : Finding) → finding_before_rule_in_scope (scope_of q) entries paired ≡ Some finding → v ≡ verdict.Rejected finding → IsPageOfFinding q named finding the_status text
      → IsNamedByAbsence (is_absent q.symbol entries paired) is_picture q named entries paired the_status text
  found-answer present finding found rejected told =
      by-absence (is_absent q.symbol entries paired) false (present (scope_of q) entries paired finding found)
      (record {
        the_verdict = v;
        is = has;
        status_is = told.status_is ∙ ap verdict_status (sym rejected);
        page = page-of-found is_picture q named text v _ finding orders deals found rejected told.page;
      })

  -- sound trades, by whether there is an order or a deal
  by-some : finding_before_rule_in_scope (scope_of q) entries paired ≡ None → (b : Bool) → IsAnswerByEmptiness b is_picture q named orders deals v the_status text
      → IsNamedByAbsence b is_picture q named entries paired the_status text
  by-some none true told = told
  by-some none false told = record {
    the_verdict = v;
    is = has;
    status_is = told.status_is;
    page = page-of-sound is_picture q named text v _ orders deals none told.page;
  }

  sound-answer : AbsentHasNothing → (sound : ResolvedTrades) → IsResolvedWithoutFinding (scope_of q) entries paired sound → IsAnswerByEmptiness (are_none sound.history sound.deals.items) is_picture q named sound.history sound.deals.items v the_status text
      → IsNamedByAbsence (is_absent q.symbol entries paired) is_picture q named entries paired the_status text
  sound-answer absent sound resolved told =
      by-absence (is_absent q.symbol entries paired) (are_none orders deals) (absent (scope_of q) entries paired resolved.none)
      (by-some resolved.none (are_none orders deals)
      (subst (λ (ds : List Deal). IsAnswerByEmptiness (are_none orders ds) is_picture q named orders ds v the_status text) resolved.deals
      (subst (λ (os : List Order). IsAnswerByEmptiness (are_none os sound.deals.items) is_picture q named os sound.deals.items v the_status text) resolved.orders told)))

module _ (is_picture : Pictures) (q : Question) (named : PageLogs) (given : BeforeRule) (v : RecordVerdict) (answer : Answer) (stages : IsVerdictAfterStages q given v) where
  -- a finding before the rule
  pub found-told : FoundIsPresent → (finding : Finding) → given ≡ before_rule.Found finding → IsAnswerOfKind (IsPageOfFinding q named finding) answer → IsAnswerToGiven is_picture q named given answer
  found-told present finding is told entries paired before =
      found-answer is_picture q named entries paired (as_verdict v) (stages.of_records entries paired before) answer.status answer.text.items present finding
      (subst (λ (b : BeforeRule). IsBeforeRule (scope_of q) entries paired b) is before) (ap as_verdict (stages.of_finding finding is)) told

  -- sound trades
  pub sound-told : AbsentHasNothing → (sound : ResolvedTrades) → given ≡ before_rule.Sound sound → IsAnswerOfKind (IsAnswerByEmptiness (are_none sound.history sound.deals.items) is_picture q named sound.history sound.deals.items (as_verdict v)) answer
      → IsAnswerToGiven is_picture q named given answer
  sound-told absent sound is told entries paired before =
      sound-answer is_picture q named entries paired (as_verdict v) (stages.of_records entries paired before) answer.status answer.text.items absent sound
      (subst (λ (b : BeforeRule). IsBeforeRule (scope_of q) entries paired b) is before) told
