-- The answer to what two logs give is the answer to the records that give it.
use Rattle.std.proofs.Common.{◌≡◌, ◌++◌, ◌∙◌, refl, sym, ap, subst, ℕ, Bool, true, false, List, [], ◌∷◌, Option, Some, None, Result, length}
use Rattle.std.specs.Prelude.{◌||◌, filter_map, slice_get, IfOk}
use Rattle.std.specs.List.{range_with_len}
use Rattle.std.proofs.lemmas.Option.{none-some, same_Some}
use Rattle.std.proofs.lemmas.Result.{IfOk-weaker}
use Rattle.audit_base.specs.Moments.{Moment}
use Rattle.audit_base.specs.declared.faults.NoMemory.{NoMemory}
use Rattle.audit_base.specs.declared.findings.Finding.{Finding}
use Rattle.audit_base.specs.declared.orders.Deal.{Deal}
use Rattle.audit_base.specs.declared.orders.Order.{Order}
use Rattle.audit_base.specs.declared.records.OrderRecord.{OrderRecord}
use Rattle.audit_base.specs.declared.records.TradeRecord.{TradeRecord}
use Rattle.audit_base.specs.declared.terms.Rule.{Rule}
use Rattle.audit_base.specs.declared.terms.Rule.TheVariants as rule
use Rattle.audit_base.specs.Histories.{history_finding, order_list}
use Rattle.audit_base.specs.Least.{first_answer}
use Rattle.audit_base.specs.Trades.{deals_of_symbol, trades_finding}
use Rattle.audit_base.specs.Verdicts.{finding_before_rule, instant_finding_of_rule, paired_trades, pairing_finding}
use Rattle.audit_report.specs.declared.statuses.Status.{Status}
use Rattle.audit_report.specs.declared.statuses.Status.TheVariants as status
use Rattle.audit_report.specs.declared.verdicts.Accepted.{Accepted}
use Rattle.audit_report.specs.declared.verdicts.Verdict.TheVariants as verdict
use Rattle.command_run.specs.declared.answers.Answer.{Answer}
use Rattle.command_run.specs.Deciding.{IsAnswerOfKind}
use Rattle.command_run.specs.VerdictAnswers.{IsAnswerWith, IsVerdictAnswer}
use Rattle.further_checks.specs.declared.findings.FurtherChecks.{FurtherChecks}
use Rattle.further_checks.specs.declared.findings.FurtherFinding.{FurtherFinding}
use Rattle.further_checks.specs.FurtherRules.{asks_further, further_finding, further_findings, times_of_symbol}
use Rattle.further_checks.specs.FurtherTexts.{further_text}
use Rattle.matching_core.specs.declared.deals_draft.ResolvedTrades.{ResolvedTrades}
use Rattle.record_verdict.specs.declared.before_rule.BeforeRule.{BeforeRule}
use Rattle.record_verdict.specs.declared.before_rule.BeforeRule.TheVariants as before_rule
use Rattle.record_verdict.specs.declared.verdicts.RecordVerdict.{RecordVerdict}
use Rattle.record_verdict.specs.declared.verdicts.RecordVerdict.TheVariants as judged
use Rattle.record_verdict.specs.RecordVerdict.{as_verdict}
use Rattle.record_verdict.specs.BeforeRule.{IsBeforeRule, IsResolvedWithoutFinding}
use Rattle.record_verdict.specs.RecordVerdicts.{IsRecordVerdict}
use Rattle.record_verdict.specs.Scopes.{admission_of, finding_before_rule_in_scope, scope_of, unadmitted_order_finding}
use Rattle.record_verdict.specs.Stages.{IsVerdictAfterStages}
use Rattle.symbol_offences.specs.declared.questions.OffenceQuestion.{OffenceQuestion}
use Rattle.symbol_offences.specs.declared.symbol_before_rule.QuotedRecords.{QuotedRecords}
use Rattle.symbol_offences.specs.declared.symbol_before_rule.SymbolBeforeRule.{SymbolBeforeRule}
use Rattle.symbol_offences.specs.OffenceAnswers.{is_absent, IsAnswerByAbsence, IsAnswerByVerdict, IsAnswerToAccepted, IsAnswerToRejected, IsOffencesOfRecords}
use Rattle.symbol_offences.specs.OffenceLines.{failure_lines}
use Rattle.symbol_offences.specs.Questions.{audit_question, keeping_for, kept_if}
use Rattle.symbol_offences.specs.SymbolBeforeRule.{IsSymbolBeforeRule, quoted_records}
use Rattle.symbol_offences.specs.Telling.{are_none, IsAnswerByDeals, IsAnswerByEmptiness, IsAnswerToLogs}
use Rattle.symbol_offences.proofs.AbsenceLemmas.{found-present, sound-absent}

-- What is found before the rule is what a reading in the scope of the rule finds.

same-admission : (the_rule : Rule) (orders : List Order) → unadmitted_order_finding (admission_of the_rule) orders ≡ instant_finding_of_rule the_rule orders
same-admission rule.Matching orders = refl
same-admission rule.Fair orders = refl
same-admission rule.Uniform orders = refl
same-admission rule.Maximum orders = refl
same-admission rule.Continuous orders = refl

same-before : (q : OffenceQuestion) (entries : List OrderRecord) (paired : Result (List TradeRecord) Finding)
    → finding_before_rule_in_scope (scope_of (audit_question q)) entries paired ≡ finding_before_rule q.rule q.symbol entries paired
same-before q entries paired =
    ap (λ (o : Option Finding). first_answer (history_finding q.symbol entries ∷ o ∷ pairing_finding paired ∷ trades_finding (order_list q.symbol entries) q.symbol (paired_trades paired) ∷ []))
    (same-admission q.rule (order_list q.symbol entries))

-- The further checks.

none-answered : {A : Type 0} (answer : ℕ → Option A) → ((n : ℕ) → answer n ≡ None) → (ns : List ℕ) → filter_map answer ns ≡ []
none-answered answer none [] = refl
none-answered answer none (n ∷ ns) = rw (none n, none-answered answer none ns) refl

either-false : (a b : Bool) → (a || b) ≡ false → (a ≡ false) × (b ≡ false)
either-false false false e = (refl, refl)
either-false false true e = cc
either-false true b e = cc

-- where none is asked for, no trade fails one
pub none-fails : (checks : FurtherChecks) (orders : List Order) (deals : List Deal) (times : List Moment) → asks_further checks ≡ false → further_findings checks orders deals times ≡ []
unfolding further_findings
none-fails checks orders deals times e =
    let neither = either-false checks.resting_price checks.trade_times e in
    none-answered (further_finding checks orders deals times) (λ n. rw (neither.0, neither.1) refl) (range_with_len 0 (length deals))

-- and the answer is that of the audit
pub as-accepted : (quoted : QuotedRecords) (accepted : Accepted) (found : List FurtherFinding) (result : Result Answer NoMemory) → found ≡ []
    → IfOk result (IsAnswerOfKind (IsVerdictAnswer (verdict.Accepted accepted))) → IfOk result (IsAnswerOfKind (IsAnswerToAccepted quoted accepted found))
as-accepted quoted accepted found result none told =
    subst (λ (f : List FurtherFinding). IfOk result (IsAnswerOfKind (IsAnswerToAccepted quoted accepted f))) (sym none)
    (IfOk-weaker result _ _ (λ answer is. record { status_is = is.status_is; text_is = is.text_is }) told)

pub no-first : (found : List FurtherFinding) → slice_get found 0 ≡ None → found ≡ []
no-first [] none = refl
no-first (f ∷ rest) none = cc

-- where there is a first one, the answer has its text and the lines of all
pub as-failing : (quoted : QuotedRecords) (accepted : Accepted) (first : FurtherFinding) (found : List FurtherFinding) (answer : Answer) (text : List ℕ) → slice_get found 0 ≡ Some first
    → IsAnswerOfKind (IsAnswerWith status.Rejected text) answer → text ≡ further_text first ++ failure_lines quoted found → IsAnswerOfKind (IsAnswerToAccepted quoted accepted found) answer
as-failing quoted accepted first [] answer text got told is = absurd (none-some first got)
as-failing quoted accepted first (f ∷ rest) answer text got told is =
    record { status_is = told.status_is; text_is = told.text_is ∙ is ∙ ap (λ (x : FurtherFinding). further_text x ++ failure_lines quoted (f ∷ rest)) (sym (same_Some f first got)) }

-- times are looked at only where they are kept
kept-times : (checks : FurtherChecks) (orders : List Order) (deals : List Deal) (times : List Moment)
    → further_findings checks orders deals (kept_if (asks_further checks) times) ≡ further_findings checks orders deals times
kept-times checks orders deals times = by-asked (asks_further checks) refl
  where
    by-asked : (b : Bool) → asks_further checks ≡ b → further_findings checks orders deals (kept_if b times) ≡ further_findings checks orders deals times
    by-asked true e = refl
    by-asked false e = none-fails checks orders deals [] e ∙ sym (none-fails checks orders deals times e)

-- The answer to records.

-- by whether the symbol is absent
by-absence : (absent b : Bool) → absent ≡ b → (q : OffenceQuestion) (entries : List OrderRecord) (paired : Result (List TradeRecord) Finding) (the_status : Status) (text : List ℕ)
    → IsAnswerByAbsence b q entries paired the_status text → IsAnswerByAbsence absent q entries paired the_status text
by-absence absent b same q entries paired the_status text is = subst (λ (x : Bool). IsAnswerByAbsence x q entries paired the_status text) (sym same) is

-- a finding before the rule
pub found-answer : (q : OffenceQuestion) (entries : List OrderRecord) (paired : Result (List TradeRecord) Finding) (logs : SymbolBeforeRule) (finding : Finding) (v : RecordVerdict) (the_status : Status) (text : List ℕ)
    → IsSymbolBeforeRule (scope_of (audit_question q)) (keeping_for q) entries paired logs → logs.given ≡ before_rule.Found finding → v ≡ judged.Rejected finding → IsRecordVerdict (audit_question q) entries paired (as_verdict v)
    → IsAnswerToRejected logs.quoted [] finding (finding ∷ []) the_status text → IsOffencesOfRecords q entries paired the_status text
found-answer q entries paired logs finding v the_status text is given rejected has told =
    by-absence (is_absent q.symbol entries paired) false (found-present (scope_of (audit_question q)) entries paired finding in_scope) q entries paired the_status text
    (record {
      the_verdict = verdict.Rejected finding;
      is = subst (λ (w : RecordVerdict). IsRecordVerdict (audit_question q) entries paired (as_verdict w)) rejected has;
      answer = rw found (subst (λ (r : QuotedRecords). IsAnswerToRejected r [] finding (finding ∷ []) the_status text) is.quoted told);
    })
  where
    in_scope : finding_before_rule_in_scope (scope_of (audit_question q)) entries paired ≡ Some finding
    in_scope = subst (λ (b : BeforeRule). IsBeforeRule (scope_of (audit_question q)) entries paired b) given is.before

    found : finding_before_rule q.rule q.symbol entries paired ≡ Some finding
    found = sym (same-before q entries paired) ∙ in_scope

-- sound trades
module _ (q : OffenceQuestion) (entries : List OrderRecord) (paired : Result (List TradeRecord) Finding) (the_status : Status) (text : List ℕ) (clean : finding_before_rule q.rule q.symbol entries paired ≡ None) where
  orders : List Order
  orders = order_list q.symbol entries

  deals : List Deal
  deals = deals_of_symbol (order_list q.symbol entries) q.symbol (paired_trades paired)

  quoted : QuotedRecords
  quoted = quoted_records q.records q.symbol entries paired

  by-deals : (v : RecordVerdict) → IsRecordVerdict (audit_question q) entries paired (as_verdict v)
      → IsAnswerByDeals q (order_list q.symbol entries) (deals_of_symbol (order_list q.symbol entries) q.symbol (paired_trades paired))
      (kept_if (asks_further q.checks) (times_of_symbol q.symbol (paired_trades paired))) (quoted_records q.records q.symbol entries paired) v the_status text
      → IsAnswerByVerdict q entries paired (as_verdict v) the_status text
  by-deals (judged.Accepted accepted) has told =
      subst (λ (found : List FurtherFinding). IsAnswerToAccepted (quoted_records q.records q.symbol entries paired) accepted found the_status text)
      (kept-times q.checks (order_list q.symbol entries) (deals_of_symbol (order_list q.symbol entries) q.symbol (paired_trades paired)) (times_of_symbol q.symbol (paired_trades paired))) told
  by-deals (judged.Rejected first) has told = rw clean told

  by-some : (b : Bool) (v : RecordVerdict) → IsRecordVerdict (audit_question q) entries paired (as_verdict v)
      → IsAnswerByEmptiness b q (order_list q.symbol entries) (deals_of_symbol (order_list q.symbol entries) q.symbol (paired_trades paired))
      (kept_if (asks_further q.checks) (times_of_symbol q.symbol (paired_trades paired))) (quoted_records q.records q.symbol entries paired) v the_status text
      → IsAnswerByAbsence b q entries paired the_status text
  by-some true v has told = told
  by-some false v has told = record { the_verdict = as_verdict v; is = has; answer = by-deals v has told }

pub sound-answer : (q : OffenceQuestion) (entries : List OrderRecord) (paired : Result (List TradeRecord) Finding) (logs : SymbolBeforeRule) (sound : ResolvedTrades) (v : RecordVerdict) (the_status : Status) (text : List ℕ)
    → IsSymbolBeforeRule (scope_of (audit_question q)) (keeping_for q) entries paired logs → logs.given ≡ before_rule.Sound sound → IsRecordVerdict (audit_question q) entries paired (as_verdict v)
    → IsAnswerByEmptiness (are_none sound.history sound.deals.items) q sound.history sound.deals.items logs.times.items logs.quoted v the_status text
    → IsOffencesOfRecords q entries paired the_status text
sound-answer q entries paired logs sound v the_status text is given has told =
    by-absence (is_absent q.symbol entries paired) (are_none orders deals) (sound-absent (scope_of (audit_question q)) entries paired resolved.none) q entries paired the_status text
    (by-some q entries paired the_status text clean (are_none orders deals) v has moved)
  where
    resolved : IsResolvedWithoutFinding (scope_of (audit_question q)) entries paired sound
    resolved = subst (λ (b : BeforeRule). IsBeforeRule (scope_of (audit_question q)) entries paired b) given is.before

    clean : finding_before_rule q.rule q.symbol entries paired ≡ None
    clean = sym (same-before q entries paired) ∙ resolved.none

    orders : List Order
    orders = order_list q.symbol entries

    deals : List Deal
    deals = deals_of_symbol (order_list q.symbol entries) q.symbol (paired_trades paired)

    moved : IsAnswerByEmptiness (are_none orders deals) q orders deals (kept_if (asks_further q.checks) (times_of_symbol q.symbol (paired_trades paired))) (quoted_records q.records q.symbol entries paired) v the_status text
    moved =
        subst (λ (r : QuotedRecords). IsAnswerByEmptiness (are_none orders deals) q orders deals (kept_if (asks_further q.checks) (times_of_symbol q.symbol (paired_trades paired))) r v the_status text) is.quoted
        (subst (λ (ts : List Moment). IsAnswerByEmptiness (are_none orders deals) q orders deals ts logs.quoted v the_status text) is.times
        (subst (λ (ds : List Deal). IsAnswerByEmptiness (are_none orders ds) q orders ds logs.times.items logs.quoted v the_status text) resolved.deals
        (subst (λ (os : List Order). IsAnswerByEmptiness (are_none os sound.deals.items) q os sound.deals.items logs.times.items logs.quoted v the_status text) resolved.orders told)))

-- The answer to what the records of two logs give.
module _ (q : OffenceQuestion) (logs : SymbolBeforeRule) (v : RecordVerdict) (answer : Answer) (stages : IsVerdictAfterStages (audit_question q) logs.given v) where
  -- a finding before the rule
  pub found-told : (finding : Finding) → logs.given ≡ before_rule.Found finding → IsAnswerOfKind (IsAnswerToRejected logs.quoted [] finding (finding ∷ [])) answer → IsAnswerToLogs q logs answer
  found-told finding given told entries paired is =
      found-answer q entries paired logs finding v answer.status answer.text.items is given (stages.of_finding finding given) (stages.of_records entries paired is.before) told

  -- sound trades
  pub sound-told : (sound : ResolvedTrades) → logs.given ≡ before_rule.Sound sound
      → IsAnswerOfKind (IsAnswerByEmptiness (are_none sound.history sound.deals.items) q sound.history sound.deals.items logs.times.items logs.quoted v) answer → IsAnswerToLogs q logs answer
  sound-told sound given told entries paired is =
      sound-answer q entries paired logs sound v answer.status answer.text.items is given (stages.of_records entries paired is.before) told
