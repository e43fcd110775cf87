-- The answer to what two logs give of a symbol.
use Rattle.std.specs.Prelude.{◌≡◌, ℕ, Bool, true, false, ◌&&◌, List, Result}
use Rattle.std.specs.List.{flat_map}
use Rattle.audit_base.specs.Moments.{Moment}
use Rattle.audit_base.specs.declared.findings.Finding.{Finding}
use Rattle.audit_base.specs.declared.orders.Deal.{Deal}
use Rattle.audit_base.specs.declared.orders.Order.{Order}
use Rattle.audit_base.specs.declared.records.OrderRecord.{OrderRecord}
use Rattle.audit_base.specs.declared.records.TradeRecord.{TradeRecord}
use Rattle.audit_base.specs.declared.terms.Rule.{Rule}
use Rattle.audit_report.specs.declared.statuses.Status.{Status}
use Rattle.audit_report.specs.declared.statuses.Status.TheVariants as status
use Rattle.call_offences.specs.declared.listing.Listing.{Listing}
use Rattle.call_offences.specs.Listings.{findings_of_listing}
use Rattle.command_run.specs.declared.answers.Answer.{Answer}
use Rattle.command_run.specs.Deciding.{IsAnswerOfKind}
use Rattle.command_run.specs.VerdictAnswers.{IsAnswerWith}
use Rattle.further_checks.specs.FurtherRules.{further_findings}
use Rattle.offence_list.specs.declared.offences.ListedOffence.{ListedOffence}
use Rattle.offence_list.specs.ListedOffences.{finding_of_offence}
use Rattle.offence_list.specs.Offences.{offences_of}
use Rattle.record_verdict.specs.declared.verdicts.RecordVerdict.{RecordVerdict}
use Rattle.record_verdict.specs.declared.verdicts.RecordVerdict.TheVariants as judged
use Rattle.record_verdict.specs.Scopes.{scope_of}
use Rattle.symbol_offences.specs.declared.questions.OffenceQuestion.{OffenceQuestion}
use Rattle.symbol_offences.specs.declared.symbol_before_rule.QuotedRecords.{QuotedRecords}
use Rattle.symbol_offences.specs.declared.symbol_before_rule.SymbolBeforeRule.{SymbolBeforeRule}
use Rattle.symbol_offences.specs.OffenceAnswers.{has_none, IsAnswerToAccepted, IsAnswerToRejected, IsOffencesOfRecords}
use Rattle.symbol_offences.specs.OffenceLines.{absent_line, quoted_offence}
use Rattle.symbol_offences.specs.Questions.{audit_question, keeping_for}
use Rattle.symbol_offences.specs.SymbolBeforeRule.{IsSymbolBeforeRule}

-- they are all offences of the deals under the rule
abbrev pub IsListingUnder : Rule → List Order → List Deal → Finding → Listing → Type 0
IsListingUnder the_rule orders deals first listing =
    findings_of_listing orders first listing ≡ offences_of the_rule orders deals first

-- the lines of the offences of a list about these orders
abbrev pub offences_quoted : List Order → QuotedRecords → List ListedOffence → List ℕ
offences_quoted orders quoted found =
    flat_map (λ o. quoted_offence orders quoted (finding_of_offence orders o)) found

-- the answer by the verdict on these orders and deals
abbrev pub IsAnswerByDeals : OffenceQuestion → List Order → List Deal → List Moment → QuotedRecords
    → RecordVerdict → Status → List ℕ → Type 0
IsAnswerByDeals q orders deals times quoted (judged.Accepted accepted) =
    IsAnswerToAccepted quoted accepted (further_findings q.checks orders deals times)
IsAnswerByDeals q orders deals times quoted (judged.Rejected first) =
    IsAnswerToRejected quoted orders first (offences_of q.rule orders deals first)

-- there is no order and no deal
abbrev pub are_none : List Order → List Deal → Bool
are_none orders deals = has_none orders && has_none deals

-- the answer by whether there is no order and no deal
abbrev pub IsAnswerByEmptiness : Bool → OffenceQuestion → List Order → List Deal → List Moment
    → QuotedRecords → RecordVerdict → Status → List ℕ → Type 0
IsAnswerByEmptiness true q orders deals times quoted the_judged =
    IsAnswerWith status.Rejected (absent_line q.symbol)
IsAnswerByEmptiness false q orders deals times quoted the_judged =
    IsAnswerByDeals q orders deals times quoted the_judged

-- the answer to what the records of two logs give: of whatever records give this, the answer to
-- them
abbrev pub IsAnswerToLogs : OffenceQuestion → SymbolBeforeRule → Answer → Type 0
IsAnswerToLogs q logs answer =
    (entries : List OrderRecord) (paired : Result (List TradeRecord) Finding)
    → IsSymbolBeforeRule (scope_of (audit_question q)) (keeping_for q) entries paired logs
    → IsAnswerOfKind (IsOffencesOfRecords q entries paired) answer
