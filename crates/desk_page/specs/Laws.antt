-- The laws of `page`, in one sentence each.
use Rattle.std.specs.Prelude.{◌≡◌, ℕ, false, List, ◌∷◌, ◌++◌, Option, Some, Result, codes}
use Rattle.audit_base.specs.declared.findings.Finding.{Finding}
use Rattle.audit_base.specs.declared.records.OrderRecord.{OrderRecord}
use Rattle.audit_base.specs.declared.records.TradeRecord.{TradeRecord}
use Rattle.audit_report.specs.declared.statuses.Status.{Status}
use Rattle.audit_report.specs.declared.verdicts.Verdict.{Verdict}
use Rattle.audit_report.specs.Statuses.{verdict_status}
use Rattle.audit_report.specs.Texts.{verdict_text}
use Rattle.desk_words.specs.declared.requests.DeskRequest.{DeskRequest}
use Rattle.desk_words.specs.declared.requests.DeskRequest.TheVariants.{Whole}
use Rattle.desk_words.specs.declared.requests.WholeRequest.TheVariants.{Offences}
use Rattle.desk_words.specs.Words.{desk_request_of}
use Rattle.further_checks.specs.FurtherRules.{no_checks}
use Rattle.log_digests.specs.declared.digests.LogDigests.{LogDigests}
use Rattle.page_parts.specs.declared.repeats.PageLogs.{PageLogs}
use Rattle.page_parts.specs.declared.sentences.SymbolTotals.{SymbolTotals}
use Rattle.page_parts.specs.Repeats.{command_text, command_words}
use Rattle.page_parts.specs.ShellWords.{shell_words}
use Rattle.record_verdict.specs.RecordVerdicts.{IsRecordVerdict}
use Rattle.symbol_offences.specs.declared.questions.OffenceQuestion.{OffenceQuestion}
use Rattle.symbol_offences.specs.OffenceAnswers.{IsAnswerToPresent}
use Rattle.desk_page.specs.declared.requests.PageRequest.{PageRequest}
use Rattle.desk_page.specs.PageAnswers.{in_words, page_question}
use Rattle.desk_page.specs.PageLogs.{NamesLogs}
use Rattle.desk_page.specs.Words.{page_request_of}

-- what a page is about, asked of `offences`: the same rule, symbol and logs, with no records quoted
-- and no further check
abbrev pub as_offences : PageRequest → DeskRequest
as_offences request = Whole (Offences request.rule request.symbol request.logs false no_checks)

-- the words that stand on the page of a request: behind `desk`, those of a verdict on its question,
-- with the logs that the page names
abbrev pub words_on_page : PageRequest → Option Finding → Option SymbolTotals → PageLogs
    → List (List ℕ)
words_on_page request found totals named =
    command_words (in_words (page_question request) found totals) named

-- A shell reads the words that stand on a page as `desk` and words that ask `offences` what the page
-- is about.
pub record AsksThePage (request : PageRequest) (found : Option Finding)
    (totals : Option SymbolTotals) (named : PageLogs) : Type 0 where
  pub shell : shell_words (command_text (in_words (page_question request) found totals) named)
      ≡ codes "desk" ∷ words_on_page request found totals named
  pub asks : desk_request_of (words_on_page request found totals named)
      ≡ Some (as_offences request)

-- the words that stand on the page of well-formed words ask `offences` what the page is about
abbrev pub PageTellsItsWords : Type 0
PageTellsItsWords = (words : List (List ℕ)) (request : PageRequest) (found : Option Finding)
    (totals : Option SymbolTotals) (digests : LogDigests) (named : PageLogs)
    → page_request_of words ≡ Some request → NamesLogs request.logs digests named
    → AsksThePage request found totals named

-- the question of `offences` for a page
abbrev pub offences_question : PageRequest → OffenceQuestion
offences_question request = record {
  rule = request.rule;
  symbol = request.symbol;
  records = false;
  checks = no_checks;
}

-- The answer has a verdict: its status, and its text at the beginning.
pub record BeginsWithVerdict (the_verdict : Verdict) (the_status : Status) (text : List ℕ)
    : Type 0 where
  pub status_is : the_status ≡ verdict_status the_verdict
  pub rest : List ℕ
  pub text_is : text ≡ verdict_text the_verdict ++ rest

-- what `offences` answers to the question of a page about the records of two logs, where one has the
-- symbol, begins with the verdict of the page
abbrev pub OffencesHaveThePagesVerdict : Type 0
OffencesHaveThePagesVerdict = (request : PageRequest) (entries : List OrderRecord)
    (paired : Result (List TradeRecord) Finding) (the_verdict : Verdict) (the_status : Status)
    (text : List ℕ) → IsRecordVerdict (page_question request) entries paired the_verdict
    → IsAnswerToPresent (offences_question request) entries paired the_status text
    → BeginsWithVerdict the_verdict the_status text
