-- What a call of `page` answers and writes.
use Rattle.std.specs.Prelude.{◌≡◌, ℕ, List, Option, None, Some}
use Rattle.audit_report.specs.declared.statuses.Status.{Status}
use Rattle.command_run.specs.Runs.{AllIsThere, AnswersCommand, AnswersTooLong, RefusesWords, RunsOutOfMemory, WritesAnswer}
use Rattle.command_words.specs.declared.requests.WordsFault.{WordsFault}
use Rattle.command_words.specs.declared.requests.WordsFault.TheVariants as fault
use Rattle.desk_words.specs.declared.requests.NamedLogs.{NamedLogs}
use Rattle.desk_words.specs.Texts.{desk_usage_line}
use Rattle.log_digests.specs.DigestShelves.{name_of_log}
use Rattle.log_source.specs.declared.shelf.Shelf.{Ghosts as Shelf}
use Rattle.log_source.specs.Sinks.{SinkState}
use Rattle.log_source.specs.Sources.{longest_read}
use Rattle.log_verdict.specs.Steps.{FaultsNeverFall, HoldsBySomeAccount, Reading}
use Rattle.desk_page.specs.declared.requests.PageRequest.{PageRequest}
use Rattle.desk_page.specs.PageAnswers.{logs_in, Pictures}
use Rattle.desk_page.specs.Requests.{page_command}

-- what a call knows of a shelf whose two logs have these names: a log may have 34,359,738,368
-- bytes, and in each slot is found what the shelf had under the name of its log
abbrev pub page_reading : {S : Type 0} → Shelf S → NamedLogs → S → S → Reading
page_reading shelf logs old new = record {
  limit = longest_read;
  tells = shelf.tells old;
  log_of = λ log name. shelf.log_of old log (name_of_log logs.orders logs.trades log);
  before = shelf.slot old;
  after = shelf.slot new;
}

-- where the shelf holds all logs that the request needs and nothing fails, exactly the text of the
-- answer to them is written and its status is answered, or memory ran out
abbrev pub AnswersHeldLogs : Pictures → Reading → PageRequest → SinkState → SinkState → Status
    → Type 0
AnswersHeldLogs is_picture r request old new status =
    (logs : List (List ℕ)) → AllIsThere r (page_command is_picture (logs_in r) request) logs old new
    → WritesAnswer (page_command is_picture (logs_in r) request) logs old new status

-- What a call says for well-formed words: the answer to the logs that the shelf holds; whatever
-- fails, each status with its cause and with what was written; a log that is too long is answered
-- as such; and no count of faults falls.
pub record AnswersPage (is_picture : Pictures) (r : Reading) (request : PageRequest)
    (old new : SinkState) (status : Status) : Type 0 where
  pub held : AnswersHeldLogs is_picture r request old new status
  pub causes : AnswersCommand r (page_command is_picture (logs_in r) request) old new status
  pub too_long : AnswersTooLong r status
  pub later : FaultsNeverFall r

-- the same of what a request asks for, by an account of the bytes that the shelf gave
abbrev pub AnswersPageRequest : {S : Type 0} → Pictures → Shelf S → PageRequest → S → S
    → SinkState → SinkState → Status → Type 0
AnswersPageRequest is_picture shelf request old new sink_old sink_new status =
    HoldsBySomeAccount (λ r. AnswersPage is_picture r request sink_old sink_new status)
    (page_reading shelf request.logs old new)

-- The words are not well-formed: the usage line was written, unless the sink failed, and nothing
-- was done to the shelf.
pub record RefusesPageWords {S : Type 0} (old new : S) (sink_old sink_new : SinkState)
    (status : Status) : Type 0 where
  pub refuses : RefusesWords desk_usage_line sink_old sink_new status
  pub same : new ≡ old

-- what a call says for its words, `asked` being what well-formed words ask for
abbrev pub AnswersPageWords : {S : Type 0} → Pictures → Shelf S → Option PageRequest → S → S
    → SinkState → SinkState → Status → Type 0
AnswersPageWords is_picture shelf None old new sink_old sink_new status =
    RefusesPageWords old new sink_old sink_new status
AnswersPageWords is_picture shelf (Some request) old new sink_old sink_new status =
    AnswersPageRequest is_picture shelf request old new sink_old sink_new status

-- words that ask for nothing: the usage line was written, unless the sink failed; where memory ran
-- out nothing was written
abbrev pub RefusesOrLacksMemory : WordsFault → SinkState → SinkState → Status → Type 0
RefusesOrLacksMemory fault.Usage old new status = RefusesWords desk_usage_line old new status
RefusesOrLacksMemory fault.Memory old new status = RunsOutOfMemory old new status
