-- What each command of `desk` reads, and what it answers to that.
-- A command is one case of each definition here.
use Rattle.std.specs.Prelude.{◌≡◌, ℕ, Bool, true, false, List, Option, None, Some}
use Rattle.audit_base.specs.declared.terms.Rule.{Rule}
use Rattle.audit_base.specs.declared.terms.Which.{Which}
use Rattle.audit_base.specs.declared.terms.Which.TheVariants.{Orders}
use Rattle.audit_base.specs.Words.{rule_word}
use Rattle.audit_report.specs.declared.statuses.Status.{Status}
use Rattle.audit_report.specs.declared.statuses.Status.TheVariants.{Accepted}
use Rattle.command_run.specs.Commands.{Command, log_read_at}
use Rattle.command_run.specs.Commands.{next_of_any_two_logs, next_of_both_logs, next_of_one_log}
use Rattle.command_run.specs.VerdictAnswers.{IsAnswerWith}
use Rattle.day_logs.specs.declared.answers.DayAnswer.{DayAnswer}
use Rattle.day_logs.specs.declared.answers.DayAnswer.TheVariants.{Judged, Malformed, Unpaired}
use Rattle.day_logs.specs.declared.answers.DayQuestion.{DayQuestion}
use Rattle.day_logs.specs.DayAnswers.{DayMeaning, IsAnswerToLogs, AreVerdictsOfDay}
use Rattle.day_logs.specs.DayAnswerTexts.{day_answer_status, day_answer_text}
use Rattle.day_page.specs.DayPages.{IsPageOfDayText}
use Rattle.day_sessions.specs.JudgedSessions.{AreSessionsOfDay}
use Rattle.day_symbols.specs.Shares.{DayShare, whole_day}
use Rattle.desk_words.specs.declared.requests.DeskRequest.{DeskRequest}
use Rattle.desk_words.specs.declared.requests.DeskRequest.TheVariants.{Early, Whole}
use Rattle.desk_words.specs.declared.requests.EarlyRequest.{EarlyRequest}
use Rattle.desk_words.specs.declared.requests.EarlyRequest.TheVariants.{Orders as GeneratedOrders, Plain}
use Rattle.desk_words.specs.declared.requests.WholeRequest.{WholeRequest}
use Rattle.desk_words.specs.declared.requests.WholeRequest.TheVariants.{Audit, Session, Offences, Digest, Convert, Contents, Help, Version}
use Rattle.desk_run.specs.Contents.{IsContentsAnswer}
use Rattle.desk_words.specs.Texts.{help_text, version_text}
use Rattle.further_checks.specs.declared.findings.FurtherChecks.{FurtherChecks}
use Rattle.log_digests.specs.DigestLines.{digest_text}
use Rattle.log_digests.specs.Digests.{digest_of}
use Rattle.log_verdict.specs.LogVerdicts.{Log, log_in}
use Rattle.session_audit.specs.Texts.{phases_text}
use Rattle.symbol_offences.specs.declared.questions.OffenceQuestion.{OffenceQuestion}
use Rattle.symbol_offences.specs.OffenceAnswers.{IsOffencesAnswer}
use Rattle.desk_run.specs.PlainAnswers.{day_reading, day_writes, IsPlainAnswer}
use Rattle.desk_run.specs.WrittenLogs.{IsGeneratedAnswer, IsWrittenLogAnswer}

-- the share that is asked for; the whole day where none is given
abbrev pub share_or_whole : Option DayShare → DayShare
share_or_whole None = whole_day
share_or_whole (Some share) = share

-- what is asked of a day by a rule
abbrev pub day_question : Rule → Bool → Option DayShare → FurtherChecks → DayQuestion
day_question rule table share checks =
    record { rule = rule; table = table; checks = checks; share = share_or_whole share }

-- what is asked of a symbol whose offences are told
abbrev pub offence_question : Rule → List ℕ → Bool → FurtherChecks → OffenceQuestion
offence_question rule symbol records checks =
    record { rule = rule; symbol = symbol; records = records; checks = checks }

-- the log that a command that makes its whole answer first starts after those that it has read,
-- whose bytes these are: its slot and its name; nothing where it needs no more. `audit`, `session`,
-- `offences` and `contents` start both logs, the trade log where the order log is good, `digest`
-- both whatever is in them, `convert` its one log, `help` and `--version` none
abbrev pub next_whole_log : WholeRequest → List (List ℕ) → Option (Which × List ℕ)
next_whole_log (Audit rule logs table share checks page) bytes =
    next_of_both_logs logs.orders logs.trades logs.orders_form bytes
next_whole_log (Session phases logs table share checks page) bytes =
    next_of_both_logs logs.orders logs.trades logs.orders_form bytes
next_whole_log (Offences rule symbol logs records checks) bytes =
    next_of_both_logs logs.orders logs.trades logs.orders_form bytes
next_whole_log (Digest orders trades) bytes = next_of_any_two_logs orders trades bytes
next_whole_log (Convert log from path into) bytes = next_of_one_log log path bytes
next_whole_log (Contents logs) bytes =
    next_of_both_logs logs.orders logs.trades logs.orders_form bytes
next_whole_log (Help about) bytes = None
next_whole_log Version bytes = None

-- the same of a command that writes early: `plain` starts the day as the order log, `orders` none
abbrev pub next_early_log : EarlyRequest → List (List ℕ) → Option (Which × List ℕ)
next_early_log (GeneratedOrders start count form) bytes = None
next_early_log (Plain day dress) bytes = next_of_one_log Orders day bytes

-- the log that a command starts after those that it has read
abbrev pub next_desk_log : DeskRequest → List (List ℕ) → Option (Which × List ℕ)
next_desk_log (Whole request) bytes = next_whole_log request bytes
next_desk_log (Early request) bytes = next_early_log request bytes

-- what is written of a day that has this text: the text, or where it is asked for the page of the
-- day with this text; of a log that is out of its grammar there is no page
abbrev pub IsWrittenOfDay : Bool → DayAnswer → List ℕ → List ℕ → Type 0
IsWrittenOfDay false day the_text written = written ≡ the_text
IsWrittenOfDay true (Malformed log bad) the_text written = written ≡ the_text
IsWrittenOfDay true (Unpaired finding) the_text written = IsPageOfDayText the_text written
IsWrittenOfDay true (Judged judged) the_text written = IsPageOfDayText the_text written

-- The answer is that of a day: its status; and its text, with what the symbols were judged by in
-- its first line, or the page of the day with that text.
pub record IsAnswerOfDay (page : Bool) (question_text : List ℕ) (day : DayAnswer) (status : Status)
    (text : List ℕ) : Type 0 where
  pub status_is : status ≡ day_answer_status day
  pub text_is : IsWrittenOfDay page day (day_answer_text question_text day) text

-- The answer is that to a day of two logs, as a page where that is asked for.
pub record IsDayAnswer (page : Bool) (meaning : DayMeaning) (question_text : List ℕ)
    (orders trades : Log) (status : Status) (text : List ℕ) : Type 0 where
  pub day : DayAnswer
  pub is : IsAnswerToLogs meaning orders trades day
  pub answer : IsAnswerOfDay page question_text day status text

-- what a command that makes its whole answer first answers to the logs that it has read, its status
-- and its text: to `audit` and `session` that of the day, of the symbols of the share that is asked
-- for, or its page; to `offences` the offences of the symbol; to `digest` the digests of both
-- logs; to `convert` the records of the log in the second form; to `contents` what is in both logs;
-- to `help` and `--version` a text of their own
abbrev pub IsWholeAnswer : WholeRequest → List (List ℕ) → Status → List ℕ → Type 0
IsWholeAnswer (Audit rule logs table share checks page) bytes status text =
    IsDayAnswer page (AreVerdictsOfDay (day_question rule table share checks)) (rule_word rule)
    (log_in logs.orders_form (log_read_at bytes 0))
    (log_in logs.trades_form (log_read_at bytes 1)) status text
IsWholeAnswer (Session phases logs table share checks page) bytes status text =
    IsDayAnswer page (AreSessionsOfDay phases table checks (share_or_whole share))
    (phases_text phases)
    (log_in logs.orders_form (log_read_at bytes 0))
    (log_in logs.trades_form (log_read_at bytes 1)) status text
IsWholeAnswer (Offences rule symbol logs records checks) bytes status text =
    IsOffencesAnswer (offence_question rule symbol records checks)
    (log_in logs.orders_form (log_read_at bytes 0))
    (log_in logs.trades_form (log_read_at bytes 1)) status text
IsWholeAnswer (Digest orders trades) bytes status text =
    IsAnswerWith Accepted
    (digest_text (digest_of (log_read_at bytes 0)) (digest_of (log_read_at bytes 1))) status text
IsWholeAnswer (Convert log from path into) bytes status text =
    IsWrittenLogAnswer log into (log_in from (log_read_at bytes 0)) status text
IsWholeAnswer (Contents logs) bytes status text =
    IsContentsAnswer (log_in logs.orders_form (log_read_at bytes 0))
    (log_in logs.trades_form (log_read_at bytes 1)) status text
IsWholeAnswer (Help about) bytes status text = IsAnswerWith Accepted (help_text about) status text
IsWholeAnswer Version bytes status text = IsAnswerWith Accepted version_text status text

-- what a command that writes early answers: to `orders` the generated log, to `plain` the messages
-- of the day
abbrev pub IsEarlyAnswer : EarlyRequest → List (List ℕ) → Status → List ℕ → Type 0
IsEarlyAnswer (GeneratedOrders start count form) bytes status text =
    IsGeneratedAnswer start count form status text
IsEarlyAnswer (Plain day dress) bytes status text =
    IsPlainAnswer (day_writes dress) (day_reading dress (log_read_at bytes 0)) status text

-- what a command answers to the logs that it has read, its status and its text
abbrev pub IsDeskAnswer : DeskRequest → List (List ℕ) → Status → List ℕ → Type 0
IsDeskAnswer (Whole request) bytes status text = IsWholeAnswer request bytes status text
IsDeskAnswer (Early request) bytes status text = IsEarlyAnswer request bytes status text

-- whether a command writes its text while it makes it: `plain`, whose text is as long as the day,
-- and `orders`, whose text may be longer than memory is to be
abbrev pub writes_while_reading : DeskRequest → Bool
writes_while_reading (Whole request) = false
writes_while_reading (Early request) = true

-- the command that a request asks for
abbrev pub desk_command_of : DeskRequest → Command
desk_command_of request =
    record {
      next = next_desk_log request;
      is_answer = IsDeskAnswer request;
      writes_early = writes_while_reading request;
    }
