-- What each command reads, and what it answers to that.
-- A command is one case of each definition here.
use Rattle.std.specs.Prelude.{ℕ, false, List, [], ◌∷◌, Option, None, Some, is_ok}
use Rattle.audit_base.specs.declared.terms.Form.{Form}
use Rattle.audit_base.specs.declared.terms.Which.{Which}
use Rattle.audit_base.specs.declared.terms.Which.TheVariants.{Orders, Trades}
use Rattle.audit_base.specs.Least.{only_if}
use Rattle.audit_report.specs.declared.statuses.Status.{Status}
use Rattle.command_words.specs.declared.requests.Request.{Request}
use Rattle.command_words.specs.declared.requests.Request.TheVariants.{Audit, Expect, Convert, Generate, Certify, Verify, Session}
use Rattle.command_run.specs.Commands.{Command, log_read_at, next_of_both_logs, next_of_one_log}
use Rattle.audit_run.specs.Certificates.{IsCertifyAnswer, IsVerifyAnswer}
use Rattle.audit_run.specs.OtherTexts.{IsConvertAnswer, IsExpectAnswer, IsGeneratedSummary}
use Rattle.audit_run.specs.Sessions.{IsSessionAnswer}
use Rattle.command_run.specs.VerdictAnswers.{IsAuditAnswer, IsDone}
use Rattle.record_verdict.specs.RecordVerdicts.{question}
use Rattle.log_verdict.specs.LogVerdicts.{records_of_order_log, trades_of_trade_log, log_in}

-- the next log of a command that needs both and a certificate: after both logs, where they are
-- good, it starts the certificate, in the slot of the trade log
abbrev pub next_with_certificate : List ℕ → List ℕ → List ℕ → Form → Form → List (List ℕ)
    → Option (Which × List ℕ)
next_with_certificate orders trades certificate orders_form trades_form [] =
    Some (Orders, orders)
next_with_certificate orders trades certificate orders_form trades_form (first ∷ []) =
    only_if (is_ok (records_of_order_log orders_form first)) (Trades, trades)
next_with_certificate orders trades certificate orders_form trades_form (first ∷ second ∷ []) =
    only_if (is_ok (trades_of_trade_log trades_form second)) (Trades, certificate)
next_with_certificate orders trades certificate orders_form trades_form
    (first ∷ second ∷ third ∷ rest) = None

-- the log that a command starts after those that it has read, whose bytes these are: its slot and
-- its name; nothing where it needs no more. `audit`, `certify` and `session` start both logs,
-- `verify` the certificate after them, `expect` the order log, `convert` its one log, and
-- `generate` none
abbrev pub next_log : Request → List (List ℕ) → Option (Which × List ℕ)
next_log (Audit rule symbol orders trades orders_form trades_form table) logs =
    next_of_both_logs orders trades orders_form logs
next_log (Certify rule symbol orders trades orders_form trades_form) logs =
    next_of_both_logs orders trades orders_form logs
next_log (Session symbol phases orders trades orders_form trades_form table) logs =
    next_of_both_logs orders trades orders_form logs
next_log (Verify symbol orders trades certificate orders_form trades_form) logs =
    next_with_certificate orders trades certificate orders_form trades_form logs
next_log (Expect rule symbol orders orders_form) logs = next_of_one_log Orders orders logs
next_log (Convert log form path) logs = next_of_one_log log path logs
next_log (Generate start count) logs = None

-- what a command answers to the logs that it has read, its status and its text: to `audit` that
-- of their verdict (`VerdictAnswers`); `Certificates` has the answers to `certify` and `verify`,
-- `Sessions` that to `session`, and `OtherTexts` those to the commands that write logs
abbrev pub IsAnswerTo : Request → List (List ℕ) → Status → List ℕ → Type 0
IsAnswerTo (Audit rule symbol orders trades orders_form trades_form table) logs status text =
    IsAuditAnswer (question rule symbol table) (log_in orders_form (log_read_at logs 0))
    (log_in trades_form (log_read_at logs 1)) status text
IsAnswerTo (Certify rule symbol orders trades orders_form trades_form) logs status text =
    IsCertifyAnswer (question rule symbol false) (log_in orders_form (log_read_at logs 0))
    (log_in trades_form (log_read_at logs 1)) status text
IsAnswerTo (Verify symbol orders trades certificate orders_form trades_form) logs status text =
    IsVerifyAnswer symbol (log_in orders_form (log_read_at logs 0))
    (log_in trades_form (log_read_at logs 1)) (log_read_at logs 2) status text
IsAnswerTo (Session symbol phases orders trades orders_form trades_form table) logs
    status text =
    IsSessionAnswer symbol phases table (log_in orders_form (log_read_at logs 0))
    (log_in trades_form (log_read_at logs 1)) status text
IsAnswerTo (Expect rule symbol orders orders_form) logs status text =
    IsExpectAnswer rule symbol (log_in orders_form (log_read_at logs 0)) status text
IsAnswerTo (Convert log form path) logs status text =
    IsConvertAnswer log (log_in form (log_read_at logs 0)) status text
IsAnswerTo (Generate start count) logs status text =
    IsDone (IsGeneratedSummary start count) status text

-- the command that a request asks for
abbrev pub auditor_command_of : Request → Command
auditor_command_of request =
    record { next = next_log request; is_answer = IsAnswerTo request; writes_early = false }
