-- What is asked of two logs.
use Rattle.std.specs.Prelude.{Bool, Some}
use Rattle.day_logs.specs.declared.answers.DayQuestion.{DayQuestion}
use Rattle.day_sessions.specs.declared.questions.SessionQuestion.{SessionQuestion}
use Rattle.desk_words.specs.declared.requests.NamedLogs.{NamedLogs}
use Rattle.desk_words.specs.declared.requests.DeskRequest.{DeskRequest}
use Rattle.desk_words.specs.declared.requests.DeskRequest.TheVariants.{Whole}
use Rattle.desk_words.specs.declared.requests.WholeRequest.TheVariants.{Audit, Offences, Session}
use Rattle.log_verdict.specs.declared.sources.Source.{Source}
use Rattle.symbol_offences.specs.declared.questions.OffenceQuestion.{OffenceQuestion}

-- the logs that these sources name
abbrev pub logs_of : Source → Source → NamedLogs
logs_of orders trades = record {
  orders = orders.name.now;
  trades = trades.name.now;
  orders_form = orders.form;
  trades_form = trades.form;
}

-- the request to judge a day of these logs by a rule, and to write it as a page or as it is
abbrev pub request_by_rule : DayQuestion → Bool → Source → Source → DeskRequest
request_by_rule q page orders trades =
    Whole (Audit q.rule (logs_of orders trades) q.table (Some q.share) q.checks page)

-- the same by phases
abbrev pub request_by_phases : SessionQuestion → Bool → Source → Source → DeskRequest
request_by_phases q page orders trades =
    Whole (Session q.phases.now (logs_of orders trades) q.table (Some q.share) q.checks page)

-- the request to tell the offences of a symbol in these logs
abbrev pub request_for_offences : OffenceQuestion → Source → Source → DeskRequest
request_for_offences q orders trades =
    Whole (Offences q.rule q.symbol (logs_of orders trades) q.records q.checks)
