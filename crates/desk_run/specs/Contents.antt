-- What `contents` answers to two logs.
use Rattle.std.specs.Prelude.{ℕ, List, Result, Ok, Err}
use Rattle.audit_base.specs.declared.faults.BadPlace.{BadPlace}
use Rattle.audit_base.specs.declared.terms.Which.TheVariants.{Orders, Trades}
use Rattle.audit_report.specs.declared.statuses.Status.{Status}
use Rattle.audit_report.specs.declared.verdicts.Verdict.TheVariants.{Malformed}
use Rattle.command_run.specs.VerdictAnswers.{IsDone, IsVerdictAnswer}
use Rattle.log_contents.specs.DayItems.{order_log_items, trade_log_items}
use Rattle.desk_run.specs.Deciding.{logs_of}
use Rattle.desk_words.specs.declared.requests.DeskRequest.{DeskRequest}
use Rattle.desk_words.specs.declared.requests.DeskRequest.TheVariants.{Whole}
use Rattle.desk_words.specs.declared.requests.WholeRequest.TheVariants.{Contents}
use Rattle.log_contents.specs.Summaries.{LogItems}
use Rattle.log_contents.specs.Texts.{IsContentsText}
use Rattle.log_verdict.specs.declared.sources.Source.{Source}
use Rattle.log_verdict.specs.LogVerdicts.{Log}

-- after an order log that has this: where the trade log is good, the text of what both have, and
-- status 0; else its first bad place
abbrev pub IsAnswerAfterOrders : LogItems → Result LogItems BadPlace → Status → List ℕ → Type 0
IsAnswerAfterOrders orders (Ok trades) status text =
    IsDone (IsContentsText orders trades) status text
IsAnswerAfterOrders orders (Err bad) status text =
    IsVerdictAnswer (Malformed Trades bad) status text

-- by what both logs have: the first bad place of the order log, where it is not good
abbrev pub IsAnswerToItems : Result LogItems BadPlace → Result LogItems BadPlace → Status → List ℕ
    → Type 0
IsAnswerToItems (Ok orders) trades status text = IsAnswerAfterOrders orders trades status text
IsAnswerToItems (Err bad) trades status text =
    IsVerdictAnswer (Malformed Orders bad) status text

-- the answer to two logs: what both have, or the first bad place
abbrev pub IsContentsAnswer : Log → Log → Status → List ℕ → Type 0
IsContentsAnswer orders trades status text =
    IsAnswerToItems (order_log_items orders.form orders.bytes)
    (trade_log_items trades.form trades.bytes) status text

-- the request for what is in these logs
abbrev pub request_of_contents : Source → Source → DeskRequest
request_of_contents orders trades = Whole (Contents (logs_of orders trades))
