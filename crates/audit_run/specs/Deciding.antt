-- What a command decides: its answer, or why there is none; and what is asked of two logs.
use Rattle.std.specs.Prelude.{ℕ, List, Result}
use Rattle.audit_base.specs.declared.terms.Rule.{Rule}
use Rattle.command_run.specs.declared.answers.Answer.{Answer}
use Rattle.command_run.specs.Deciding as deciding
use Rattle.command_words.specs.declared.requests.Request.{Request}
use Rattle.command_words.specs.declared.requests.Request.TheVariants.{Audit, Certify, Verify, Session}
use Rattle.log_verdict.specs.declared.sources.Source.{Source}
use Rattle.log_verdict.specs.declared.stops.Stop.{Stop}
use Rattle.log_verdict.specs.Steps.{Reading}
use Rattle.record_verdict.specs.declared.questions.Question.{Question}
use Rattle.session_audit.specs.declared.questions.PhaseQuestion.{PhaseQuestion}
use Rattle.audit_run.specs.Requests.{auditor_command_of}

-- the answer to a request that the reading decides, or why there is none
abbrev pub DecidesAuditorAnswer : Reading → Request → Result Answer Stop → Type 0
DecidesAuditorAnswer r request result =
    deciding.DecidesAnswer r (auditor_command_of request) result

-- the request to audit these logs
abbrev pub request_to_audit : Question → Source → Source → Request
request_to_audit q orders trades =
    Audit q.rule q.symbol orders.name.now trades.name.now orders.form trades.form q.table

-- the request to certify these logs under this rule
abbrev pub request_to_certify : Rule → List ℕ → Source → Source → Request
request_to_certify rule symbol orders trades =
    Certify rule symbol orders.name.now trades.name.now orders.form trades.form

-- the request to verify a certificate of these logs
abbrev pub request_to_verify : List ℕ → Source → Source → List ℕ → Request
request_to_verify symbol orders trades certificate =
    Verify symbol orders.name.now trades.name.now certificate orders.form trades.form

-- the request to judge the session of these logs
abbrev pub request_to_judge_session : PhaseQuestion → Source → Source → Request
request_to_judge_session q orders trades =
    Session q.symbol q.phases.now orders.name.now trades.name.now orders.form trades.form q.table
