use Rattle.std.proofs.Common.{◌∙◌, ap, Ok}
use Rattle.desk_filing.proofs.FilingLemmas.{decides_refused, decides_stopped}
use Rattle.desk_filing.proofs.WritingLemmas.{ends_any}
use Rattle.desk_filing.proofs.databases.file_judged.Goals as goal

pub returns-in-Ok-Cases-clause-runs : goal.returns-in-Ok-Cases-clause-runs
returns-in-Ok-Cases-clause-runs g c = λ r judges. c.file_cases.ensures.runs r (rw c.deref.ensures.value (rw (c.in-Ok-Cases.is ∙ ap Ok c.in-Ok-Cases.field-0-is) at judges))

pub returns-in-Ok-Cases-clause-length : goal.returns-in-Ok-Cases-clause-length
returns-in-Ok-Cases-clause-length g c = λ r within. ends_any c.file_cases.result.status (rw c.in-Ok-Cases.is at within)

pub returns-in-Ok-Refused-clause-runs : goal.returns-in-Ok-Refused-clause-runs
returns-in-Ok-Refused-clause-runs g c = λ r judges.
    rw c.end_unopened.ensures.unopened (c.end_unopened.ensures.runs _ c.args.request.now (decides_refused r (g.O.DigestOpener.state c.args.opener.now) (g.O.DigestOpener.state c.args.opener.now) c.args.request.now c.in-Ok-Refused.answer (rw (c.in-Ok-Refused.is ∙ ap Ok c.in-Ok-Refused.field-0-is) at judges)))

pub returns-in-Ok-Refused-clause-length : goal.returns-in-Ok-Refused-clause-length
returns-in-Ok-Refused-clause-length g c = λ r within. ends_any c.end_unopened.result.status (rw c.in-Ok-Refused.is at within)

pub returns-in-Err-clause-runs : goal.returns-in-Err-clause-runs
returns-in-Err-clause-runs g c = λ r judges.
    rw c.end_unopened-in-Err.ensures.unopened (c.end_unopened-in-Err.ensures.runs _ c.args.request.now (decides_stopped r (g.O.DigestOpener.state c.args.opener.now) (g.O.DigestOpener.state c.args.opener.now) c.args.request.now c.in-Err.halt (rw c.in-Err.is at judges)))
