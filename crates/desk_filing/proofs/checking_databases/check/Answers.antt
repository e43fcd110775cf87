use Rattle.std.proofs.Common.{Option, Err, refl, ⊎_elim}
use Rattle.case_run.specs.declared.answers.CaseAnswer.{CaseAnswer}
use Rattle.desk_filing.proofs.CheckLemmas.{faults_of_both, goes_on}
use Rattle.desk_filing.proofs.FilingLemmas.{decides_refused, decides_stopped}
use Rattle.desk_filing.proofs.WritingLemmas.{ends_any, ends_at, ends_halted}
use Rattle.desk_filing.proofs.checking_databases.check.Goals as goal

pub returns-in-Ok-None-clause-later : goal.returns-in-Ok-None-clause-later
returns-in-Ok-None-clause-later g c = λ log. faults_of_both _ _ _ (c.in-Ok-None.ensures.later log) (c.check_database.ensures.later log)

pub returns-in-Ok-None-clause-runs : goal.returns-in-Ok-None-clause-runs
returns-in-Ok-None-clause-runs g c =
    c.check_database.ensures.runs _
    (goes_on _ _ c.args.request.now.logs (rw c.in-Ok-None.field-0-is at c.in-Ok-None.ensures.looks) refl c.in-Ok-None.ensures.logs.tells c.in-Ok-None.ensures.logs.logs refl c.in-Ok-None.ensures.later)
    (rw c.in-Ok-None.field-0-is at c.in-Ok-None.ensures.looks)

pub returns-in-Ok-None-clause-length : goal.returns-in-Ok-None-clause-length
returns-in-Ok-None-clause-length g c = λ begins. c.check_database.ensures.length (⊎_elim (λ e. absurd e) (λ ends. ends) (c.in-Ok-None.ensures.within begins))

pub returns-in-Ok-Some-clause-runs : goal.returns-in-Ok-Some-clause-runs
returns-in-Ok-Some-clause-runs g c =
    rw c.end_unopened.ensures.unopened (c.end_unopened.ensures.runs _ c.args.request.now (decides_refused _ (g.O.DigestOpener.state c.args.opener.now) (g.O.DigestOpener.state c.args.opener.now) c.args.request.now c.in-Ok-Some.answer (rw c.in-Ok-Some.field-0-is at c.in-Ok-Some.ensures.looks)))

pub returns-in-Ok-Some-clause-length : goal.returns-in-Ok-Some-clause-length
returns-in-Ok-Some-clause-length g c = ends_any c.end_unopened.result.status c.in-Ok-Some.ensures.within

pub returns-in-Err-clause-runs : goal.returns-in-Err-clause-runs
returns-in-Err-clause-runs g c =
    rw c.end_unopened-in-Err.ensures.unopened (c.end_unopened-in-Err.ensures.runs _ c.args.request.now (decides_stopped _ (g.O.DigestOpener.state c.args.opener.now) (g.O.DigestOpener.state c.args.opener.now) c.args.request.now c.in-Err.halt c.in-Err.ensures.looks))

pub returns-in-Err-clause-length : goal.returns-in-Err-clause-length
returns-in-Err-clause-length g c = ends_at c.args.logs.now.orders _ _ _ c.in-Err.ensures.logs (Err c.in-Err.halt) c.end_unopened-in-Err.result.status c.end_unopened-in-Err.ensures.length (ends_halted (Option CaseAnswer) CaseAnswer c.in-Err.halt c.in-Err.ensures.within)
