use Rattle.std.proofs.Common.{ap, refl, inl, Err}
use Rattle.desk_filing.proofs.CheckLemmas.{good_both}
use Rattle.desk_filing.proofs.FilingLemmas.{decides_checked, decides_unopened}
use Rattle.desk_filing.proofs.WritingLemmas.{ends_at}
use Rattle.desk_filing.specs.Runs.{missing_database}
use Rattle.desk_filing.specs.declared.opener.MissingDatabase.TheVariants.{Refuse}
use Rattle.desk_filing.proofs.checking_databases.check_database.Goals as goal

pub returns-in-Ok-clause-runs : goal.returns-in-Ok-clause-runs
returns-in-Ok-clause-runs g c = λ first on reads.
    c.write_decided-ran.ensures.runs _ c.args.request.now
    (decides_checked _ (g.O.DigestOpener.state c.args.opener.now) (g.O.DigestOpener.state c.open.new.self) c.args.request.now c.requires.asked (ap missing_database c.requires.asked) _ _ (rw c.as_str.ensures at c.in-Ok.ensures.opened) c.check_in-answer.result
    (c.check_in-answer.ensures.checks first on reads))

pub returns-in-Ok-clause-length : goal.returns-in-Ok-clause-length
returns-in-Ok-clause-length g c = ends_at c.args.logs.now.orders _ _ _ c.check_in-answer.ensures.logs c.check_in-answer.result c.write_decided-ran.result.status c.write_decided-ran.ensures.length c.check_in-answer.ensures.within

pub returns-in-Err-clause-runs : goal.returns-in-Err-clause-runs
returns-in-Err-clause-runs g c = λ first on reads.
    rw c.end_unopened.ensures.unopened (c.end_unopened.ensures.runs _ c.args.request.now
    (rw c.from.ensures (decides_unopened _ (g.O.DigestOpener.state c.args.opener.now) (g.O.DigestOpener.state c.open.new.self) c.args.request.now (good_both first _ on c.args.request.now reads refl) (λ tells. inl c.requires.asked) Refuse (ap missing_database c.requires.asked) c.in-Err.fault
    (λ e. rw c.as_str.ensures at (c.in-Err.ensures.cause (ap Err e))))))

pub returns-in-Err-clause-length : goal.returns-in-Err-clause-length
returns-in-Err-clause-length g c = λ begins. inl begins
