use Rattle.desk_filing.proofs.FilingLemmas.{decides_memory}
use Rattle.desk_filing.proofs.databases.file_cases.Goals as goal

pub returns-in-Err-clause-runs : goal.returns-in-Err-clause-runs
returns-in-Err-clause-runs g c = λ r reads.
    rw c.end_unopened.ensures.unopened (c.end_unopened.ensures.runs _ c.args.request.now (decides_memory r (g.O.DigestOpener.state c.args.opener.now) (g.O.DigestOpener.state c.args.opener.now) c.args.request.now))
