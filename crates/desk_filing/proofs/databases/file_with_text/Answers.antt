use Rattle.std.proofs.Common.{ap, Err}
use Rattle.desk_filing.proofs.FilingLemmas.{decides_filed, decides_unopened, needs_to_file}
use Rattle.desk_filing.specs.declared.opener.MissingDatabase.TheVariants.{Make}
use Rattle.desk_filing.proofs.databases.file_with_text.Goals as goal

pub returns-in-Ok-clause-runs : goal.returns-in-Ok-clause-runs
returns-in-Ok-clause-runs g c = λ r reads.
    c.write_decided-ran.ensures.runs _ c.args.request.now
    (decides_filed r (g.O.DigestOpener.state c.args.opener.now) (g.O.DigestOpener.state c.open.new.self) c.args.request.now c.requires.made c.args.cases.now reads _ _ (rw c.as_str.ensures at c.in-Ok.ensures.opened) c.file_in-answer.result c.file_in-answer.ensures.files)

pub returns-in-Err-clause-runs : goal.returns-in-Err-clause-runs
returns-in-Err-clause-runs g c = λ r reads.
    rw c.end_unopened.ensures.unopened (c.end_unopened.ensures.runs _ c.args.request.now
    (rw c.from.ensures (decides_unopened r (g.O.DigestOpener.state c.args.opener.now) (g.O.DigestOpener.state c.open.new.self) c.args.request.now reads.read (needs_to_file r c.args.request.now c.args.cases.now reads) Make c.requires.made c.in-Err.fault (λ e. rw c.as_str.ensures at (c.in-Err.ensures.cause (ap Err e))))))
