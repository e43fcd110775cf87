use Rattle.std.proofs.Common.{ap, refl, Err}
use Rattle.desk_filing.proofs.TopLemmas.{files_refused, same_fault}
use Rattle.desk_filing.proofs.running.run_filing_seeded.Goals as goal

pub returns-in-Ok-clause-files : goal.returns-in-Ok-clause-files
returns-in-Ok-clause-files g c = rw c.in-Ok.ensures.request c.run_request.ensures.files

pub returns-in-Err-clause-files : goal.returns-in-Err-clause-files
returns-in-Err-clause-files g c =
    files_refused g.F.Shelf c.args.shelf _ _ _ _ c.in-Err.fault _ (λ e. c.in-Err.ensures.usage (ap Err e)) (λ e. same_fault (Err c.in-Err.fault) c.in-Err.fault _ refl (c.in-Err.ensures.decided e)) c.refuse_words.ensures.writes
