use Rattle.std.proofs.Common.{subst, ℕ, Ok, Err}
use Rattle.log_verdict.specs.Steps.{reading_by, reading_within}
use Rattle.audit_report.specs.declared.verdicts.Verdict.{Verdict}
use Rattle.case_run.specs.Turns.{EndsWithinOrHalts, GivesFilingVerdictOrHalt}
use Rattle.case_run.proofs.VerdictLemmas.{halts_logs, judges_logs, within_logs, within_verdict}
use Rattle.case_run.proofs.verdicts.verdict_of.Goals as goal

pub returns-in-Ok-clause-decides : goal.returns-in-Ok-clause-decides
returns-in-Ok-clause-decides g c =
    subst (λ (n : ℕ). GivesFilingVerdictOrHalt (reading_within n g.F.Shelf c.args.shelf.now c.verdict_on.new.shelf) c.args.filing.now (Ok c.in-Ok.verdict)) c.source_of-orders.ensures.limit
    (judges_logs (reading_by c.source_of-orders.result g.F.Shelf c.args.shelf.now c.verdict_on.new.shelf) c.args.filing.now c.source_of-orders.result c.source_of-trades.result
    (record { name = c.source_of-orders.ensures.name; form = c.source_of-orders.ensures.form })
    (record { name = c.source_of-trades.ensures.name; form = c.source_of-trades.ensures.form }) c.in-Ok.verdict c.in-Ok.ensures.decides)

pub returns-in-Err-clause-decides : goal.returns-in-Err-clause-decides
returns-in-Err-clause-decides g c =
    subst (λ (n : ℕ). GivesFilingVerdictOrHalt (reading_within n g.F.Shelf c.args.shelf.now c.verdict_on.new.shelf) c.args.filing.now (Err c.from.result)) c.source_of-orders.ensures.limit
    (rw c.from.ensures (halts_logs (reading_by c.source_of-orders.result g.F.Shelf c.args.shelf.now c.verdict_on.new.shelf) c.args.filing.now c.source_of-orders.result c.source_of-trades.result
    (record { name = c.source_of-orders.ensures.name; form = c.source_of-orders.ensures.form })
    (record { name = c.source_of-trades.ensures.name; form = c.source_of-trades.ensures.form }) c.in-Err.stop c.in-Err.ensures.decides))

pub returns-in-Ok-clause-within : goal.returns-in-Ok-clause-within
returns-in-Ok-clause-within g c =
    subst (λ (n : ℕ). EndsWithinOrHalts {T = Verdict} (reading_within n g.F.Shelf c.args.shelf.now c.verdict_on.new.shelf) (Ok c.in-Ok.verdict)) c.source_of-orders.ensures.limit
    (within_verdict (reading_by c.source_of-orders.result g.F.Shelf c.args.shelf.now c.verdict_on.new.shelf) c.in-Ok.verdict c.in-Ok.ensures.within)

pub returns-in-Err-clause-within : goal.returns-in-Err-clause-within
returns-in-Err-clause-within g c =
    subst (λ (n : ℕ). EndsWithinOrHalts {T = Verdict} (reading_within n g.F.Shelf c.args.shelf.now c.verdict_on.new.shelf) (Err c.from.result)) c.source_of-orders.ensures.limit
    (rw c.from.ensures (within_logs (reading_by c.source_of-orders.result g.F.Shelf c.args.shelf.now c.verdict_on.new.shelf) c.in-Err.stop c.in-Err.ensures.within))
