use Rattle.log_source.specs.Sources.{longest_log}
use Rattle.audit_run.proofs.corollaries.a_quiet_shelf_is_read.Goals as goal

pub returns : goal.returns
returns c = λ asked old new before after answer runs. c.a_quiet_shelf_is_read.ensures asked longest_log old new before after answer runs
