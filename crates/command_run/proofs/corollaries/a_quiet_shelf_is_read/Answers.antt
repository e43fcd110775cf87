use Rattle.command_run.proofs.MemoryLemmas.{never_unread}
use Rattle.command_run.proofs.corollaries.a_quiet_shelf_is_read.Goals as goal

pub returns : goal.returns
returns g c = λ asked limit old new before after answer runs. never_unread g.P.Program.command g.P.Program.usage limit asked old new before after answer runs
