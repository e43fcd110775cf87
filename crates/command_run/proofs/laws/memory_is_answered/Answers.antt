use Rattle.command_run.proofs.NoMemoryLemmas.{memory_answers, memory_causes}
use Rattle.command_run.proofs.laws.memory_is_answered.Goals as goal

pub returns-clause-causes : goal.returns-clause-causes
returns-clause-causes g c = λ asked r old some. memory_causes g.P.Program.command r old g.P.Program.usage asked some

pub returns-clause-held : goal.returns-clause-held
returns-clause-held g c = λ asked r old. memory_answers g.P.Program.command r old asked
