use Rattle.std.proofs.Common.{length}
use Rattle.case_run.proofs.CommandLemmas.{IsReadSoFar}
use Rattle.case_run.proofs.words.read_commands.Given as goal

-- what was read, and what the rest asks for, is what all words ask for
abbrev pub invariant-parts : goal.invariant-parts
invariant-parts l = IsReadSoFar l.words l.commands.items l.rest

abbrev pub decreases-parts : goal.decreases-parts
decreases-parts l = length l.rest
