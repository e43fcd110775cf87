-- Each call has the words after the first command.
use Rattle.std.proofs.Common.{length}
use Rattle.program_ends.proofs.usage_notes.+print_commands.Given as goal

abbrev pub decreases-print_commands : goal.decreases-print_commands
decreases-print_commands g l = length l.words.now
