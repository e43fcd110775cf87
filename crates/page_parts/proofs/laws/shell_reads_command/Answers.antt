use Rattle.page_parts.proofs.ShellLemmas.{command-read}
use Rattle.page_parts.proofs.laws.shell_reads_command.Goals as goal

pub returns : goal.returns
returns c = command-read
