-- The answer is that of the runtime's command line, over its files and output.
use Rattle.auditor_program.proofs.run_auditor.Goals as goal

pub returns : goal.returns
returns c = (_, c.answer_command_line.ensures)
