-- The run began with the shelf over the files and the sink over the output.
use Rattle.auditor_program.proofs.answer_command_line.Goals as goal

pub returns : goal.returns
returns g c =
    (_, c.exit_code.ensures, (_, (c.noted_files-shelf.ensures, c.fresh_output-out.ensures), c.answer_words-status.ensures))
