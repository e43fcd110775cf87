-- The run began with the shelf over the files, the opener, and the sink over the output.
use Rattle.std.proofs.Common.{refl}
use Rattle.desk_program.proofs.answer_command_line.Goals as goal

pub returns : goal.returns
returns g c =
    (_, c.exit_code.ensures, (_, (c.noted_files-shelf.ensures, refl, c.fresh_output-out.ensures), c.answer_words-answered.ensures))
