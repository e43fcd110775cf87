-- The answer is that of the runtime's command line, over its files, output and databases.
use Rattle.std.proofs.Common.{ap, ◌∙◌}
use Rattle.digest_database_files.specs.FileDigestOpeners.{digest_file_opener_state}
use Rattle.desk_program.proofs.run_desk_program.Goals as goal

pub returns : goal.returns
returns c =
    let ends = c.answer_command_line.ensures in
    let from = ends.2 in
    let begins = from.1 in
    (_, (ends.0, ends.1, (from.0, (begins.0, ap digest_file_opener_state begins.1 ∙ c.new-opener.ensures, begins.2), from.2)))
