use Rattle.desk_page.proofs.AskLemmas.{tells-words}
use Rattle.desk_page.proofs.laws.page_tells_its_words.Goals as goal

pub returns : goal.returns
returns c = tells-words c.shell_reads_command.ensures
