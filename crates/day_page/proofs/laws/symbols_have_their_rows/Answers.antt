use Rattle.day_page.proofs.LineLemmas.{have-rows}
use Rattle.day_page.proofs.laws.symbols_have_their_rows.Goals as goal

pub returns : goal.returns
returns c = have-rows
