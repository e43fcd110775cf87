use Rattle.day_page.proofs.FileLemmas.{own-names}
use Rattle.day_page.proofs.laws.pages_have_own_names.Goals as goal

pub returns : goal.returns
returns c = own-names
