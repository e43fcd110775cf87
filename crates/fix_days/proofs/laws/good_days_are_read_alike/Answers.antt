use Rattle.fix_days.proofs.AlikeLemmas.{alike}
use Rattle.fix_days.proofs.LineLemmas.{soh-line, soh-some}
use Rattle.fix_days.proofs.laws.good_days_are_read_alike.Goals as goal

pub returns : goal.returns
returns c = λ soh_text day bodies is. alike soh_text (soh-some soh_text is) (soh-line soh_text is) day bodies
