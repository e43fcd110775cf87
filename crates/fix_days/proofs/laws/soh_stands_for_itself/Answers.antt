use Rattle.fix_days.proofs.LineSomeLemmas.{itself, soh-itself}
use Rattle.fix_days.proofs.laws.soh_stands_for_itself.Goals as goal

pub returns : goal.returns
returns c = λ raw more bytes. (soh-itself raw more bytes, itself raw more bytes)
