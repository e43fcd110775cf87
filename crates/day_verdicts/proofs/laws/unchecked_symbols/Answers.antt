use Rattle.day_verdicts.proofs.CheckLemmas.{unchecked}
use Rattle.day_verdicts.proofs.laws.unchecked_symbols.Goals as goal

pub returns : goal.returns
returns c = unchecked c.nothing_is_found_unasked.ensures
