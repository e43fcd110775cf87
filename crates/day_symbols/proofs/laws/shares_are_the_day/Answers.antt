use Rattle.day_symbols.proofs.ShareLemmas.{shares-are}
use Rattle.day_symbols.proofs.laws.shares_are_the_day.Goals as goal

pub returns : goal.returns
returns c = shares-are
