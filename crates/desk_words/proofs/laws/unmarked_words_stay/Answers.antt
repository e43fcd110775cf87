use Rattle.desk_words.proofs.OrderLemmas.{unmarked-stay}
use Rattle.desk_words.proofs.laws.unmarked_words_stay.Goals as goal

pub returns : goal.returns
returns c = unmarked-stay
