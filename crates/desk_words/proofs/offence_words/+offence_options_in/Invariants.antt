use Rattle.std.proofs.Common.{length}
use Rattle.desk_words.proofs.offence_words.+offence_options_in.Given as goal

abbrev pub decreases-offence_options_in : goal.decreases-offence_options_in
decreases-offence_options_in l = length l.words.now
