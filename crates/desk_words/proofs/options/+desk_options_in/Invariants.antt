use Rattle.std.proofs.Common.{length}
use Rattle.desk_words.proofs.options.+desk_options_in.Given as goal

abbrev pub decreases-desk_options_in : goal.decreases-desk_options_in
decreases-desk_options_in l = length l.words.now
