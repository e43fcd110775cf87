use Rattle.command_words.proofs.phase_words.+phases_within.Given as goal

abbrev pub decreases-phases_within : goal.decreases-phases_within
decreases-phases_within l = l.most
