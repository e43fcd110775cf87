use Rattle.command_words.proofs.PhaseWordLemmas.{cut_parts}
use Rattle.command_words.proofs.phase_words.first_part.Goals as goal

pub returns-in-Some-clause-parts : goal.returns-in-Some-clause-parts
returns-in-Some-clause-parts c = cut_parts c.args.word.now _ c.in-Some.ensures.cut

pub returns-in-None-clause-parts : goal.returns-in-None-clause-parts
returns-in-None-clause-parts c = cut_parts c.args.word.now _ c.in-None.ensures.cut
