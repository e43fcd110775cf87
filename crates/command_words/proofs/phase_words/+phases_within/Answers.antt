use Rattle.command_words.proofs.PhaseWordLemmas.{no-room}
use Rattle.command_words.proofs.phase_words.+phases_within.Goals as goal

pub returns-then-most-eq0-clause-phases : goal.returns-then-most-eq0-clause-phases
returns-then-most-eq0-clause-phases t c = rw c.in-Some.is (no-room c.args.most c.args.before c.in-Some.word.now c.if-most-eq0.true)
