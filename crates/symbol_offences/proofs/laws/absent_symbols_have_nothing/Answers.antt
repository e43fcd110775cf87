use Rattle.symbol_offences.proofs.AbsenceLemmas.{found-present, sound-absent}
use Rattle.symbol_offences.proofs.laws.absent_symbols_have_nothing.Goals as goal

pub returns-clause-found : goal.returns-clause-found
returns-clause-found c = found-present

pub returns-clause-sound : goal.returns-clause-sound
returns-clause-sound c = sound-absent
