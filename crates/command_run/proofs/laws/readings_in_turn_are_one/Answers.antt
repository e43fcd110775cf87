use Rattle.command_run.proofs.InTurnLemmas.{later-in_turn, within-in_turn}
use Rattle.command_run.proofs.laws.readings_in_turn_are_one.Goals as goal

pub returns-clause-later : goal.returns-clause-later
returns-clause-later c = λ first second on. later-in_turn first second on

pub returns-clause-within : goal.returns-clause-within
returns-clause-within c = λ first second result on orders trades. within-in_turn first second on result orders trades
