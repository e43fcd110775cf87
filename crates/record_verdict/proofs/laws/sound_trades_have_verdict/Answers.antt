use Rattle.record_verdict.proofs.VerdictLemmas.{sound-trades}
use Rattle.record_verdict.proofs.laws.sound_trades_have_verdict.Goals as goal

pub returns : goal.returns
returns c = sound-trades
