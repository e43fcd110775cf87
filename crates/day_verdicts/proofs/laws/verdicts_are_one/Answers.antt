use Rattle.day_verdicts.proofs.OneDayLemmas.{verdicts-one}
use Rattle.day_verdicts.proofs.laws.verdicts_are_one.Goals as goal

pub returns : goal.returns
returns c = verdicts-one c.record_verdict_is_one.ensures
