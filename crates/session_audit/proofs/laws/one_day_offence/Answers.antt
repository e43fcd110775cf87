use Rattle.session_audit.proofs.OneOffenceLemmas.{one-day_offence}
use Rattle.session_audit.proofs.laws.one_day_offence.Goals as goal

pub returns : goal.returns
returns c = one-day_offence
