use Rattle.session_audit.proofs.LawLemmas.{session-is-one}
use Rattle.session_audit.proofs.session_laws.one_session.Goals as goal

pub returns : goal.returns
returns c = session-is-one c.one_day_offence.ensures
