use Rattle.day_sessions.proofs.LawLemmas.{phases-shares-tell}
use Rattle.day_sessions.proofs.laws.shares_of_phases_are_the_day.Goals as goal

pub returns : goal.returns
returns c = phases-shares-tell c.one_session.ensures c.records_are_in_range.ensures.trades c.shares_are_the_day.ensures
