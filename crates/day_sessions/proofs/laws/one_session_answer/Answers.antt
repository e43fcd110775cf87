use Rattle.day_sessions.proofs.LawLemmas.{one-session-answer}
use Rattle.day_sessions.proofs.laws.one_session_answer.Goals as goal

pub returns : goal.returns
returns c = one-session-answer c.one_session.ensures c.records_are_in_range.ensures.trades
