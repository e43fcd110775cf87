use Rattle.day_logs.proofs.LawLemmas.{one-day-answer}
use Rattle.day_logs.proofs.laws.one_day_answer.Goals as goal

pub returns : goal.returns
returns c = one-day-answer c.one_day.ensures
