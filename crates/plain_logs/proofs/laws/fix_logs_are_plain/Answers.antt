use Rattle.plain_logs.proofs.TextLemmas.{plain-fix}
use Rattle.plain_logs.proofs.laws.fix_logs_are_plain.Goals as goal

pub returns : goal.returns
returns c = plain-fix c.days_have_one_reading.ensures.framed c.fix_logs_are_days.ensures
