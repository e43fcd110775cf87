use Rattle.plain_logs.proofs.GoodLemmas.{good-alike, good-read}
use Rattle.plain_logs.proofs.laws.good_messages_stay_plain.Goals as goal

pub returns-clause-read : goal.returns-clause-read
returns-clause-read c = good-read c.bodies_fit_messages.ensures.on_lines c.written_days_are_read_again.ensures.framed

pub returns-clause-alike : goal.returns-clause-alike
returns-clause-alike c = good-alike c.good_days_are_read_alike.ensures
