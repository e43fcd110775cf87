use Rattle.plain_logs.proofs.TextLemmas.{plain-again, plain-read}
use Rattle.plain_logs.proofs.laws.plain_days_stay_plain.Goals as goal

pub returns-clause-read : goal.returns-clause-read
returns-clause-read c = plain-read c.days_have_one_reading.ensures.framed c.written_days_are_read_again.ensures.framed c.bodies_fit_messages.ensures.framed c.bodies_fit_messages.ensures.on_lines

pub returns-clause-again : goal.returns-clause-again
returns-clause-again c = plain-again c.days_have_one_reading.ensures.framed c.written_days_are_read_again.ensures.framed c.bodies_fit_messages.ensures.framed c.bodies_fit_messages.ensures.on_lines
