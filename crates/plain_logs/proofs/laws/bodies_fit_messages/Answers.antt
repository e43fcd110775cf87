use Rattle.plain_logs.proofs.FitLemmas.{framed-fit, lines-fit}
use Rattle.plain_logs.proofs.laws.bodies_fit_messages.Goals as goal

pub returns-clause-framed : goal.returns-clause-framed
returns-clause-framed c = framed-fit

pub returns-clause-on_lines : goal.returns-clause-on_lines
returns-clause-on_lines c = lines-fit
