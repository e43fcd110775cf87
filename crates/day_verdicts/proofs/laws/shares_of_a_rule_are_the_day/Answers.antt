use Rattle.day_verdicts.proofs.ShareTellingLemmas.{rule-shares-tell}
use Rattle.day_verdicts.proofs.laws.shares_of_a_rule_are_the_day.Goals as goal

pub returns : goal.returns
returns c = rule-shares-tell c.record_verdict_is_one.ensures c.shares_are_the_day.ensures
