use Rattle.offence_list.proofs.FirstLemmas.{at_orders, are_failures, after_calm}
use Rattle.offence_list.proofs.laws.offences_are_failures.Goals as goal

pub returns-clause-orders : goal.returns-clause-orders
returns-clause-orders c = at_orders

pub returns-clause-fails : goal.returns-clause-fails
returns-clause-fails c = are_failures

pub returns-clause-calm : goal.returns-clause-calm
returns-clause-calm c = after_calm
