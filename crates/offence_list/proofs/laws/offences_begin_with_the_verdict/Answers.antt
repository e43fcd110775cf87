use Rattle.offence_list.proofs.FirstLemmas.{begin_with_the_first, begin_with_the_verdict, no_offence_where_accepted}
use Rattle.offence_list.proofs.laws.offences_begin_with_the_verdict.Goals as goal

pub returns-clause-rule : goal.returns-clause-rule
returns-clause-rule c = begin_with_the_first

pub returns-clause-records : goal.returns-clause-records
returns-clause-records c = begin_with_the_verdict

pub returns-clause-accepted : goal.returns-clause-accepted
returns-clause-accepted c = no_offence_where_accepted
