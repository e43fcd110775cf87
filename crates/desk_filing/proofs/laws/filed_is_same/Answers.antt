use Rattle.desk_filing.proofs.SameCallLemmas as calls
use Rattle.desk_filing.proofs.SameTurnLemmas as turns
use Rattle.desk_filing.proofs.laws.filed_is_same.Goals as goal

pub returns-clause-turns : goal.returns-clause-turns
returns-clause-turns c = turns.filed_is_same c.record_verdict_is_one.ensures

pub returns-clause-found : goal.returns-clause-found
returns-clause-found c = calls.filed_is_found

pub returns-clause-calls : goal.returns-clause-calls
returns-clause-calls c = calls.filed_call_is_same (turns.filed_is_same c.record_verdict_is_one.ensures)
