use Rattle.session_audit.specs.Progress.{IsDaySoFar}
use Rattle.session_audit.proofs.auditing.audit_phases.Given as goal

abbrev pub invariant-loop-index : goal.invariant-loop-index
invariant-loop-index l = IsDaySoFar l.phases l.orders l.deals l.index l.so_far.traded.items l.so_far.left.items
