use Rattle.audit_base.specs.ContinuousOffences.{resting_priority_finding}
use Rattle.continuous_offences.specs.StateAfterDeals.{deals_of, orders_of, place_of}
use Rattle.continuous_offences.specs.Scanning.{AreClean}
use Rattle.continuous_offences.proofs.passing.first_passed_over.Given as goal

abbrev pub invariant-loop-at : goal.invariant-loop-at
invariant-loop-at l = AreClean (resting_priority_finding (orders_of l.dealt) (deals_of l.dealt) (place_of l.dealt)) l.incoming_deals l.start l.at
