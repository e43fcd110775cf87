use Rattle.std.proofs.Common.{◌≡◌}
use Rattle.audit_base.specs.Orders.{place_at}
use Rattle.call_offences.specs.Inside.{AreOffencesInside}
use Rattle.offence_list.specs.Answers.{answers_below}
use Rattle.offence_list.specs.ContinuousLists.{offence_at_place}
use Rattle.offence_list.specs.ListedOffences.{findings_of_offences}
use Rattle.continuous_offences.specs.States.{IsReady}
use Rattle.continuous_offences.proofs.listing.continuous_offences.Given as goal

abbrev pub invariant-loop-order : goal.invariant-loop-order
invariant-loop-order l = record {
  ready : IsReady l.market l.order l.state;
  list : findings_of_offences l.fn.orders l.found.items ≡ answers_below (λ order. offence_at_place l.fn.orders l.deals (place_at l.fn.orders order)) l.order;
  inside : AreOffencesInside l.fn.orders l.found.items;
}
