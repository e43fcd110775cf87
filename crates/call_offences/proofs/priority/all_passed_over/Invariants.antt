use Rattle.std.proofs.Common.{◌≡◌}
use Rattle.offence_list.specs.Answers.{answers_below}
use Rattle.offence_list.specs.CallLists.{priority_finding}
use Rattle.offence_list.specs.ListedOffences.{findings_of_offences}
use Rattle.call_offences.specs.Inside.{AreOffencesInside}
use Rattle.call_offences.proofs.priority.all_passed_over.Given as goal

abbrev pub invariant-deals : goal.invariant-deals
invariant-deals l = (findings_of_offences l.orders l.found.items ≡ answers_below (priority_finding l.orders l.deals) l.deal-index) × AreOffencesInside l.orders l.found.items
