use Rattle.std.proofs.Common.{◌-◌}
use Rattle.unit_pairs.specs.Lots.{lots_total}
use Rattle.unit_pairs.specs.Meeting.{units_met}
use Rattle.unit_pairs.proofs.MeetLemmas.{HaveMet}
use Rattle.unit_pairs.proofs.meeting.meet.Given as goal

abbrev pub invariant-loop-bid_progress : goal.invariant-loop-bid_progress
invariant-loop-bid_progress l = HaveMet l.bids l.asks l.bid_progress l.ask_progress l.pairs.items

abbrev pub decreases-loop-bid_progress : goal.decreases-loop-bid_progress
decreases-loop-bid_progress l = lots_total l.bids - units_met l.bids l.bid_progress
