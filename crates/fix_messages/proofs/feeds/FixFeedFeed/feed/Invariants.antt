use Rattle.std.proofs.Common.{◌-◌, ◌≤◌, length, take}
use Rattle.log_source.specs.Handing.{HandsOnMore}
use Rattle.fix_messages.specs.Feeds.{IsFixFeedOf}
use Rattle.fix_messages.proofs.feeds.FixFeedFeed.feed.Given as goal

abbrev pub invariant-loop-at : goal.invariant-loop-at
invariant-loop-at g l =
    (l.at ≤ length l.piece)
    × HandsOnMore (IsFixFeedOf g.K.Collector.has_taken g.R.FixRecord.meaning l.initial.self) (IsFixFeedOf g.K.Collector.has_taken g.R.FixRecord.meaning l.self) (take l.at l.piece)

abbrev pub decreases-loop-at : goal.decreases-loop-at
decreases-loop-at g l = length l.piece - l.at
