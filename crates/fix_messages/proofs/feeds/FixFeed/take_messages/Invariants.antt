use Rattle.std.proofs.Common.{◌≡◌, ℕ, List, None, length}
use Rattle.fix_framing.specs.Framing.{bytes_unframed}
use Rattle.fix_messages.specs.Feeds.{HasReadMessages}
use Rattle.fix_messages.specs.Steps.{HasLog}
use Rattle.fix_messages.proofs.feeds.FixFeed.take_messages.Given as goal

abbrev pub invariant-messages : goal.invariant-messages
invariant-messages g l =
    (l.self.bad ≡ None) × HasLog g.K.Collector.has_taken g.R.FixRecord.meaning l.self
    × ((log : List ℕ) → HasReadMessages (g.K.Collector.has_taken l.initial.self.entries) g.R.FixRecord.meaning l.initial.self.framer log
    → HasReadMessages (g.K.Collector.has_taken l.self.entries) g.R.FixRecord.meaning l.self.framer log)

abbrev pub decreases-messages : goal.decreases-messages
decreases-messages g l = length (bytes_unframed l.self.framer)
