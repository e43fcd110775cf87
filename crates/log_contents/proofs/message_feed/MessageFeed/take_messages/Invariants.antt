use Rattle.std.proofs.Common.{◌≡◌, ℕ, List, None, length}
use Rattle.fix_framing.specs.Framing.{bytes_unframed}
use Rattle.fix_messages.specs.Feeds.{HasReadMessages}
use Rattle.log_contents.specs.Contents.{HasKinds, HasRecords}
use Rattle.log_contents.specs.Kinds.{kind_of_message}
use Rattle.log_contents.specs.MessageFeeds.{CountsMessages, HasMessages}
use Rattle.log_contents.proofs.message_feed.MessageFeed.take_messages.Given as goal

abbrev pub invariant-messages : goal.invariant-messages
invariant-messages g l =
    (l.self.feed.bad ≡ None) × HasMessages (HasRecords g.R.LogRecord.symbol_of g.R.TimedRecord.time_of) g.R.FixRecord.meaning l.self
    × CountsMessages (HasRecords g.R.LogRecord.symbol_of g.R.TimedRecord.time_of) g.R.FixRecord.meaning l.initial.self l.self

abbrev pub decreases-messages : goal.decreases-messages
decreases-messages g l = length (bytes_unframed l.self.feed.framer)
