use Rattle.std.proofs.Common.{ap, is_ok, refl}
use Rattle.fix_framing.specs.Framing.{bytes_held}
use Rattle.fix_messages.proofs.FeedLemmas.{said-place}
use Rattle.log_contents.specs.Kinds.{kind_of_message}
use Rattle.log_contents.proofs.MessageFeedLemmas.{counts-message, ends-at-fault, ends-at-message, held-says, kind-place, record-place, said-fault, waits-next}
use Rattle.log_contents.proofs.message_feed.MessageFeed.take_next.Goals as goal

pub bad_at-bad-requires : goal.bad_at-bad-requires
bad_at-bad-requires g c = record-place _ g.R.FixRecord.meaning c.args.self.now c.requires.room

pub take_message-requires-clause-records : goal.take_message-requires-clause-records
take_message-requires-clause-records g c = record-place _ g.R.FixRecord.meaning c.args.self.now c.requires.room

pub take_message-requires-clause-kinds : goal.take_message-requires-clause-kinds
take_message-requires-clause-kinds g c = kind-place _ g.R.FixRecord.meaning c.args.self.now c.requires.room

pub returns-in-Wait : goal.returns-in-Wait
returns-in-Wait g c = waits-next _ g.R.FixRecord.meaning c.args.self.now _ c.requires.good refl refl c.in-Wait.ensures.answers

pub returns-in-Fault : goal.returns-in-Fault
returns-in-Fault g c =
    ends-at-fault _ g.R.FixRecord.meaning c.args.self.now c.shut.new.self c.next_frame.new.self c.in-Fault.at c.in-Fault.fault _ c.bad_at-bad.result c.shut.ensures.bad c.shut.ensures.nothing c.in-Fault.ensures.answers
    c.frame_reason.ensures c.bad_at-bad.ensures

pub bad_at-bad-requires-in-Err : goal.bad_at-bad-requires-in-Err
bad_at-bad-requires-in-Err g c =
    said-place _ _ _ c.in-Err.reason c.args.self.now.feed.entries c.take_message.new.self (record-place _ g.R.FixRecord.meaning c.args.self.now c.requires.room) c.in_ok-take_message-in-Whole.ensures.records c.in-Err.is

pub returns-in-Ok : goal.returns-in-Ok
returns-in-Ok g c =
    counts-message _ g.R.FixRecord.meaning c.args.self.now _ c.in-Whole.start c.in-Whole.body c.in-Whole.to c.in_ok-take_message-in-Whole.field-0 c.requires.good refl c.in-Whole.ensures.answers
    (held-says g.R.FixRecord.meaning _ (bytes_held c.next_frame.new.self) c.in-Whole.body c.in-Whole.to _ _ c.in_ok-take_message-in-Whole.field-0 c.held-held.ensures c.in_ok-take_message-in-Whole.ensures.records)
    (held-says (kind_of_message g.R.FixRecord.meaning) _ (bytes_held c.next_frame.new.self) c.in-Whole.body c.in-Whole.to _ _ c.in_ok-take_message-in-Whole.field-0 c.held-held.ensures c.in_ok-take_message-in-Whole.ensures.kinds)
    (ap is_ok c.in-Ok.is)

pub returns-in-Err : goal.returns-in-Err
returns-in-Err g c =
    ends-at-message _ g.R.FixRecord.meaning c.args.self.now c.shut-in-Err.new.self c.next_frame.new.self c.in-Whole.start c.in-Whole.body c.in-Whole.to c.in-Err.reason c.take_message.new.self c.bad_at-bad-in-Err.result
    c.shut-in-Err.ensures.bad c.shut-in-Err.ensures.nothing c.in-Whole.ensures.answers
    (said-fault _ _ _ c.in_ok-take_message-in-Whole.field-0 c.in-Err.reason c.in-Err.is
    (held-says g.R.FixRecord.meaning _ (bytes_held c.next_frame.new.self) c.in-Whole.body c.in-Whole.to _ _ c.in_ok-take_message-in-Whole.field-0 c.held-held.ensures c.in_ok-take_message-in-Whole.ensures.records))
    c.bad_at-bad-in-Err.ensures
