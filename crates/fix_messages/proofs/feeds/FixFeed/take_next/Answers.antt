use Rattle.std.proofs.Common.{refl, subst, ap, Result, is_ok}
use Rattle.std.specs.List.{slice_range}
use Rattle.audit_base.specs.declared.faults.Reason.{Reason}
use Rattle.fix_framing.specs.Framing.{bytes_held}
use Rattle.fix_messages.specs.Bodies.{body_says}
use Rattle.fix_messages.specs.Steps.{TakesSaid}
use Rattle.fix_messages.proofs.FeedLemmas.{ends-fault, ends-message, ends-wait, goes-said, log-place, said-place}
use Rattle.fix_messages.proofs.feeds.FixFeed.take_next.Goals as goal

pub bad_at-bad-requires : goal.bad_at-bad-requires
bad_at-bad-requires g c = log-place g.R.FixRecord.meaning g.K.Collector.has_taken c.args.self.now c.requires.room

pub take_body-requires-clause-place : goal.take_body-requires-clause-place
take_body-requires-clause-place g c = log-place g.R.FixRecord.meaning g.K.Collector.has_taken c.args.self.now c.requires.room

pub returns-in-Wait : goal.returns-in-Wait
returns-in-Wait g c = ends-wait g.K.Collector.has_taken g.R.FixRecord.meaning c.args.self.now _ c.requires.good refl refl c.in-Wait.ensures.answers

pub returns-in-Fault : goal.returns-in-Fault
returns-in-Fault g c =
    ends-fault g.K.Collector.has_taken g.R.FixRecord.meaning c.args.self.now c.shut.new.self c.next_frame.new.self c.in-Fault.at c.in-Fault.fault _ c.bad_at-bad.result c.shut.ensures.bad c.shut.ensures.nothing c.in-Fault.ensures.answers
    c.frame_reason.ensures c.bad_at-bad.ensures

pub bad_at-bad-requires-in-Err : goal.bad_at-bad-requires-in-Err
bad_at-bad-requires-in-Err g c =
    said-place g.K.Collector.has_taken _ _ c.in-Err.reason c.args.self.now.entries c.take_body.new.entries (log-place g.R.FixRecord.meaning g.K.Collector.has_taken c.args.self.now c.requires.room) c.in_ok-take_body-in-Whole.ensures c.in-Err.is

pub returns-in-Ok : goal.returns-in-Ok
returns-in-Ok g c =
    goes-said g.K.Collector.has_taken g.R.FixRecord.meaning c.args.self.now _ c.in-Whole.start c.in-Whole.body c.in-Whole.to c.in_ok-take_body-in-Whole.field-0 c.requires.good refl c.in-Whole.ensures.answers
    (subst (λ (t : _). TakesSaid (body_says g.R.FixRecord.meaning (slice_range t c.in-Whole.body c.in-Whole.to)) (g.K.Collector.has_taken c.args.self.now.entries) (g.K.Collector.has_taken c.take_body.new.entries) c.in_ok-take_body-in-Whole.field-0) c.held-held.ensures c.in_ok-take_body-in-Whole.ensures)
    (ap is_ok c.in-Ok.is)

pub returns-in-Err : goal.returns-in-Err
returns-in-Err g c =
    ends-message g.K.Collector.has_taken g.R.FixRecord.meaning c.args.self.now c.shut-in-Err.new.self c.next_frame.new.self c.in-Whole.start c.in-Whole.body c.in-Whole.to c.in-Err.reason c.take_body.new.entries c.bad_at-bad-in-Err.result
    c.shut-in-Err.ensures.bad c.shut-in-Err.ensures.nothing c.in-Whole.ensures.answers
    (subst (λ (a : Result (Unit {0}) Reason). TakesSaid (body_says g.R.FixRecord.meaning (slice_range (bytes_held c.next_frame.new.self) c.in-Whole.body c.in-Whole.to)) (g.K.Collector.has_taken c.args.self.now.entries) (g.K.Collector.has_taken c.take_body.new.entries) a) c.in-Err.is
    (subst (λ (t : _). TakesSaid (body_says g.R.FixRecord.meaning (slice_range t c.in-Whole.body c.in-Whole.to)) (g.K.Collector.has_taken c.args.self.now.entries) (g.K.Collector.has_taken c.take_body.new.entries) c.in_ok-take_body-in-Whole.field-0) c.held-held.ensures c.in_ok-take_body-in-Whole.ensures))
    c.bad_at-bad-in-Err.ensures
