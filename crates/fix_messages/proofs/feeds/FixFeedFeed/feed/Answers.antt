use Rattle.std.proofs.Common.{arith}
use Rattle.fix_messages.specs.Feeds.{IsFixFeedOf}
use Rattle.fix_messages.proofs.PartLemmas.{no-part, part-more, part-room, whole-piece}
use Rattle.fix_messages.proofs.feeds.FixFeedFeed.feed.Goals as goal

pub loop-at-init : goal.loop-at-init
loop-at-init g c = (omega arith, no-part (IsFixFeedOf g.K.Collector.has_taken g.R.FixRecord.meaning) c.args.piece.now c.args.self.now)

pub feed_part-requires : goal.feed_part-requires
feed_part-requires g c =
    let end = c.part_end-end in
    part-room (IsFixFeedOf g.K.Collector.has_taken g.R.FixRecord.meaning) c.args.piece.now c.args.self.now c.loop-at.self c.loop-at.at end.result c.loop-at.invariant.1 (omega (arith, end.ensures.more)) end.ensures.inside c.requires

pub loop-at-preserved : goal.loop-at-preserved
loop-at-preserved g c =
    let end = c.part_end-end in (
      end.ensures.inside,
      part-more (IsFixFeedOf g.K.Collector.has_taken g.R.FixRecord.meaning) c.args.piece.now c.args.self.now c.loop-at.self c.loop-at.at end.result c.loop-at.invariant.1 (omega (arith, end.ensures.more)) end.ensures.inside c.feed_part.new.self c.in_ok-feed_part.ensures,
    )

pub returns : goal.returns
returns g c =
    whole-piece (IsFixFeedOf g.K.Collector.has_taken g.R.FixRecord.meaning) c.args.piece.now c.args.self.now c.loop-at.self c.loop-at.at (omega (arith, c.loop-at-test.false)) c.loop-at.invariant.1
