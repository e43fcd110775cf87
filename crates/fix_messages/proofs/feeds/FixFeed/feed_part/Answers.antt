use Rattle.std.proofs.Common.{refl, sym, ◌∙◌}
use Rattle.std.proofs.lemmas.Result.{on_ok_weaker}
use Rattle.fix_messages.proofs.FeedLemmas.{fed-reads, fed-room, none-is, open-reads}
use Rattle.fix_messages.proofs.feeds.FixFeed.feed_part.Goals as goal

pub take_messages-requires-clause-room : goal.take_messages-requires-clause-room
take_messages-requires-clause-room g c =
    fed-room g.K.Collector.has_taken g.R.FixRecord.meaning c.args.self.now _ c.args.part.now (none-is _ (sym c.is_some.ensures ∙ c.if-is_some.false)) refl c.in_ok-feed.ensures.ok c.requires

pub returns : goal.returns
returns g c =
    let none = none-is _ (sym c.is_some.ensures ∙ c.if-is_some.false) in
    on_ok_weaker c.take_messages.result (λ ends log stood. ends.stands _ (fed-reads g.K.Collector.has_taken g.R.FixRecord.meaning c.args.self.now (record c.args.self.now { framer = c.feed.new.self }) c.args.part.now log refl c.in_ok-feed.ensures.ok (open-reads g.K.Collector.has_taken g.R.FixRecord.meaning c.args.self.now log none stood))) c.take_messages.ensures
