use Rattle.std.proofs.Common.{refl, sym, ◌∙◌}
use Rattle.std.proofs.lemmas.Result.{on_ok_weaker}
use Rattle.fix_messages.proofs.FeedLemmas.{none-is}
use Rattle.log_contents.proofs.MessageFeedLemmas.{fed-messages, fed-stands}
use Rattle.log_contents.proofs.message_feed.MessageFeedFeed.feed.Goals as goal

pub take_messages-requires-clause-room : goal.take_messages-requires-clause-room
take_messages-requires-clause-room g c =
    fed-messages _ g.R.FixRecord.meaning c.args.self.now _ c.args.piece.now (none-is _ (sym c.is_some.ensures ∙ c.if-is_some.false)) refl c.in_ok-feed.ensures.ok c.requires

pub returns : goal.returns
returns g c =
    let none = none-is _ (sym c.is_some.ensures ∙ c.if-is_some.false) in
    on_ok_weaker c.take_messages.result (λ ends log stood. fed-stands _ g.R.FixRecord.meaning c.args.self.now (record c.args.self.now { feed = record c.args.self.now.feed { framer = c.feed.new.self } }) c.take_messages.new.self c.args.piece.now log none refl c.in_ok-feed.ensures.ok ends stood) c.take_messages.ensures
