use Rattle.std.proofs.Common.{refl, sym, ◌∙◌}
use Rattle.std.proofs.lemmas.Result.{on_ok_weaker}
use Rattle.fix_days.proofs.MessageLemmas.{fed-reads, fed-room, none-is, open-reads, shut-more, some-is}
use Rattle.fix_days.proofs.messages.Messages.feed.Goals as goal

pub take_messages-requires-clause-room : goal.take_messages-requires-clause-room
take_messages-requires-clause-room g c =
    fed-room g.B.Bodies.has_taken c.args.self.now _ c.args.piece.now (none-is _ (sym c.is_some.ensures ∙ c.if-is_some.false)) refl refl c.in_ok-feed.ensures.ok c.requires

pub returns-then-is_some-clause-stands : goal.returns-then-is_some-clause-stands
returns-then-is_some-clause-stands g c = λ text stood.
    let bad = some-is _ (sym c.is_some.ensures ∙ c.if-is_some.true) in
    shut-more g.B.Bodies.has_taken c.args.self.now bad.0 text c.args.piece.now bad.1 stood

pub returns-clause-stands : goal.returns-clause-stands
returns-clause-stands g c =
    let none = none-is _ (sym c.is_some.ensures ∙ c.if-is_some.false) in
    on_ok_weaker c.take_messages.result (λ ends text stood. ends.stands _ (fed-reads g.B.Bodies.has_taken c.args.self.now (record c.args.self.now { framer = c.feed.new.self }) c.args.piece.now text refl refl c.in_ok-feed.ensures.ok (open-reads g.B.Bodies.has_taken c.args.self.now text none stood).reads)) c.take_messages.ensures
