use Rattle.std.proofs.Common.{refl, sym, ◌∙◌}
use Rattle.std.proofs.lemmas.Result.{on_ok_weaker}
use Rattle.fix_days.proofs.LineLemmas.{fed-lines, fed-room, lines-open, shut-more}
use Rattle.fix_days.proofs.MessageLemmas.{none-is, some-is}
use Rattle.fix_days.proofs.lines.LineFeedFeed.feed.Goals as goal

pub returns-then-is_some : goal.returns-then-is_some
returns-then-is_some g c = λ day stands.
    let bad = some-is _ (sym c.is_some.ensures ∙ c.if-is_some.true) in
    shut-more g.S.SohGhost.text g.B.Bodies.has_taken c.args.self.now bad.0 day c.args.piece.now bad.1 stands

pub take_messages-requires-clause-room : goal.take_messages-requires-clause-room
take_messages-requires-clause-room g c =
    let none = none-is _ (sym c.is_some.ensures ∙ c.if-is_some.false) in
    fed-room g.S.SohGhost.text g.B.Bodies.has_taken c.args.self.now _ c.args.piece.now none c.requires
    (λ day h. fed-lines g.S.SohGhost.text g.B.Bodies.has_taken c.args.self.now _ c.args.piece.now day refl c.in_ok-extend_from_slice.ensures.items refl refl refl refl refl h)

pub returns : goal.returns
returns g c =
    let none = none-is _ (sym c.is_some.ensures ∙ c.if-is_some.false) in
    on_ok_weaker c.take_messages.result (λ ends day stands.
    ends _ (fed-lines g.S.SohGhost.text g.B.Bodies.has_taken c.args.self.now _ c.args.piece.now day refl c.in_ok-extend_from_slice.ensures.items refl refl refl refl refl (lines-open g.S.SohGhost.text g.B.Bodies.has_taken c.args.self.now day none stands))) c.take_messages.ensures
