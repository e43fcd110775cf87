use Rattle.std.proofs.Common.{sym, ◌∙◌}
use Rattle.std.proofs.lemmas.Result.{on_ok_weaker}
use Rattle.fix_days.proofs.LineLemmas.{end-lines, end-room, end-shut, lines-open}
use Rattle.fix_days.proofs.MessageLemmas.{none-is, some-is}
use Rattle.fix_days.proofs.lines.LineFeed.end_lines.Goals as goal

pub returns-then-is_some : goal.returns-then-is_some
returns-then-is_some g c = λ day stands.
    let bad = some-is _ (sym c.is_some.ensures ∙ c.if-is_some.true) in
    end-shut g.S.SohGhost.text g.B.Bodies.has_taken c.args.self.now bad.0 day bad.1 stands

pub take_messages-requires-clause-room : goal.take_messages-requires-clause-room
take_messages-requires-clause-room g c =
    end-room g.S.SohGhost.text g.B.Bodies.has_taken c.args.self.now (none-is _ (sym c.is_some.ensures ∙ c.if-is_some.false)) c.requires

pub returns : goal.returns
returns g c =
    let none = none-is _ (sym c.is_some.ensures ∙ c.if-is_some.false) in
    on_ok_weaker c.take_messages.result (λ ends day stands. ends day (end-lines g.S.SohGhost.text g.B.Bodies.has_taken c.args.self.now day (lines-open g.S.SohGhost.text g.B.Bodies.has_taken c.args.self.now day none stands))) c.take_messages.ensures
