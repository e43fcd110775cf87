use Rattle.std.proofs.Common.{◌∙◌, ap}
use Rattle.plain_logs.specs.declared.lines.PlainLines.{PlainLines}
use Rattle.plain_logs.proofs.FeedLemmas.{lines-on, lines-room}
use Rattle.plain_logs.proofs.feeds.feed_lines.Goals as goal

pub feed-requires : goal.feed-requires
feed-requires g c = lines-room g.W.SkippedGhost.skipped g.S.SohGhost.text c.args.feed.now c.args.piece.now c.requires.skipped c.requires.room

pub returns : goal.returns
returns g c =
    rw c.replace-lines.ensures.taken
    (lines-on g.W.SkippedGhost.skipped g.S.SohGhost.text c.args.feed.now c.feed.new.self c.replace-lines.new.self c.args.piece.now c.bodies_fit_messages.ensures.on_lines c.days_on_lines_have_one_reading.ensures c.requires.skipped c.in_ok-feed.ensures c.replace-lines.ensures.kept
    (ap (λ (lines : PlainLines _). lines.text.items) c.replace-lines.ensures.placed ∙ c.in_memory_of.ensures))
