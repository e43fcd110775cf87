use Rattle.std.proofs.Common.{◌∙◌}
use Rattle.std.proofs.lemmas.Result.{IfOk-weaker}
use Rattle.csv_logs.proofs.FeedLemmas.{ends-lines, has-line, lines-room}
use Rattle.csv_logs.proofs.feeds.CsvFeed.read_on.Goals as goal

pub read_line-requires-clause-room : goal.read_line-requires-clause-room
read_line-requires-clause-room g c = has-line _ _ _ _ _ _ _ c.requires.room

pub read_line-requires-clause-reading : goal.read_line-requires-clause-reading
read_line-requires-clause-reading g c = record { later = c.args.text.now; reads = c.requires.reading }

pub read_lines-requires-clause-room : goal.read_lines-requires-clause-room
read_lines-requires-clause-room g c =
    lines-room _ _ _ _ _ _ _ _ _ c.requires.room (c.in_ok-read_line.ensures.rest ∙ c.requires.rest) c.in_ok-read_line.ensures.taken

pub read_lines-requires-clause-reading : goal.read_lines-requires-clause-reading
read_lines-requires-clause-reading g c = c.in_ok-read_line.ensures.reading c.args.text.now c.requires.reading

pub returns-clause-taken : goal.returns-clause-taken
returns-clause-taken g c =
    IfOk-weaker c.read_lines.result _ _
    (λ left goes. ends-lines _ _ _ _ _ _ _ _ _ _ _ _ _ _ (c.in_ok-read_line.ensures.rest ∙ c.requires.rest) c.in_ok-read_line.ensures.taken goes) c.read_lines.ensures.goes
