use Rattle.std.proofs.Common.{not, ap, ◌∙◌}
use Rattle.csv_logs.proofs.FeedLemmas.{goes-keeps, goes-lines, goes-rooms, goes-shut}
use Rattle.csv_logs.proofs.feeds.CsvFeedFeed.feed.Goals as goal

pub end_rest-requires-clause-room : goal.end_rest-requires-clause-room
end_rest-requires-clause-room g c =
    goes-rooms _ _ _ _ _ _ _ _ _ _ _ _ c.lines.invariant (c.is_none.ensures ∙ ap not c.lines-test.true) c.in-Some.ensures.0 c.in-Some.ensures.1 c.requires.bytes c.requires.stands c.requires.room

pub lines-preserved : goal.lines-preserved
lines-preserved g c =
    goes-lines _ _ _ _ _ _ _ _ _ _ _ _ _ _ c.lines.invariant (c.is_none.ensures ∙ ap not c.lines-test.true) c.in-Some.ensures.0 c.in-Some.ensures.1 c.in_ok-left-in-Some.ensures

pub returns : goal.returns
returns g c = goes-shut _ _ _ _ _ _ _ _ _ _ c.lines.invariant (c.is_none.ensures ∙ ap not c.lines-test.false)

pub returns-in-None : goal.returns-in-None
returns-in-None g c =
    goes-keeps g.R.CsvRecord.names g.R.CsvRecord.meaning g.K.Collector.has_taken c.keep_rest.result _ c.lines.self c.keep_rest.new.self _ _ c.lines.invariant (c.is_none.ensures ∙ ap not c.lines-test.true) c.in-None.ensures c.keep_rest.ensures.rest c.keep_rest.ensures.others
