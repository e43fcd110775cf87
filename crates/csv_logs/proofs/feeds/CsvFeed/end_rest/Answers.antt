use Rattle.std.proofs.Common.{List, ℕ, subst, sym, ◌∙◌}
use Rattle.csv_logs.specs.Feeds.{HasCsvFeedFields}
use Rattle.csv_logs.proofs.FeedLemmas.{ends-kept}
use Rattle.csv_logs.proofs.feeds.CsvFeed.end_rest.Goals as goal

pub returns : goal.returns
returns g c =
    let now = c.take_lines.new.self in
    ends-kept g.R.CsvRecord.names g.R.CsvRecord.meaning g.K.Collector.has_taken c.args.self.now c.take_rest.new.self _ _ _ _ _ _ c.in_ok-line.ensures.others (c.deref.ensures.value ∙ c.in_ok-line.ensures.line)
    (λ log stood. subst (λ (r : List ℕ). HasCsvFeedFields (g.K.Collector.has_taken now.entries) g.R.CsvRecord.names g.R.CsvRecord.meaning r now.offset now.header now.bad log) (c.in_ok-left.ensures.rest ∙ sym c.clear.ensures.items) stood)
    c.in_ok-left.ensures.taken
