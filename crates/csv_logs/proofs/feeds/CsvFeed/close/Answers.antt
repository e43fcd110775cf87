use Rattle.std.proofs.Common.{◌≡◌, ◌∙◌, vec_len, length, arith}
use Rattle.csv_logs.proofs.FeedLemmas.{ends-bad, ends-good, ends-none, last-kept}
use Rattle.csv_logs.proofs.SizeLemmas.{read-place}
use Rattle.csv_logs.proofs.feeds.CsvFeed.close.Goals as goal

pub returns-in-Some-bad-clause-reads : goal.returns-in-Some-bad-clause-reads
returns-in-Some-bad-clause-reads g c =
    ends-bad _ _ _ _ _ _ _ _ _ _ _ _ c.in_default.is (c.in_ok-end_line.ensures.rest ∙ c.in_ok-last.ensures.rest) (last-kept g.R.CsvRecord.names g.R.CsvRecord.meaning g.K.Collector.has_taken c.args.self c.take_rest.new.self _ _ _ _ _ _ _ c.in_ok-last.ensures.others (c.deref.ensures.value ∙ c.in_ok-last.ensures.line) (c.in_ok-end_line.ensures.rest ∙ c.in_ok-last.ensures.rest) c.in_ok-end_line.ensures.taken) _ c.in-Some-bad.is

pub returns-in-None-clause-reads : goal.returns-in-None-clause-reads
returns-in-None-clause-reads g c =
    ends-good _ _ _ _ _ _ _ _ _ _ _ _ c.in_default.is (c.in_ok-end_line.ensures.rest ∙ c.in_ok-last.ensures.rest) (last-kept g.R.CsvRecord.names g.R.CsvRecord.meaning g.K.Collector.has_taken c.args.self c.take_rest.new.self _ _ _ _ _ _ _ c.in_ok-last.ensures.others (c.deref.ensures.value ∙ c.in_ok-last.ensures.line) (c.in_ok-end_line.ensures.rest ∙ c.in_ok-last.ensures.rest) c.in_ok-end_line.ensures.taken) c.in-None.is c.if-self.true

pub returns-in-None-2-clause-reads : goal.returns-in-None-2-clause-reads
returns-in-None-2-clause-reads g c =
    let size : vec_len c.args.self.rest ≡ length c.args.self.rest.items = omega (arith, c.args.self.rest.ok.0) in
    rw (c.len.ensures, size) (ends-none _ _ _ _ _ _ _ _ _ _ _ _ c.in_default.is (c.in_ok-end_line.ensures.rest ∙ c.in_ok-last.ensures.rest) (last-kept g.R.CsvRecord.names g.R.CsvRecord.meaning g.K.Collector.has_taken c.args.self c.take_rest.new.self _ _ _ _ _ _ _ c.in_ok-last.ensures.others (c.deref.ensures.value ∙ c.in_ok-last.ensures.line) (c.in_ok-end_line.ensures.rest ∙ c.in_ok-last.ensures.rest) c.in_ok-end_line.ensures.taken) c.in-None.is c.if-self.false)

pub returns-in-None-clause-fits_places : goal.returns-in-None-clause-fits_places
returns-in-None-clause-fits_places g c =
    read-place g.R.CsvRecord.meaning g.R.CsvRecord.names g.K.Collector.has_taken _ c.requires.log c.requires.within
    (ends-good _ _ _ _ _ _ _ _ _ _ _ _ c.in_default.is (c.in_ok-end_line.ensures.rest ∙ c.in_ok-last.ensures.rest) (last-kept g.R.CsvRecord.names g.R.CsvRecord.meaning g.K.Collector.has_taken c.args.self c.take_rest.new.self _ _ _ _ _ _ _ c.in_ok-last.ensures.others (c.deref.ensures.value ∙ c.in_ok-last.ensures.line) (c.in_ok-end_line.ensures.rest ∙ c.in_ok-last.ensures.rest) c.in_ok-end_line.ensures.taken) c.in-None.is c.if-self.true c.requires.log c.requires.stands)
