use Rattle.std.proofs.Common.{subst, ◌==◌, List, ℕ, length, sym, ap, refl, ◌∙◌}
use Rattle.std.proofs.lemmas.Result.{on_ok_weaker}
use Rattle.csv_logs.specs.Steps.{TakesFields, fields_say}
use Rattle.csv_logs.proofs.ReaderLemmas.{passes-line}
use Rattle.csv_logs.proofs.FeedLemmas.{after-read, line-place, outcome-place, takes-fields}
use Rattle.csv_logs.proofs.feeds.CsvFeed.read_line.Goals as goal

pub returns-then-is_empty-clause-reading : goal.returns-then-is_empty-clause-reading
returns-then-is_empty-clause-reading g c =
    let empty = ap (λ (t : List ℕ). length t == 0) (sym c.without_cr.ensures) ∙ sym c.is_empty.ensures ∙ c.if-is_empty.true in
    on_ok_weaker c.end_line.result (λ _ later is. passes-line g.I.Read.remaining c.args.reader.now c.args.line.now later empty is) c.end_line.ensures.rest

pub read_next-requires : goal.read_next-requires
read_next-requires g c = record {
  line = c.args.line.now;
  later = c.requires.reading.later;
  closed = c.requires.closed;
  bytes = c.requires.unquoted;
  full = ap (λ (t : List ℕ). length t == 0) (sym c.without_cr.ensures) ∙ sym c.is_empty.ensures ∙ c.if-is_empty.false;
  reads = c.requires.reading.reads;
}

pub take_fields-requires : goal.take_fields-requires
take_fields-requires g c = line-place _ _ _ _ _ _ _ c.requires.room

pub move_on-requires-clause-place : goal.move_on-requires-clause-place
move_on-requires-clause-place g c = outcome-place _ _ _ _ _ (line-place _ _ _ _ _ _ _ c.requires.room) c.in_ok-outcome.ensures

pub returns-clause-taken : goal.returns-clause-taken
returns-clause-taken g c =
    let full = ap (λ (t : List ℕ). length t == 0) (sym c.without_cr.ensures) ∙ sym c.is_empty.ensures ∙ c.if-is_empty.false in
    let got = c.in_ok-read_next.ensures c.args.line.now c.requires.reading.later c.requires.closed full c.requires.reading.reads in
    let says = ap (fields_say g.R.CsvRecord.names g.R.CsvRecord.meaning c.args.self.now.header) got.0 in
    let said = subst (λ (k : _). TakesFields (fields_say g.R.CsvRecord.names g.R.CsvRecord.meaning c.args.self.now.header c.read_next.new.self) (g.K.Collector.has_taken c.args.self.now.entries) (g.K.Collector.has_taken k) c.in_ok-outcome.outcome) (sym c.move_on.ensures.entries) c.in_ok-outcome.ensures in
    after-read _ _ _ _ _ _ _ _ _ _ _ (takes-fields _ _ _ _ _ _ _ _ _ _ said c.move_on.ensures.moves) _ _ c.requires.started refl refl c.requires.closed full says

pub returns-clause-reading : goal.returns-clause-reading
returns-clause-reading g c =
    let full = ap (λ (t : List ℕ). length t == 0) (sym c.without_cr.ensures) ∙ sym c.is_empty.ensures ∙ c.if-is_empty.false in
    λ later is. (c.in_ok-read_next.ensures c.args.line.now later c.requires.closed full is).1
