use Rattle.std.proofs.Common.{subst, ◌==◌, List, ℕ, not, length, sym, ap, refl, ◌∙◌}
use Rattle.csv_logs.proofs.FeedLemmas.{after-empty, after-taken, line-place, outcome-place, takes-fields}
use Rattle.csv_logs.specs.Steps.{TakesFields, line_says}
use Rattle.csv_logs.proofs.feeds.CsvFeed.end_line.Goals as goal

pub returns-then-is_empty-clause-taken : goal.returns-then-is_empty-clause-taken
returns-then-is_empty-clause-taken g c =
    let empty = ap not (ap (λ (t : List ℕ). length t == 0) (sym c.line_at-start.ensures.text) ∙ sym c.is_empty.ensures ∙ c.if-is_empty.true) in
    after-empty _ _ _ _ _ _ _ c.requires.good empty

pub take_text-requires : goal.take_text-requires
take_text-requires g c = line-place _ _ _ _ _ _ _ c.requires.room

pub move_on-requires-clause-place : goal.move_on-requires-clause-place
move_on-requires-clause-place g c = outcome-place _ _ _ _ _ (line-place _ _ _ _ _ _ _ c.requires.room) c.in_ok-outcome.ensures

pub returns-clause-taken : goal.returns-clause-taken
returns-clause-taken g c =
    let full = ap not (ap (λ (t : List ℕ). length t == 0) (sym c.line_at-start.ensures.text) ∙ sym c.is_empty.ensures ∙ c.if-is_empty.false) in
    let says = ap (line_says g.R.CsvRecord.names g.R.CsvRecord.meaning c.args.self.now.header) c.line_at-start.ensures.text in
    let said = subst (λ (k : _). TakesFields (line_says g.R.CsvRecord.names g.R.CsvRecord.meaning c.args.self.now.header c.line_at-start.result.1.now) (g.K.Collector.has_taken c.args.self.now.entries) (g.K.Collector.has_taken k) c.in_ok-outcome.outcome) (sym c.move_on.ensures.entries) c.in_ok-outcome.ensures in
    after-taken _ _ _ _ _ _ _ _ _ _ _ (takes-fields _ _ _ _ _ _ _ _ _ _ said c.move_on.ensures.moves) _ _ c.line_at-start.ensures.start refl says full
