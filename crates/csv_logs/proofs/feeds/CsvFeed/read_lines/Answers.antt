use Rattle.std.proofs.Common.{◌≡◌, [], ◌++◌, List, ℕ, true, not, ap, subst, sym, ◌∙◌, arith}
use Rattle.std.specs.List.{list_all}
use Rattle.csv_logs.specs.Columns.{is_unquoted_byte}
use Rattle.csv_logs.specs.Lines.{without_cr}
use Rattle.csv_logs.specs.Readers.{IsReading, is_closed, is_plain_byte}
use Rattle.csv_logs.proofs.ClosedLemmas.{unquoted-closed}
use Rattle.csv_logs.proofs.UnquotedLemmas.{plain-line, unquoted-without_cr}
use Rattle.csv_logs.specs.Steps.{EndsLine, HasLine}
use Rattle.csv_logs.proofs.FeedLemmas.{goes-none, goes-room, goes-line}
use Rattle.csv_logs.proofs.feeds.CsvFeed.read_lines.Goals as goal
use Rattle.csv_logs.proofs.feeds.CsvFeed.read_lines.Goals.{else-not-unquoted-via-then-not-unquoted+else-not-is_closed, else-not-unquoted-via-else-not-unquoted}

pub lines-init : goal.lines-init
lines-init g c = record {
  goes = goes-none _ c.args.text.now;
  nothing = c.requires.rest;
  started = c.requires.started;
  reading = c.requires.reading;
  plain = c.is_plain-plain.ensures;
}

pub read_line-requires-clause-closed : goal.read_line-requires-clause-closed
read_line-requires-clause-closed g c = elim c.else-not-unquoted.branch [
  | else-not-unquoted-via-then-not-unquoted+else-not-is_closed w ↦ ap is_closed (sym c.without_cr-text.ensures) ∙ sym w.is_closed.ensures ∙ w.if-not-is_closed.false
  | else-not-unquoted-via-else-not-unquoted w ↦
      unquoted-closed (without_cr c.in-Some.line.now) (ap (list_all is_unquoted_byte) (sym c.without_cr-text.ensures) ∙ sym c.is_unquoted_unless_known-unquoted.ensures ∙ w.if-not-unquoted.false)
]

pub read_line-requires-clause-room : goal.read_line-requires-clause-room
read_line-requires-clause-room g c =
    let room = goes-room _ _ _ _ _ _ _ _ _ _ _ _ c.lines.invariant.goes (c.is_none.ensures ∙ ap not c.lines-test.true) c.in-Some.ensures.0 c.in-Some.ensures.1 c.requires.room.bytes c.requires.room.stands c.requires.room.room in
    subst (λ (r : List ℕ). HasLine g.R.CsvRecord.names g.R.CsvRecord.meaning (g.K.Collector.has_taken c.lines.self.entries) (r ++ c.in-Some.line.now) c.lines.self.offset c.lines.self.header) c.lines.invariant.nothing room

pub lines-preserved : goal.lines-preserved
lines-preserved g c =
    let was = c.lines.self in
    let now = c.read_line.new.self in
    let said = c.in_ok-read_line.ensures in
    let nothing : now.rest.items ≡ [] = said.rest ∙ c.lines.invariant.nothing in
    record {
      goes = goes-line _ _ _ _ _ _ _ _ _ _ _ _ c.lines.invariant.goes (c.is_none.ensures ∙ ap not c.lines-test.true) c.in-Some.ensures.0 c.in-Some.ensures.1 _ _ _ _ _
          (subst (λ (r : List ℕ). EndsLine g.R.CsvRecord.names g.R.CsvRecord.meaning (g.K.Collector.has_taken was.entries) (r ++ c.in-Some.line.now) was.offset was.header (g.K.Collector.has_taken now.entries) now.rest.items now.offset now.header now.bad) (sym c.lines.invariant.nothing)
          (subst (λ (r : List ℕ). EndsLine g.R.CsvRecord.names g.R.CsvRecord.meaning (g.K.Collector.has_taken was.entries) c.in-Some.line.now was.offset was.header (g.K.Collector.has_taken now.entries) r now.offset now.header now.bad) (sym nothing) said.taken));
      nothing = nothing;
      started = omega (arith, c.lines.invariant.started, said.moved);
      reading = said.reading c.in-Some.later.now (subst (IsReading _ c.lines.reader) c.in-Some.ensures.0 c.lines.invariant.reading);
      plain = λ on. (plain-line c.in-Some.line.now c.in-Some.later.now (subst (λ (text : List ℕ). list_all is_plain_byte text ≡ true) c.in-Some.ensures.0 (c.lines.invariant.plain on)) c.in-Some.ensures.1).1;
    }

pub is_unquoted_unless_known-unquoted-requires : goal.is_unquoted_unless_known-unquoted-requires
is_unquoted_unless_known-unquoted-requires g c = λ on.
    let line = plain-line c.in-Some.line.now c.in-Some.later.now (subst (λ (text : List ℕ). list_all is_plain_byte text ≡ true) c.in-Some.ensures.0 (c.lines.invariant.plain on)) c.in-Some.ensures.1 in
    ap (list_all is_unquoted_byte) c.without_cr-text.ensures ∙ unquoted-without_cr c.in-Some.line.now line.0
