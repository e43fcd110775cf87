use Rattle.fix_days.specs.Laws.{written_line}
use Rattle.fix_days.specs.Lines.{IsLineReading}
use Rattle.plain_logs.specs.BadReports.{IsReadAsReport, whole_line}
use Rattle.plain_logs.specs.LinesAlone.{IsReadWithoutBad}
use Rattle.desk_run.proofs.PlainLemmas.{takes-later, writes-day, writes-within}
use Rattle.desk_run.proofs.plain.write_day_lines.Goals as goal

pub returns-in-EndDay-clause-only : goal.returns-in-EndDay-clause-only
returns-in-EndDay-clause-only g c = record {
  other = c.write_on_lines.ensures.only.other_stays;
  later = takes-later g.F.Shelf written_line (IsLineReading g.S.SohGhost.text) c.args.shelf.now c.write_on_lines.new.shelf c.as_str.result.now (g.K.Sink.state c.args.out.now) (g.K.Sink.state c.write_on_lines.new.out) c.write_on_lines.result c.write_on_lines.ensures.slot;
}

pub returns-in-EndDay-clause-writes : goal.returns-in-EndDay-clause-writes
returns-in-EndDay-clause-writes g c =
    let slot = rw c.as_str.ensures at c.write_on_lines.ensures.slot in
    let ends = rw c.as_str.ensures at c.write_on_lines.ensures.ends in
    let stops = rw c.as_str.ensures at c.write_on_lines.ensures.stops in
    rw c.in-EndDay.is (writes-day g.F.Shelf written_line (IsLineReading g.S.SohGhost.text) c.args.shelf.now c.write_on_lines.new.shelf c.args.day.now (g.K.Sink.state c.args.out.now) (g.K.Sink.state c.write_on_lines.new.out) c.write_on_lines.result slot ends stops)

pub returns-in-EndDay-clause-within : goal.returns-in-EndDay-clause-within
returns-in-EndDay-clause-within g c =
    writes-within g.F.Shelf written_line (IsLineReading g.S.SohGhost.text) c.args.shelf.now c.write_on_lines.new.shelf c.as_str.result.now (g.K.Sink.state c.args.out.now) (g.K.Sink.state c.write_on_lines.new.out) c.write_on_lines.result (returns-in-EndDay-clause-only g c) c.write_on_lines.ensures.slot
    c.write_on_lines.ensures.ends

pub returns-in-LeftOut-clause-only : goal.returns-in-LeftOut-clause-only
returns-in-LeftOut-clause-only g c = record {
  other = c.write_good_on_lines.ensures.only.other_stays;
  later = takes-later g.F.Shelf written_line (IsReadWithoutBad g.S.SohGhost.text) c.args.shelf.now c.write_good_on_lines.new.shelf c.as_str.result.now (g.K.Sink.state c.args.out.now) (g.K.Sink.state c.write_good_on_lines.new.out) c.write_good_on_lines.result c.write_good_on_lines.ensures.slot;
}

pub returns-in-LeftOut-clause-writes : goal.returns-in-LeftOut-clause-writes
returns-in-LeftOut-clause-writes g c =
    let slot = rw c.as_str.ensures at c.write_good_on_lines.ensures.slot in
    let ends = rw c.as_str.ensures at c.write_good_on_lines.ensures.ends in
    let stops = rw c.as_str.ensures at c.write_good_on_lines.ensures.stops in
    rw c.in-LeftOut.is (writes-day g.F.Shelf written_line (IsReadWithoutBad g.S.SohGhost.text) c.args.shelf.now c.write_good_on_lines.new.shelf c.args.day.now (g.K.Sink.state c.args.out.now) (g.K.Sink.state c.write_good_on_lines.new.out) c.write_good_on_lines.result slot ends stops)

pub returns-in-LeftOut-clause-within : goal.returns-in-LeftOut-clause-within
returns-in-LeftOut-clause-within g c =
    writes-within g.F.Shelf written_line (IsReadWithoutBad g.S.SohGhost.text) c.args.shelf.now c.write_good_on_lines.new.shelf c.as_str.result.now (g.K.Sink.state c.args.out.now) (g.K.Sink.state c.write_good_on_lines.new.out) c.write_good_on_lines.result (returns-in-LeftOut-clause-only g c) c.write_good_on_lines.ensures.slot
    c.write_good_on_lines.ensures.ends

pub returns-in-Reported-clause-only : goal.returns-in-Reported-clause-only
returns-in-Reported-clause-only g c = record {
  other = c.write_bad_report.ensures.only.other_stays;
  later = takes-later g.F.Shelf whole_line (IsReadAsReport g.S.SohGhost.text) c.args.shelf.now c.write_bad_report.new.shelf c.as_str.result.now (g.K.Sink.state c.args.out.now) (g.K.Sink.state c.write_bad_report.new.out) c.write_bad_report.result c.write_bad_report.ensures.slot;
}

pub returns-in-Reported-clause-writes : goal.returns-in-Reported-clause-writes
returns-in-Reported-clause-writes g c =
    let slot = rw c.as_str.ensures at c.write_bad_report.ensures.slot in
    let ends = rw c.as_str.ensures at c.write_bad_report.ensures.ends in
    let stops = rw c.as_str.ensures at c.write_bad_report.ensures.stops in
    rw c.in-Reported.is (writes-day g.F.Shelf whole_line (IsReadAsReport g.S.SohGhost.text) c.args.shelf.now c.write_bad_report.new.shelf c.args.day.now (g.K.Sink.state c.args.out.now) (g.K.Sink.state c.write_bad_report.new.out) c.write_bad_report.result slot ends stops)

pub returns-in-Reported-clause-within : goal.returns-in-Reported-clause-within
returns-in-Reported-clause-within g c =
    writes-within g.F.Shelf whole_line (IsReadAsReport g.S.SohGhost.text) c.args.shelf.now c.write_bad_report.new.shelf c.as_str.result.now (g.K.Sink.state c.args.out.now) (g.K.Sink.state c.write_bad_report.new.out) c.write_bad_report.result (returns-in-Reported-clause-only g c) c.write_bad_report.ensures.slot
    c.write_bad_report.ensures.ends
