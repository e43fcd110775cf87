use Rattle.fix_days.specs.Framed.{IsFramedReading}
use Rattle.fix_days.specs.Laws.{written_line}
use Rattle.desk_run.proofs.PlainLemmas.{takes-later, writes-day, writes-within}
use Rattle.desk_run.proofs.plain.write_day_framed.Goals as goal

pub returns-clause-only : goal.returns-clause-only
returns-clause-only g c = record {
  other = c.write_framed.ensures.only.other_stays;
  later = takes-later g.F.Shelf written_line IsFramedReading c.args.shelf.now c.write_framed.new.shelf c.as_str.result.now (g.K.Sink.state c.args.out.now) (g.K.Sink.state c.write_framed.new.out) c.write_framed.result c.write_framed.ensures.slot;
}

pub returns-clause-writes : goal.returns-clause-writes
returns-clause-writes g c =
    let slot = rw c.as_str.ensures at c.write_framed.ensures.slot in
    let ends = rw c.as_str.ensures at c.write_framed.ensures.ends in
    let stops = rw c.as_str.ensures at c.write_framed.ensures.stops in
    writes-day g.F.Shelf written_line IsFramedReading c.args.shelf.now c.write_framed.new.shelf c.args.day.now (g.K.Sink.state c.args.out.now) (g.K.Sink.state c.write_framed.new.out) c.write_framed.result slot ends stops

pub returns-clause-within : goal.returns-clause-within
returns-clause-within g c =
    writes-within g.F.Shelf written_line IsFramedReading c.args.shelf.now c.write_framed.new.shelf c.as_str.result.now (g.K.Sink.state c.args.out.now) (g.K.Sink.state c.write_framed.new.out) c.write_framed.result (returns-clause-only g c) c.write_framed.ensures.slot
    c.write_framed.ensures.ends
