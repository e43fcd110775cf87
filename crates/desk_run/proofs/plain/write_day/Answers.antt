use Rattle.desk_run.specs.PlainAnswers.{day_reading, day_writes}
use Rattle.desk_run.specs.TopCall.{desk_reading}
use Rattle.desk_run.proofs.PlainLemmas.{nothing-written}
use Rattle.desk_run.proofs.plain.write_day.Goals as goal

pub returns-in-Framed-clause-writes : goal.returns-in-Framed-clause-writes
returns-in-Framed-clause-writes g c = rw c.in-Framed.is c.write_day_framed.ensures.writes

pub returns-in-Ok-clause-writes : goal.returns-in-Ok-clause-writes
returns-in-Ok-clause-writes g c =
    let writes = rw (c.in-Ok.ensures.items, c.soh_of.ensures) at c.write_day_on_lines.ensures.writes in
    rw c.in-OnLines.is writes

pub returns-in-Err-clause-writes : goal.returns-in-Err-clause-writes
returns-in-Err-clause-writes g c =
    nothing-written (desk_reading g.F.Shelf c.args.shelf.now c.args.shelf.now) (day_writes c.args.dress.now) (day_reading c.args.dress.now) c.args.day.now (g.K.Sink.state c.args.out.now)
