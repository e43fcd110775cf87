use Rattle.csv_logs.specs.Logs.{read_csv_log}
use Rattle.log_verdict.specs.Steps.{reading_by}
use Rattle.log_verdict.proofs.CollectLemmas.{unread-fault}
use Rattle.log_verdict.proofs.reading.collect_csv.Goals as goal

pub returns-in-Ok-clause-read : goal.returns-in-Ok-clause-read
returns-in-Ok-clause-read g c =
    let fed = c.in_ok-pump.ensures.whole in
    let slot = c.in_ok-pump.ensures.slot in
    record {
      bytes = fed.bytes;
      read = record { once = slot.once; started = slot.started; at_end = slot.at_end; within = fed.within; taken = fed.count; given = fed.given; known = fed.whole };
      holds = c.in-Ok.ensures.reads fed.bytes fed.stands;
    }

pub returns-in-Err-clause-read : goal.returns-in-Err-clause-read
returns-in-Err-clause-read g c =
    let fed = c.in_ok-pump.ensures.whole in
    let slot = c.in_ok-pump.ensures.slot in
    rw c.from.ensures (unread-fault (read_csv_log g.R.CsvRecord.names g.R.CsvRecord.meaning) (reading_by c.args.source.now g.F.Shelf c.args.shelf.now c.pump.new.shelf) c.args.which c.args.source.now.name.now fed.bytes c.in-Err.fault
    (record { once = slot.once; started = slot.started; at_end = slot.at_end; within = fed.within; taken = fed.count; given = fed.given; known = fed.whole })
    (c.in-Err.ensures.reads fed.bytes fed.stands))
