use Rattle.fix_messages.specs.Logs.{read_fix_log}
use Rattle.log_verdict.specs.Steps.{reading_by}
use Rattle.log_verdict.proofs.CollectLemmas.{unread-fix_fault}
use Rattle.log_verdict.proofs.reading.collect_fix.Goals as goal

pub returns-in-Ok-clause-read : goal.returns-in-Ok-clause-read
returns-in-Ok-clause-read g c =
    let fed = c.in_ok-pump.ensures.whole in
    let slot = c.in_ok-pump.ensures.slot in
    record {
      bytes = fed.bytes;
      read = record { once = slot.once; started = slot.started; at_end = slot.at_end; within = fed.within; taken = fed.count; given = fed.given; known = fed.whole };
      holds = let is = c.in-Ok.ensures.reads fed.bytes fed.stands in record { entries = is.entries; has = is.has; reads = is.reads };
    }

pub returns-in-Err-clause-read : goal.returns-in-Err-clause-read
returns-in-Err-clause-read g c =
    let fed = c.in_ok-pump.ensures.whole in
    let slot = c.in_ok-pump.ensures.slot in
    rw c.from.ensures (unread-fix_fault (read_fix_log g.R.FixRecord.meaning) (reading_by c.args.source.now g.F.Shelf c.args.shelf.now c.pump.new.shelf) c.args.which c.args.source.now.name.now fed.bytes c.in-Err.fault
    (record { once = slot.once; started = slot.started; at_end = slot.at_end; within = fed.within; taken = fed.count; given = fed.given; known = fed.whole })
    (c.in-Err.ensures.reads fed.bytes fed.stands))
