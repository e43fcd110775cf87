use Rattle.std.proofs.Common.{inr}
use Rattle.desk_run.proofs.DigestLemmas.{stop-cause, stop-within, taken-within}
use Rattle.desk_run.proofs.digests.digest_of_log.Goals as goal

pub returns-in-Ok-clause-digest : goal.returns-in-Ok-clause-digest
returns-in-Ok-clause-digest g c =
    let slot = rw c.as_str.ensures at c.in-Ok.ensures.slot in
    let is = rw c.as_str.ensures at c.in-Ok.ensures.digest in
    record {
      bytes = is.bytes;
      read = record { once = slot.once; started = slot.started; at_end = slot.at_end; within = is.within; taken = is.count; given = is.given; known = is.whole };
      holds = is.digest_is;
    }

pub returns-in-Ok-clause-within : goal.returns-in-Ok-clause-within
returns-in-Ok-clause-within g c =
    inr (taken-within g.F.Shelf c.args.shelf.now c.digest_log.new.shelf c.args.log c.as_str.result.now c.in-Ok.digest c.in-Ok.ensures.digest)

pub returns-in-Err-clause-digest : goal.returns-in-Err-clause-digest
returns-in-Err-clause-digest g c =
    let slot = rw c.as_str.ensures at c.in-Err.ensures.slot in
    rw c.stop_of_take.ensures (stop-cause g.F.Shelf c.args.shelf.now c.digest_log.new.shelf c.args.log c.args.path.now c.in-Err.fault slot)

pub returns-in-Err-clause-within : goal.returns-in-Err-clause-within
returns-in-Err-clause-within g c =
    rw c.stop_of_take.ensures (stop-within g.F.Shelf c.args.shelf.now c.digest_log.new.shelf c.args.log c.as_str.result.now c.in-Err.fault c.in-Err.ensures.slot)
