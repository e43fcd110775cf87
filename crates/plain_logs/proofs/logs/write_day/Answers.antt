use Rattle.std.proofs.Common.{arith}
use Rattle.std.proofs.lemmas.Result.{err_from_is_err_and}
use Rattle.plain_logs.proofs.PassLemmas.{whole-front}
use Rattle.plain_logs.proofs.SlotLemmas.{takes-as, takes-at-end, takes-no-memory}
use Rattle.plain_logs.proofs.logs.write_day.Goals as goal

pub close-requires : goal.close-requires
close-requires g c =
    let whole = c.in_ok-pass_log.ensures.whole in
    let few = whole.within in
    let limit = c.requires.limit in
    record { day = whole.bytes; bodies = whole.bodies; read = whole.holding; within = omega (arith, few, limit) }

pub returns-in-Ok-clause-ends : goal.returns-in-Ok-clause-ends
returns-in-Ok-clause-ends g c =
    let whole = c.in_ok-pass_log.ensures.whole in
    record {
      bytes = whole.bytes;
      bodies = whole.bodies;
      holding = c.in-Ok.ensures whole.bytes whole.bodies whole.holding;
      begins = whole.begins;
      wrote = whole.wrote;
      quiet = whole.quiet;
      within = whole.within;
      count = whole.count;
      given = whole.given;
      whole = whole.whole;
    }

pub returns-in-Ok-clause-slot : goal.returns-in-Ok-clause-slot
returns-in-Ok-clause-slot g c = takes-at-end g.F.Shelf c.args.day.now.which c.args.day.now.name.now c.args.day.now.limit c.args.shelf.now c.pass_log.new.shelf c.in_ok-pass_log.field-0 c.in-Ok.end c.in_ok-pass_log.ensures.slot

pub returns-in-Err-clause-slot : goal.returns-in-Err-clause-slot
returns-in-Err-clause-slot g c = takes-no-memory g.F.Shelf c.args.day.now.which c.args.day.now.name.now c.args.day.now.limit c.args.shelf.now c.pass_log.new.shelf c.in_ok-pass_log.field-0 c.in_ok-pass_log.ensures.slot

pub returns-in-Err-clause-stops : goal.returns-in-Err-clause-stops
returns-in-Err-clause-stops g c =
    let whole = c.in_ok-pass_log.ensures.whole in
    let count = whole.count in
    record {
      front = whole.bytes;
      bodies = whole.bodies;
      of = record { taken = omega (arith, count); known = λ tells. whole-front _ whole.bytes (whole.whole tells); begins = whole.begins };
      wrote = whole.wrote;
      quiet = whole.quiet;
    }

pub returns-in_err-pass_log-clause-slot : goal.returns-in_err-pass_log-clause-slot
returns-in_err-pass_log-clause-slot g c =
    let p = err_from_is_err_and c.from_residual.result c.from_residual.ensures.1 in
    rw (p.1, p.2) (takes-as _ _ g.F.Shelf c.args.day.now.which c.args.day.now.name.now c.args.day.now.limit c.args.shelf.now c.pass_log.new.shelf c.in_err-pass_log.field-0.0 c.in_err-pass_log.ensures.slot)
