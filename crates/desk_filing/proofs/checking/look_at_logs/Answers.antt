use Rattle.std.proofs.Common.{refl}
use Rattle.desk_filing.proofs.LookLemmas.{looks_through, looks_within, looks_without}
use Rattle.log_verdict.specs.Steps.{reading_by}
use Rattle.desk_filing.proofs.checking.look_at_logs.Goals as goal

pub returns-in-Ok-clause-looks : goal.returns-in-Ok-clause-looks
returns-in-Ok-clause-looks g c = looks_through _ c.args.request.now c.args.orders.now c.args.trades.now c.requires.names c.in-Ok.ensures.decides

pub returns-in-Err-clause-looks : goal.returns-in-Err-clause-looks
returns-in-Err-clause-looks g c =
    looks_without _ c.args.request.now c.args.orders.now c.args.trades.now c.requires.names c.in-Err.why c.look_without.result c.look_without.ensures c.in-Err.ensures.decides

pub returns-in-Ok-clause-within : goal.returns-in-Ok-clause-within
returns-in-Ok-clause-within g c = c.in-Ok.ensures.within

pub returns-in-Err-clause-within : goal.returns-in-Err-clause-within
returns-in-Err-clause-within g c = looks_within (reading_by c.args.orders.now g.F.Shelf c.args.shelf.now c.read_through.new.shelf) c.in-Err.why c.read_through.result c.look_without.result c.in-Err.is c.read_through.ensures.within c.look_without.ensures
