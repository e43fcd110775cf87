use Rattle.std.proofs.Common.{suc}
use Rattle.casebook_program.proofs.CallLemmas.{one_more_try}
use Rattle.casebook_program.proofs.database_files.open_when_free.Goals as goal

pub loop-preserved : goal.loop-preserved
loop-preserved g c =
    (suc c.loop.invariant.0, one_more_try c.args.path.now c.loop.invariant.0 _ _ _ _ c.loop.invariant.1 c.in-Err-Busy.ensures c.pause.ensures)
