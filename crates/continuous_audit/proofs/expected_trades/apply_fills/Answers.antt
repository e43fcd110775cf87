use Rattle.std.proofs.Common.{arith, get_or}
use Rattle.continuous_audit.specs.declared.fills.Fill.{Fill}
use Rattle.continuous_audit.proofs.FilledLemmas.{filled-next}
use Rattle.continuous_audit.proofs.expected_trades.apply_fills.Goals as goal

pub apply_fill-requires-clause-fits : goal.apply_fill-requires-clause-fits
apply_fill-requires-clause-fits c =
    let f : Fill = get_or c.args.fills.now c.loop-index.index (record { index = 0; quantity = 0 }) in
    let sum = c.loop-index.invariant.traded_is f.index in
    let fits = c.requires.fits f.index in
    omega (arith, filled-next c.args.fills.now c.loop-index.index f.index (record { index = 0; quantity = 0 }) c.loop-index-test.true)
