use Rattle.std.proofs.Common.{arith, sym, ◌∙◌}
use Rattle.fix_framing.proofs.BreakLemmas.{Passed-more}
use Rattle.fix_framing.proofs.breaks.skip_breaks.Goals as goal

pub loop-place-preserved : goal.loop-place-preserved
loop-place-preserved c =
    Passed-more c.args.bytes.now c.args.at c.loop-place.place c.loop-place.invariant (omega arith) (sym c.is_line_end.ensures ∙ c.if-is_line_end.true)
