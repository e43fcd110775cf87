use Rattle.std.proofs.Common.{arith}
use Rattle.call_picture.proofs.WindowLemmas.{before-within}
use Rattle.call_picture.proofs.windows.drawn_of.Goals as goal

pub quantity_of_steps-before-requires : goal.quantity_of_steps-before-requires
quantity_of_steps-before-requires c =
    let within = before-within c.args.volume c.args.steps.now c.reach_of.result c.first_drawn-first.result c.reach_of.ensures.reach c.first_drawn-first.ensures in
    let fits = c.ranges.volume.fits in
    record { fits = omega (arith, within, fits) }
