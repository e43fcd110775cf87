use Rattle.std.proofs.Common.{◌^◌, arith}
use Rattle.std.proofs.lemmas.Nat.{mul-le}
use Rattle.page_plots.proofs.RoundLemmas.{round-once, round-twice, round-five}
use Rattle.page_plots.proofs.rounds.round_step.Goals as goal

pub overflow_mul-most : goal.overflow_mul-most
overflow_mul-most c =
    let small = c.least_power-power.ensures.bounded in
    let span = c.requires.span in
    let m = mul-le c.args.most c.least_power-power.result 1000 (2 ^ 116) c.requires.few (omega (arith, small, span)) in
    omega (arith, m)

pub returns-then-span-most : goal.returns-then-span-most
returns-then-span-most c =
    round-once c.args.span c.args.most c.least_power-power.result c.least_power-power.ensures.least c.if-span-most.true

pub returns-then-span-most-2 : goal.returns-then-span-most-2
returns-then-span-most-2 c =
    round-twice c.args.span c.args.most c.least_power-power.result c.least_power-power.ensures.least c.if-span-most.false c.if-span-most-2.true

pub returns-else-span-most-2 : goal.returns-else-span-most-2
returns-else-span-most-2 c =
    round-five c.args.span c.args.most c.least_power-power.result c.least_power-power.ensures.least c.if-span-most.false c.if-span-most-2.false
