use Rattle.std.proofs.Common.{sym, arith}
use Rattle.std.proofs.lemmas.List.{take_all, length-take}
use Rattle.call_picture.proofs.windows.front_of.Goals as goal

pub returns-then-steps-lt-MOST_STEPS-clause-front :
    goal.returns-then-steps-lt-MOST_STEPS-clause-front
returns-then-steps-lt-MOST_STEPS-clause-front c =
    sym (take_all 400 c.args.steps.now (let lt = c.if-steps-lt-MOST_STEPS.true in omega arith))

pub returns-else-steps-lt-MOST_STEPS-clause-count :
    goal.returns-else-steps-lt-MOST_STEPS-clause-count
returns-else-steps-lt-MOST_STEPS-clause-count c = length-take 400 c.args.steps.now
