use Rattle.std.proofs.Common.{arith}
use Rattle.audit_base.proofs.DigitLemmas.{scaled_fraction, power_fits}
use Rattle.audit_base.proofs.digits.scaled.Goals as goal

pub overflow_mul-result : goal.overflow_mul-result
overflow_mul-result c =
    rw c.power_of_ten.ensures (omega (arith, scaled_fraction c.args.fraction c.args.places c.args.most c.requires.fraction c.requires.places.0, power_fits c.args.most c.args.most (omega arith) c.requires.places.1))

pub returns-clause-in_range : goal.returns-clause-in_range
returns-clause-in_range c =
    rw c.power_of_ten.ensures (scaled_fraction c.args.fraction c.args.places c.args.most c.requires.fraction c.requires.places.0)
