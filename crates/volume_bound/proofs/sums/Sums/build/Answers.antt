use Rattle.std.proofs.Common.{length, ap, arith}
use Rattle.audit_base.specs.declared.terms.Side.TheVariants.{Buy, Sell}
use Rattle.volume_bound.proofs.ActiveLemmas.{limits-few}
use Rattle.volume_bound.proofs.LimitLemmas.{sides-have_sums}
use Rattle.volume_bound.proofs.sums.Sums.build.Goals as goal

pub of-requires-2 : goal.of-requires-2
of-requires-2 c = record { fits_indices = omega (arith, ap length c.in_ok-bids.ensures.bids, limits-few Buy c.args.orders.now) }

pub of-requires-3 : goal.of-requires-3
of-requires-3 c = record { fits_indices = omega (arith, ap length c.in_ok-bids.ensures.asks, limits-few Sell c.args.orders.now) }

pub returns-clause-stands : goal.returns-clause-stands
returns-clause-stands c =
    sides-have_sums c.args.orders.now c.of-2.result c.of-3.result (rw (← c.in_ok-bids.ensures.bids) c.of-2.ensures) (rw (← c.in_ok-bids.ensures.asks) c.of-3.ensures)
