use Rattle.std.proofs.Common.{ap}
use Rattle.std.specs.Prelude.{option_map}
use Rattle.audit_certificate.proofs.OrderLemmas.{none-passed, one-passed}
use Rattle.audit_certificate.proofs.order_lines.check_order_lines.Goals as goal

pub loop-index-init : goal.loop-index-init
loop-index-init c = none-passed c.args.orders.now c.args.traded.now c.args.bytes.now

pub loop-index-preserved : goal.loop-index-preserved
loop-index-preserved c = one-passed c.args.orders.now c.args.traded.now c.args.bytes.now c.loop-index.index c.loop-index.rest.now c.in-Some.after.now _ c.in_ok-after.ensures (ap (option_map (λ b. b.now)) c.in-Some.is) c.loop-index.invariant
