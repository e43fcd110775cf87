use Rattle.std.proofs.Common.{◌∙◌, sym, ap, arith, ℕ, suc, ◌*◌}
use Rattle.std.proofs.Math.Nat.{pow-suc}
use Rattle.order_arrivals.proofs.prefix_sums.width_for.Goals as goal

pub loop-width-preserved : goal.loop-width-preserved
loop-width-preserved c =
    let i = c.loop-width.invariant in
    record {
      power = (suc i.power.0, ap (λ (w : ℕ). w * 2) i.power.1 ∙ sym (pow-suc 2 i.power.0));
      some = let s = i.some in omega arith;
      most = let t = c.loop-width-test.true in omega arith;
    }
