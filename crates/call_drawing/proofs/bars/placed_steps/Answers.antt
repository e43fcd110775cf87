use Rattle.std.proofs.Common.{◌≡◌, ◌<◌, subst, sym, refl, ap, arith, List, length, get_or}
use Rattle.call_picture.specs.declared.steps.SideStep.{SideStep}
use Rattle.call_drawing.specs.declared.bars.PlacedStep.{PlacedStep}
use Rattle.call_drawing.proofs.BarLemmas.{ArePlacedSoFar, placed-all, placed-more, placed-start}
use Rattle.call_drawing.proofs.bars.placed_steps.Goals as goal

pub loop-step-init : goal.loop-step-init
loop-step-init c = subst (λ (steps : List PlacedStep). ArePlacedSoFar c.args.plot c.args.side c.args.drawn.now 0 c.args.drawn.now.before steps) (sym c.new-steps.ensures.items) (placed-start c.args.plot c.args.side c.args.drawn.now)

pub loop-step-preserved : goal.loop-step-preserved
loop-step-preserved c =
    let whole : c.deref-step-items.result.now ≡ c.args.drawn.now.steps.items = c.deref-step-items.ensures.value in
    placed-more c.args.plot c.args.side c.args.drawn.now c.loop-step.step-index c.loop-step.start c.step-item.result c.bar_of.result _ _ _
    (subst (λ (steps : List SideStep). c.loop-step.step-index < length steps) whole c.loop-step-test.true)
    (subst (λ (steps : List SideStep). c.step-item.result ≡ get_or steps c.loop-step.step-index c.step-item.result) whole c.step-item.is)
    c.loop-step.invariant c.bar_of.ensures c.in_ok-push_step.ensures refl

pub returns : goal.returns
returns c =
    let whole : c.deref-step-items.result.now ≡ c.args.drawn.now.steps.items = c.deref-step-items.ensures.value in
    let same : length c.deref-step-items.result.now ≡ length c.args.drawn.now.steps.items = ap (λ (steps : List SideStep). length steps) whole in
    let past = c.loop-step-test.false in
    placed-all c.args.plot c.args.side c.args.drawn.now c.loop-step.step-index _ _ (omega (arith, past, same)) c.loop-step.invariant
