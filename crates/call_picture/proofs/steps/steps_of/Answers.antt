use Rattle.std.proofs.Common.{◌<◌, ◌∙◌, sym, subst, List, ℕ, length, take, get_or, arith, rules}
use Rattle.std.proofs.lemmas.List.{take_more, take_all}
use Rattle.call_picture.specs.Merging.{AreStepsSoFar}
use Rattle.call_picture.proofs.StepLemmas.{order-step, ranked-limits, small-first, small-more, step-first, step-more, steps-all}
use Rattle.call_picture.proofs.steps.steps_of.Goals as goal

pub loop-at-init : goal.loop-at-init
loop-at-init c =
    let ranks = c.args.ranks.now in
    let some : 0 < length ranks = search rules in
    let r = get_or ranks 0 0 in
    let inside = c.requires.inside 0 0 some in (
      small-first c.args.orders.now c.args.traded.now r c.step_of_order-step.result c.step_of_order-step.ensures c.requires.in_range inside c.requires.small,
      λ deals side totals ranked. step-first c.args.orders.now deals side c.args.by_limit (take 1 ranks) c.new-steps.result.items c.step_of_order-step.result r
          (take_more ranks 0 0 some) c.new-steps.ensures.items (c.step_of_order-step.ensures ∙ order-step c.args.orders.now deals c.args.traded.now r totals inside),
    )

pub loop-at-preserved : goal.loop-at-preserved
loop-at-preserved c =
    let ranks = c.args.ranks.now in
    let at = c.loop-at.at in
    let r = get_or ranks at 0 in
    let lt = c.loop-at-test.true in
    let inside = c.requires.inside at 0 lt in (
      small-more at c.args.by_limit c.loop-at.step c.step_of_order-next.result c.in_ok-step.step c.loop-at.invariant.0
          (small-first c.args.orders.now c.args.traded.now r c.step_of_order-next.result c.step_of_order-next.ensures c.requires.in_range inside c.requires.small) c.in_ok-step.ensures.next,
      λ deals side totals ranked. subst (λ (l : List ℕ). AreStepsSoFar c.args.orders.now deals side c.args.by_limit l c.merge_step.new.steps.items c.in_ok-step.step) (sym (take_more ranks at 0 lt))
          (step-more c.args.orders.now deals side c.args.by_limit (take at ranks) c.loop-at.steps.items c.loop-at.step (c.loop-at.invariant.1 deals side totals ranked) r
          c.step_of_order-next.result c.in_ok-step.step c.merge_step.new.steps.items
          (c.step_of_order-next.ensures ∙ order-step c.args.orders.now deals c.args.traded.now r totals inside)
          (ranked-limits c.args.orders.now side ranks ranked at lt) c.in_ok-step.ensures.next c.in_ok-step.ensures.finished),
    )

pub returns : goal.returns
returns c =
    let ranks = c.args.ranks.now in
    let whole = take_all c.loop-at.at ranks (let past = c.loop-at-test.false in omega arith) in
    λ deals side totals ranked. steps-all c.args.orders.now deals side c.args.by_limit ranks c.loop-at.steps.items c.push_step.new.steps.items c.loop-at.step
    (subst (λ (l : List ℕ). AreStepsSoFar c.args.orders.now deals side c.args.by_limit l c.loop-at.steps.items c.loop-at.step) whole (c.loop-at.invariant.1 deals side totals ranked))
    c.in_ok-push_step.ensures
