use Rattle.std.proofs.Common.{sym, ◌∙◌, arith}
use Rattle.fix_days.proofs.SearchLemmas.{first-from, none-from, none-step, step-inside}
use Rattle.fix_days.proofs.UndressLemmas.{rest-all}
use Rattle.fix_days.proofs.beginnings.first_beginning.Goals as goal

pub returns-then-is_beginning : goal.returns-then-is_beginning
returns-then-is_beginning c =
    first-from c.args.text.now _ c.args.from c.places.at c.in-Some.step (rest-all c.args.text.now c.places.at) c.places.invariant.0 c.places.invariant.2 c.in-Some.ensures.0.before (sym c.is_beginning.ensures ∙ c.if-is_beginning.true)

pub places-preserved : goal.places-preserved
places-preserved c =
    let hay = rest-all c.args.text.now c.places.at in
    let low = c.places.invariant.0 in (
      omega (arith, low),
      step-inside c.args.text.now _ c.places.at c.in-Some.step hay c.places.invariant.1 c.in-Some.ensures.1,
      none-step c.args.text.now _ c.args.from c.places.at c.in-Some.step hay c.places.invariant.2 c.in-Some.ensures.0.before (sym c.is_beginning.ensures ∙ c.if-is_beginning.false),
    )

pub returns : goal.returns
returns c = none-from c.args.text.now _ c.args.from c.places.at (rest-all c.args.text.now c.places.at) c.places.invariant.1 c.places.invariant.2 c.in_default.ensures
