use Rattle.std.proofs.Common.{◌≡◌, ◌+◌, ◌≤◌, ℕ, List, cond, length, drop, sym, subst, ap, ◌∙◌, arith}
use Rattle.std.specs.Prelude.{nat_eq}
use Rattle.std.specs.List.{starts_with}
use Rattle.fix_days.proofs.UndressLemmas.{PassesTo, passes-more, passes-none, rest-all}
use Rattle.fix_days.proofs.undressing.place_after.Goals as goal

pub units-init : goal.units-init
units-init c =
    let is = passes-none c.args.soh.now c.args.text.now c.args.at c.requires.more c.requires.to c.requires.bytes c.requires.is in (
      is.before.inside,
      λ more to bytes enough is. passes-none c.args.soh.now c.args.text.now c.args.at more to bytes is,
    )

pub units-preserved : goal.units-preserved
units-preserved c =
    let size : c.unit_size-to.result ≡ cond (starts_with nat_eq (drop c.units.to c.args.text.now) c.args.soh.now) (length c.args.soh.now) 1 =
    c.unit_size-to.ensures ∙ ap (λ (t : List ℕ). cond (starts_with nat_eq t c.args.soh.now) (length c.args.soh.now) 1) (rest-all c.args.text.now c.units.to) in
    let few = c.units-test.true in
    let goes : (more : List ℕ) (to : ℕ) (bytes : List ℕ) → c.args.count ≤ length bytes → _ → PassesTo c.args.soh.now c.args.text.now c.args.at more to bytes (c.units.counter + 1) (c.units.to + c.unit_size-to.result) =
    λ more to bytes enough is.
    subst (λ (k : ℕ). PassesTo c.args.soh.now c.args.text.now c.args.at more to bytes (c.units.counter + 1) (c.units.to + k)) (sym size)
    (passes-more c.args.soh.now c.args.text.now c.args.at more to bytes c.units.counter c.units.to (omega (arith, few, enough)) (c.units.invariant.1 more to bytes enough is)) in
    let here = goes c.requires.more c.requires.to c.requires.bytes c.requires.enough c.requires.is in (here.before.inside, goes)

pub overflow_add-to : goal.overflow_add-to
overflow_add-to c =
    let size : c.unit_size-to.result ≡ cond (starts_with nat_eq (drop c.units.to c.args.text.now) c.args.soh.now) (length c.args.soh.now) 1 =
    c.unit_size-to.ensures ∙ ap (λ (t : List ℕ). cond (starts_with nat_eq t c.args.soh.now) (length c.args.soh.now) 1) (rest-all c.args.text.now c.units.to) in
    let few = c.units-test.true in
    let here = subst (λ (k : ℕ). PassesTo c.args.soh.now c.args.text.now c.args.at c.requires.more c.requires.to c.requires.bytes (c.units.counter + 1) (c.units.to + k)) (sym size)
    (passes-more c.args.soh.now c.args.text.now c.args.at c.requires.more c.requires.to c.requires.bytes c.units.counter c.units.to (omega (arith, few, c.requires.enough)) (c.units.invariant.1 c.requires.more c.requires.to c.requires.bytes c.requires.enough c.requires.is)) in
    let inside = here.before.inside in omega (arith, inside)
