use Rattle.std.proofs.Common.{ℕ, List, ◌-◌, ◌<◌, length, subst, sym, arith}
use Rattle.fix_days.specs.Undressings.{HasUndressed}
use Rattle.fix_days.proofs.LookLemmas.{needs-fewer}
use Rattle.fix_days.proofs.UndressLemmas.{has-undressed, undresses-on}
use Rattle.fix_days.proofs.looking.look_at.Goals as goal

pub answer_of-requires-clause-bytes : goal.answer_of-requires-clause-bytes
answer_of-requires-clause-bytes c =
    let all = undresses-on c.args.soh.now c.args.held.now c.args.place c.looks.at c.args.ended _ _ c.in_ok-reached.reached c.looks.invariant.3 c.in_ok-reached.ensures.bytes in
    subst (λ (t : List ℕ). HasUndressed c.args.soh.now c.args.held.now c.args.place (length t)) (sym c.deref.ensures.value)
    (has-undressed c.args.soh.now c.args.held.now c.args.place c.args.ended c.in_ok-reached.reached c.undress.new.out.items all)

pub returns-in-Some : goal.returns-in-Some
returns-in-Some c =
    let all = undresses-on c.args.soh.now c.args.held.now c.args.place c.looks.at c.args.ended _ _ c.in_ok-reached.reached c.looks.invariant.3 c.in_ok-reached.ensures.bytes in
    let says = rw c.deref.ensures.value at c.in-Some.ensures in
    says c.looks.count c.args.ended all c.in_ok-reached.ensures.bytes.inside c.in_ok-reached.ensures.reached

pub looks-smaller : goal.looks-smaller
looks-smaller c =
    let all = undresses-on c.args.soh.now c.args.held.now c.args.place c.looks.at c.args.ended _ _ c.in_ok-reached.reached c.looks.invariant.3 c.in_ok-reached.ensures.bytes in
    let says = rw c.deref.ensures.value at c.in_default.ensures in
    let needs = says c.looks.count c.args.ended all c.in_ok-reached.ensures.bytes.inside c.in_ok-reached.ensures.reached in
    let few = needs-fewer c.args.held.now c.undress.new.out.items c.looks.count c.args.ended c.in_ok-reached.reached c.in_ok-reached.why needs c.in_ok-reached.ensures.reached in
    let low = c.looks.invariant.1 in
    let more = c.next_count-count.ensures.more in
    let less : 1048607 - c.next_count-count.result < 1048607 - c.looks.count = omega (arith, few, low, more) in
    less

pub looks-preserved : goal.looks-preserved
looks-preserved c =
    let all = undresses-on c.args.soh.now c.args.held.now c.args.place c.looks.at c.args.ended _ _ c.in_ok-reached.reached c.looks.invariant.3 c.in_ok-reached.ensures.bytes in
    let low = c.looks.invariant.1 in
    let more = c.next_count-count.ensures.more in
    (c.in_ok-reached.ensures.bytes.inside, omega (arith, low, more), c.next_count-count.ensures.most, all)

pub next_count-count-requires-clause-few : goal.next_count-count-requires-clause-few
next_count-count-requires-clause-few c =
    let all = undresses-on c.args.soh.now c.args.held.now c.args.place c.looks.at c.args.ended _ _ c.in_ok-reached.reached c.looks.invariant.3 c.in_ok-reached.ensures.bytes in
    let says = rw c.deref.ensures.value at c.in_default.ensures in
    let needs = says c.looks.count c.args.ended all c.in_ok-reached.ensures.bytes.inside c.in_ok-reached.ensures.reached in
    needs-fewer c.args.held.now c.undress.new.out.items c.looks.count c.args.ended c.in_ok-reached.reached c.in_ok-reached.why needs c.in_ok-reached.ensures.reached
