use Rattle.std.proofs.Common.{ℕ, ◌+◌, List, subst}
use Rattle.fix_days.specs.Runs.{AppendsRun}
use Rattle.fix_days.specs.Undressings.{IsNextUnit}
use Rattle.fix_days.proofs.RunLemmas.{undresses-run}
use Rattle.fix_days.proofs.UndressLemmas.{rest-all, undresses-more}
use Rattle.fix_days.proofs.undressing.undress.Goals as goal

pub returns-then-len-count-clause-bytes : goal.returns-then-len-count-clause-bytes
returns-then-len-count-clause-bytes c =
    undresses-run c.args.soh.now c.args.text.now c.args.at c.args.ended c.args.out.now.items c.units.out.items c.append_run.new.out.items c.units.to c.in_ok-run.run' c.requires.some c.units.invariant
    (subst (λ (t : List ℕ). AppendsRun c.args.soh.now t c.units.out.items c.append_run.new.out.items c.in_ok-run.run') (rest-all c.args.text.now c.units.to) c.in_ok-run.ensures)

pub returns-in-Err-clause-bytes : goal.returns-in-Err-clause-bytes
returns-in-Err-clause-bytes c =
    undresses-run c.args.soh.now c.args.text.now c.args.at c.args.ended c.args.out.now.items c.units.out.items c.append_run.new.out.items c.units.to c.in_ok-run.run' c.requires.some c.units.invariant
    (subst (λ (t : List ℕ). AppendsRun c.args.soh.now t c.units.out.items c.append_run.new.out.items c.in_ok-run.run') (rest-all c.args.text.now c.units.to) c.in_ok-run.ensures)

pub units-preserved : goal.units-preserved
units-preserved c =
    let so = undresses-run c.args.soh.now c.args.text.now c.args.at c.args.ended c.args.out.now.items c.units.out.items c.append_run.new.out.items c.units.to c.in_ok-run.run' c.requires.some c.units.invariant
    (subst (λ (t : List ℕ). AppendsRun c.args.soh.now t c.units.out.items c.append_run.new.out.items c.in_ok-run.run') (rest-all c.args.text.now c.units.to) c.in_ok-run.ensures) in
    undresses-more c.args.soh.now c.args.text.now c.args.at c.args.ended c.args.out.now.items c.append_run.new.out.items c.push.new.self.items (c.units.to + c.in_ok-run.run') c.in-Ok.unit.byte c.in-Ok.unit.size so
    (subst (λ (t : List ℕ). IsNextUnit c.args.soh.now t c.args.ended c.in-Ok.unit.byte c.in-Ok.unit.size) (rest-all c.args.text.now (c.units.to + c.in_ok-run.run')) c.in-Ok.ensures) c.in_ok-push-in-Ok.ensures.items
