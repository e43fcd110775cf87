-- The case that is added has a label of its own.
use Rattle.std.proofs.Common.{◌≡◌, None, sym, subst}
use Rattle.case_keeper.specs.Cases.{kept_case}
use Rattle.case_keeper.proofs.LabelLemmas.{own_labels_after}
use Rattle.case_keeper.proofs.map_keeper.MapKeeperKeeper.add.Goals as goal

pub invariant_of-self : goal.invariant_of-self
invariant_of-self c =
    let counted = c.count_call.new.self in
    let none = subst (λ cases. kept_case cases c.args.case.now.label ≡ None) (sym c.count_call.ensures.cases) c.requires in
    record { own_labels = own_labels_after counted.cases c.add.new.self c.args.case.now c.add.result counted.own_labels none c.add.ensures.ok c.add.ensures.err }
