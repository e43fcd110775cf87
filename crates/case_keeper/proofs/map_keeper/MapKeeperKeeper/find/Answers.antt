-- What is found is the kept case, which has the label.
use Rattle.std.proofs.Common.{rules, ◌≡◌, Some, IfSome, sym, ap, ◌∙◌, subst}
use Rattle.case_keeper.specs.Cases.{kept_case}
use Rattle.case_keeper.proofs.LabelLemmas.{kept_has_label}
use Rattle.case_keeper.proofs.map_keeper.MapKeeperKeeper.find.Goals as goal

pub returns-clause-found : goal.returns-clause-found
returns-clause-found c =
    let label = c.args.label.now in
    record {
      accounts = record { later = c.count_call.ensures.accounts.later; cause = search rules; stays = tt };
      stays = ap Some c.count_call.ensures.cases;
      labelled = subst (λ found. IfSome found (λ case. case.label ≡ label)) (sym c.kept.ensures) (kept_has_label c.count_call.new.self.cases label);
      known = c.kept.ensures ∙ ap (λ cases. kept_case cases label) c.count_call.ensures.cases;
    }
