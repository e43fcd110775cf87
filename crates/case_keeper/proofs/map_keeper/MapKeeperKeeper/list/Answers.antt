-- What is listed is what passes, and so each of it passes.
use Rattle.std.proofs.Common.{rules, Some, All, IsTrue, sym, ap, ◌∙◌, subst}
use Rattle.std.proofs.lemmas.List.Elements.{filter_passes}
use Rattle.case_keeper.specs.Cases.{passes_filter, passing_cases}
use Rattle.case_keeper.proofs.map_keeper.MapKeeperKeeper.list.Goals as goal

pub returns-clause-listed : goal.returns-clause-listed
returns-clause-listed c =
    let filter = c.args.filter.now in
    record {
      accounts = record { later = c.count_call.ensures.accounts.later; cause = search rules; stays = tt };
      stays = ap Some c.count_call.ensures.cases;
      passing_only = subst (All (λ case. IsTrue (passes_filter filter case))) (sym c.in_ok-cases.ensures) (filter_passes (passes_filter filter) c.as_slice.result.now);
      known = c.in_ok-cases.ensures ∙ ap (passing_cases filter) (c.as_slice.ensures ∙ c.count_call.ensures.cases);
    }
