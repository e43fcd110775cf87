-- What is found is what is on file under the label, which it has.
use Rattle.std.proofs.Common.{rules, ◌≡◌, Some, sym, ap, ◌∙◌, subst}
use Rattle.std.specs.Prelude.{IfSome}
use Rattle.digest_keeper.specs.KeptCases.{kept_under}
use Rattle.digest_keeper.proofs.KeptLemmas.{kept_has_label}
use Rattle.digest_keeper.proofs.map_digest_keeper.MapDigestKeeperDigestKeeper.find.Goals as goal

pub returns : goal.returns
returns c =
    let label = c.args.label.now in
    let now = c.count_call.new.self.kept.items in
    let is : c.copied.result ≡ kept_under now label = c.copied.ensures ∙ c.find_label.ensures ∙ ap (λ kept. kept_under kept label) c.deref.ensures.value in
    record {
      accounts = record { later = c.count_call.ensures.accounts.later; cause = search rules; stays = tt };
      stays = ap (λ kept. Some kept.items) c.count_call.ensures.kept;
      labelled = subst (λ found. IfSome found (λ one. one.case.label ≡ label)) (sym is) (kept_has_label now label);
      known = is ∙ ap (λ kept. kept_under kept.items label) c.count_call.ensures.kept;
    }
