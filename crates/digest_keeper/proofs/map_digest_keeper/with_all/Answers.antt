-- Case by case: one whose label is not known is put behind the others.
use Rattle.std.proofs.Common.{rules, ◌≡◌, false, None, [], ◌∷◌, ◌++◌, sym, ap, ◌∙◌, subst}
use Rattle.std.specs.Prelude.{is_some}
use Rattle.digest_keeper.specs.KeptCases.{kept_under, kept_of, KeptLabelsDiffer}
use Rattle.digest_keeper.proofs.KeptLemmas.{none_found, labels_more, filed_more}
use Rattle.digest_keeper.proofs.map_digest_keeper.with_all.Goals as goal

pub loop-digested-preserved : goal.loop-digested-preserved
loop-digested-preserved c =
    let made = c.loop-digested.made.items in
    let one = c.digested-item.result in
    let pushed : c.push.new.self.items ≡ made ++ kept_of one ∷ [] = c.in_ok-push.ensures.items ∙ ap (λ k. made ++ k ∷ []) c.kept.ensures in
    let found : is_some c.find_label.result ≡ false = search rules in
    let none : kept_under made one.case.label ≡ None = none_found c.find_label.result (kept_under made one.case.label) (c.find_label.ensures ∙ ap (λ k. kept_under k one.case.label) c.deref.ensures.value) found in
    record {
      is = pushed ∙ filed_more c.args.kept.now made c.args.filed.now c.loop-digested.digested-index one c.loop-digested-test.true c.digested-item.is c.loop-digested.invariant.is;
      apart = subst KeptLabelsDiffer (sym pushed) (labels_more made (kept_of one) c.loop-digested.invariant.apart none);
    }
