use Rattle.canonical_form.specs.Parts.{AreMergedShares}
use Rattle.canonical_form.specs.Shares.{AreShares}
use Rattle.canonical_form.proofs.ShareLemmas.{are-shares, if_ok-weaker}
use Rattle.canonical_form.proofs.shares.canonical.Goals as goal

pub returns : goal.returns
returns c = if_ok-weaker c.merge_parts.result (λ shares. AreMergedShares c.deref.result.now shares.items) (λ shares. AreShares c.args.deals.now shares.items)
    (λ shares merged. are-shares c.args.deals.now c.deref.result.now shares.items (let e = c.deref.ensures.value in rw e c.in_ok-parts.ensures.sums) merged) c.merge_parts.ensures
