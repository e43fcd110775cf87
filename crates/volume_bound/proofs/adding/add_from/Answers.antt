use Rattle.std.proofs.Common.{◌≡◌, ◌∙◌, sym, subst, false, arith}
use Rattle.audit_base.proofs.OffenceLemmas.{get_or-default}
use Rattle.volume_bound.specs.declared.limits.LimitQuantity.{LimitQuantity}
use Rattle.volume_bound.specs.Adding.{limit_counts}
use Rattle.volume_bound.proofs.AddingLemmas.{all-added}
use Rattle.volume_bound.proofs.adding.add_from.Goals as goal

pub returns-then-not-limit_counts-clause-same : goal.returns-then-not-limit_counts-clause-same
returns-then-not-limit_counts-clause-same c =
    let limits = c.args.limits.now in
    let n = c.loop-added.added.count in
    let inv = c.loop-added.invariant in
    inv.added.whole ∙ all-added c.args.edge limits c.requires.rising n inv.added.inside inv.count (λ d lt.
    subst (λ (l : LimitQuantity). limit_counts c.args.edge l.limit ≡ false) (c.index-limits-added.is ∙ get_or-default limits n c.index-limits-added.result d lt) (sym c.limit_counts.ensures ∙ c.if-not-limit_counts.true))

pub returns-clause-same : goal.returns-clause-same
returns-clause-same c =
    let inv = c.loop-added.invariant in
    inv.added.whole ∙ all-added c.args.edge c.args.limits.now c.requires.rising c.loop-added.added.count inv.added.inside inv.count (λ d lt. let end = c.loop-added-test.false in absurd (omega arith))
