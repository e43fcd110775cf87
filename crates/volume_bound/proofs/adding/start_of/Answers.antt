use Rattle.std.proofs.Common.{◌≡◌, ◌∙◌, ◌-◌, sym, subst, true, arith}
use Rattle.volume_bound.specs.declared.limits.LimitQuantity.{LimitQuantity}
use Rattle.volume_bound.specs.Adding.{limit_counts}
use Rattle.volume_bound.proofs.AddingLemmas.{count-upto}
use Rattle.volume_bound.proofs.adding.start_of.Goals as goal

pub returns-then-limit_counts-clause-count : goal.returns-then-limit_counts-clause-count
returns-then-limit_counts-clause-count c = λ k d low below.
    let limits = c.args.limits.now in
    let inside = c.requires.added.inside in
    count-upto c.args.edge limits c.requires.rising (c.args.added.count - 1) c.index-limits-added.result (omega arith)
    (subst (λ (l : LimitQuantity). limit_counts c.args.edge l.limit ≡ true) c.index-limits-added.is (sym c.limit_counts.ensures ∙ c.if-limit_counts.true)) k d low (omega arith)
