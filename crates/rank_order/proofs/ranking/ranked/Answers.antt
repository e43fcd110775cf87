use Rattle.std.proofs.Common.{ap, ◌∙◌, sym, List, map, subst, ℕ}
use Rattle.std.proofs.lemmas.Result.{IfOk-weaker}
use Rattle.audit_base.specs.Priority.{IsRanked}
use Rattle.rank_order.specs.declared.ranks.Rank.{Rank}
use Rattle.rank_order.specs.Ranks.{index_of}
use Rattle.rank_order.proofs.RankLemmas.{sorted-ranked}
use Rattle.rank_order.proofs.ranking.ranked.Goals as goal

pub returns : goal.returns
returns c =
    let orders = c.args.orders.now in
    let sorted : List Rank = c.sort_unstable.new.self.items in
    let is : IsRanked orders c.args.side (map index_of sorted) = sorted-ranked orders c.requires c.args.side c.in_ok-ranks.ranks.items sorted c.in_ok-ranks.ensures c.sort_unstable.ensures.permutation c.sort_unstable.ensures.sorted in
    IfOk-weaker c.indices_of.result _ _ (λ v same. subst (λ (xs : List ℕ). IsRanked orders c.args.side xs) (sym (same ∙ ap (map index_of) c.deref.ensures.value)) is) c.indices_of.ensures
