use Rattle.std.proofs.Common.{ap, ◌∙◌, sym, List, map, subst, ℕ}
use Rattle.audit_base.specs.declared.terms.Side.TheVariants.{Buy, Sell}
use Rattle.audit_base.specs.Priority.{IsRanked}
use Rattle.rank_order.specs.declared.ranks.Rank.{Rank}
use Rattle.rank_order.specs.Ranks.{index_of}
use Rattle.rank_order.proofs.RankLemmas.{sorted-ranked}
use Rattle.rank_order.proofs.ranking.ranked_sides.Goals as goal

pub returns : goal.returns
returns c =
    let orders = c.args.orders.now in
    let bids : List Rank = c.sort_unstable.new.self.items in
    let asks : List Rank = c.sort_unstable-2.new.self.items in
    let best_bids : IsRanked orders Buy (map index_of bids) = sorted-ranked orders c.requires Buy c.in_ok-bids.field-0.bids.items bids c.in_ok-bids.ensures.bids c.sort_unstable.ensures.permutation c.sort_unstable.ensures.sorted in
    let best_asks : IsRanked orders Sell (map index_of asks) = sorted-ranked orders c.requires Sell c.in_ok-bids.field-0.asks.items asks c.in_ok-bids.ensures.asks c.sort_unstable-2.ensures.permutation c.sort_unstable-2.ensures.sorted in
    record {
      bids = subst (λ (xs : List ℕ). IsRanked orders Buy xs) (sym (c.in_ok-indices_of.ensures ∙ ap (map index_of) c.deref.ensures.value)) best_bids;
      asks = subst (λ (xs : List ℕ). IsRanked orders Sell xs) (sym (c.in_ok-indices_of-2.ensures ∙ ap (map index_of) c.deref-2.ensures.value)) best_asks;
    }
