use Rattle.std.proofs.Common.{ℕ, refl, ap, ◌∙◌, replicate}
use Rattle.order_arrivals.proofs.ArrivalLemmas.{traded-first}
use Rattle.continuous_picture.proofs.WalkLemmas.{walk-first}
use Rattle.continuous_picture.proofs.walks.Walk.new.Goals as goal

pub returns : goal.returns
returns c = walk-first c.args.market.now c.requires _ refl c.new.ensures c.new-2.ensures (traded-first c.args.market.now _ _ c.in_ok-new.ensures.added (c.in_ok-new.ensures.traded ∙ ap (λ (n : ℕ). replicate n 0) c.len.ensures))
