-- The first short order of a rank is the best short order.
use Rattle.std.proofs.Common.{◌≡◌, ℕ, List, [], ◌∷◌, get_or, Bool, refl, ap, ◌∙◌, All}
use Rattle.std.specs.Prelude.{find, nat_lt}
use Rattle.std.proofs.lemmas.List.Elements.{All-head, All-tail}
use Rattle.audit_base.specs.declared.terms.Side.{Side}
use Rattle.audit_base.specs.declared.orders.Order.{Order}
use Rattle.audit_base.specs.declared.orders.Deal.{Deal}
use Rattle.audit_base.specs.Orders.{quantity_at, IsOrderList}
use Rattle.audit_base.specs.Priority.{IsRanked}
use Rattle.audit_base.specs.Deals.{AreTotals}
use Rattle.audit_base.specs.Deals as deals_of
use Rattle.audit_base.specs.CallOffences.{best_short}
use Rattle.audit_base.proofs.RankLemmas.{first-ranked}
use Rattle.short_order.specs.ShortOrders.{is_short_by}

-- two tests that agree on a list find the same there
find-same : (p q : ℕ → Bool) (xs : List ℕ) → All (λ i. p i ≡ q i) xs → find p xs ≡ find q xs
find-same p q [] same = refl
find-same p q (x ∷ xs) same = rw (All-head (λ i. p i ≡ q i) x xs same, find-same p q xs (All-tail (λ i. p i ≡ q i) x xs same)) refl

-- a short order that was found by its totals is the best of its side
pub best-found : (orders : List Order) (side : Side) (ranks traded : List ℕ) (deals : List Deal) → IsOrderList orders → IsRanked orders side ranks → AreTotals orders deals traded
    → find (is_short_by orders traded) ranks ≡ best_short orders deals side
unfolding best_short
best-found orders side ranks traded deals list ranked totals =
    find-same (is_short_by orders traded) (λ i. nat_lt (deals_of.traded deals i) (quantity_at orders i)) ranks
    (λ k d lt. ap (λ (n : ℕ). nat_lt n (quantity_at orders (get_or ranks k d))) (totals.each (get_or ranks k d) (ranked.only k d lt).inside))
    ∙ first-ranked orders list side ranks ranked (λ i. nat_lt (deals_of.traded deals i) (quantity_at orders i))
