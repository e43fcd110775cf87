-- What the deals add up to, one deal after another.
use Rattle.std.proofs.Common.{◌≡◌, ◌∙◌, sym, ap, subst, ℕ, ◌+◌, ◌*◌, ◌^◌, ◌<◌, ◌≤◌, List, length, take, get_or, arith, All}
use Rattle.std.specs.Prelude.{slice_set}
use Rattle.std.proofs.lemmas.List.{length-set, get_or-set_other, take_all}
use Rattle.audit_base.specs.declared.orders.Order.{Order}
use Rattle.audit_base.specs.declared.orders.Deal.{Deal}
use Rattle.audit_base.specs.Deals.{traded, volume, deal_at, deal_past_end, AreTotals, NamesOrders, DealInRange}
use Rattle.audit_base.proofs.TotalsLemmas.{AreTotalsSoFar, apart, totals-more}

-- one deal further in the words of the code: the deal that it reads, and the numbers after each
-- of the two additions
module _ (orders : List Order) (deals : List Deal) (k : ℕ) (lt : k < length deals) (named : All (NamesOrders orders) deals) (d : Deal) (d_is : d ≡ deal_at deals k) (so_far : List ℕ) (total quantity : ℕ) (is : AreTotalsSoFar orders deals k so_far total) (same : quantity ≡ d.quantity) (range : DealInRange d) where
  named_here : NamesOrders orders d
  named_here = subst (NamesOrders orders) (sym d_is) (named k deal_past_end lt)

  pub bid-inside : d.bid < length so_far
  bid-inside = omega (arith, is.totals.count, named_here.bid_inside)

  pub ask-inside : d.ask < length so_far
  ask-inside = omega (arith, is.totals.count, named_here.ask_inside)

  pub bid-fits : get_or so_far d.bid 0 + quantity ≤ (k + 1) * 10 ^ 12
  bid-fits = omega (arith, is.bounded d.bid named_here.bid_inside, same, range.sized.most)

  abbrev pub with_bid : List ℕ
  with_bid = slice_set so_far d.bid (get_or so_far d.bid 0 + quantity)

  ask-stays : get_or with_bid d.ask 0 ≡ get_or so_far d.ask 0
  ask-stays = get_or-set_other {A = ℕ} so_far d.bid d.ask (get_or so_far d.bid 0 + quantity) 0 (λ e. apart orders d named_here (sym e))

  most : quantity ≤ 10 ^ 12
  most = omega (arith, same, range.sized.most)

  pub ask-inside_after : d.ask < length with_bid
  ask-inside_after = omega (arith, length-set {A = ℕ} so_far d.bid (get_or so_far d.bid 0 + quantity), ask-inside)

  pub ask-fits : get_or with_bid d.ask 0 + quantity ≤ (k + 1) * 10 ^ 12
  ask-fits = omega (arith, ask-stays, is.bounded d.ask named_here.ask_inside, same, range.sized.most)

  pub counted : (half whole : List ℕ) → half ≡ with_bid → whole ≡ slice_set half d.ask (get_or half d.ask 0 + quantity)
      → AreTotalsSoFar orders deals (k + 1) whole (total + quantity)
  counted half whole half_is whole_is =
      let is_after : whole ≡ slice_set with_bid d.ask (get_or so_far d.ask 0 + quantity) =
      whole_is ∙ ap (λ (xs : List ℕ). slice_set xs d.ask (get_or xs d.ask 0 + quantity)) half_is ∙ ap (λ (n : ℕ). slice_set with_bid d.ask (n + quantity)) ask-stays in
      let P : Deal → Type 0 = λ e. AreTotalsSoFar orders deals (k + 1) (slice_set (slice_set so_far e.bid (get_or so_far e.bid 0 + quantity)) e.ask (get_or so_far e.ask 0 + quantity)) (total + quantity) in
      subst (λ (xs : List ℕ). AreTotalsSoFar orders deals (k + 1) xs (total + quantity)) (sym is_after)
      (subst P (sym d_is) (totals-more orders deals k lt (named k deal_past_end lt) so_far total quantity is (same ∙ ap (λ (e : Deal). e.quantity) d_is) most))

-- after the last deal
pub counts-all : (orders : List Order) (deals : List Deal) (k : ℕ) (so_far : List ℕ) (total : ℕ) → k ≡ length deals → AreTotalsSoFar orders deals k so_far total
    → AreTotals orders deals so_far × (total ≡ volume deals)
counts-all orders deals k so_far total all is =
    let whole : take k deals ≡ deals = take_all k deals (omega arith) in (
      record { count = is.totals.count; each = λ i lt. is.totals.each i lt ∙ ap (λ (ds : List Deal). traded ds i) whole },
      is.whole ∙ ap volume whole,
    )
