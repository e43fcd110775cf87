-- Which units the orders of a side have, and that lots are in the order of these.
use Rattle.std.proofs.Common.{◌≡◌, ◌≤◌, ◌<◌, ◌+◌, ◌-◌, ℕ, zero, suc, List, [], ◌∷◌, length, get_or, reverse, refl, sym, ap, ◌∙◌, arith, inl, inr, cond, sum_by, subst, add-one, Bool, true, false}
use Rattle.std.specs.Prelude.{min, ◌&&◌, is_none}
use Rattle.std.proofs.lemmas.Bool.{cases_lt}
use Rattle.std.proofs.lemmas.List.{get_or_default, get_or-reverse, length-reverse}
use Rattle.std.proofs.lemmas.List.Sums.{sum_by-cons, sum_by_more, sum_by-le-sum_by}
use Rattle.audit_base.specs.declared.terms.Side.{Side}
use Rattle.audit_base.specs.declared.terms.Side.TheVariants.{Buy, Sell}
use Rattle.audit_base.specs.declared.orders.Order.{Order}
use Rattle.audit_base.specs.Orders.{order_at, side_at, quantity_at, same_side, is_uncancelled_on, IsUncancelledOn, IsOrderList}
use Rattle.audit_base.specs.Priority.{IsRanked}
use Rattle.audit_base.specs.Bounds.{demand_of_order, supply_of_order, demand, supply}
use Rattle.audit_base.specs.Units.{total_quantity_ahead}
use Rattle.audit_base.specs.Sums.{sum_below}
use Rattle.audit_base.proofs.SumLemmas.{below-add, below-le}
use Rattle.call_laws.proofs.RankedLemmas.{ranked, ranked-is, ranked-one, ranks-apart, ranked-sum, ranked-sum_indices}
use Rattle.call_laws.proofs.AheadLemmas.{ahead-at}
use Rattle.unit_pairs.specs.declared.lots.Lot.{Lot}
use Rattle.unit_pairs.specs.Lots.{lot_past_end, lot_at, lots_before, lots_total, rank_quantity_before, IsLot, AreLots, AreLotsOf}
use Rattle.unit_pairs.proofs.LotLemmas.{filled-before}
use Rattle.unit_pairs.proofs.MeetLemmas.{before-more, before-all}

-- the lot of the order at i has the units of its side after `from i`, up to `to i`; each order
-- that has any is there
pub record Follow (orders : List Order) (side : Side) (from to : ℕ → ℕ) (lots : List Lot) : Type 0 where
  pub stands : (k : ℕ) → k < length lots → IsUncancelledOn orders side (lot_at lots k).order
  pub starts : (k : ℕ) → k < length lots → lots_before lots k ≡ from (lot_at lots k).order
  pub ends : (k : ℕ) → k < length lots → lots_before lots (k + 1) ≡ to (lot_at lots k).order
  pub each : (i : ℕ) → IsUncancelledOn orders side i → from i < to i → (k : ℕ) × (k < length lots) × ((lot_at lots k).order ≡ i)

-- Lots along ranks.

ranks-rise : (orders : List Order) (ranks : List ℕ) (k n : ℕ) → k ≤ n → n ≤ length ranks → rank_quantity_before orders ranks k ≤ rank_quantity_before orders ranks n
ranks-rise orders ranks k zero le top = let e : k ≡ 0 = omega arith in rw e (omega arith)
ranks-rise orders ranks k (suc n) le top = elim (cases_lt n k) [
  | inl lt ↦ let e : k ≡ suc n = omega arith in rw e (omega arith)
  | inr from ↦ rw (← add-one n) (omega (arith, ranks-rise orders ranks k n from (omega arith), sum_by_more (quantity_at orders) ranks n 0 (omega arith)))
]

module _ (orders : List Order) (list : IsOrderList orders) (side : Side) (ranks : List ℕ) (ranked' : IsRanked orders side ranks) where
  same-ranks : ranked orders side ≡ ranks
  same-ranks = ranked-one orders side (ranked orders side) ranks (ranked-is orders side list) ranked'

  ahead-rank : (k : ℕ) → k < length ranks → total_quantity_ahead orders side (get_or ranks k 0) ≡ rank_quantity_before orders ranks k
  ahead-rank k lt = subst (λ (xs : List ℕ). k < length xs → total_quantity_ahead orders side (get_or xs k 0) ≡ rank_quantity_before orders xs k) same-ranks (ahead-at orders side list k 0) lt

  module _ (volume : ℕ) (lots : List Lot) (are : AreLotsOf orders ranks volume lots) where
    order-is : (k : ℕ) → k < length lots → (lot_at lots k).order ≡ get_or ranks k 0
    order-is k lt = ap (λ (l : Lot). l.order) (are.first k lt)

    -- no two are of one order
    pub lots-apart : AreLots lots
    lots-apart = record {
      each = are.each;
      apart = λ i j d lt below e.
          let few = are.bounded in
          let one : (get_or lots i d).order ≡ get_or ranks i 0 = ap (λ (l : Lot). l.order) (get_or_default lots i d lot_past_end (omega arith)) ∙ order-is i (omega arith) in
          let two : (get_or lots j d).order ≡ get_or ranks j 0 = ap (λ (l : Lot). l.order) (get_or_default lots j d lot_past_end below) ∙ order-is j below in
          ranks-apart orders side ranks ranked' i j 0 lt (omega arith) (sym one ∙ e ∙ two);
    }

    rank-within : (k : ℕ) → k < length lots → rank_quantity_before orders ranks k < volume
    rank-within k lt =
        let some : 0 < (lot_at lots k).quantity = (are.each k lot_past_end lt).positive in
        let is : (lot_at lots k).quantity ≡ min (quantity_at orders (get_or ranks k 0)) (volume - rank_quantity_before orders ranks k) = ap (λ (l : Lot). l.quantity) (are.first k lt) in
        omega arith

    -- the units of an order are those after all better ones, as far as the volume goes
    pub lots-follow : lots_total lots ≡ volume → Follow orders side (total_quantity_ahead orders side) (λ i. min volume (total_quantity_ahead orders side i + quantity_at orders i)) lots
    lots-follow whole =
        let few = are.bounded in
        record {
          stands = λ k lt. subst (IsUncancelledOn orders side) (sym (order-is k lt)) (ranked'.only k 0 (omega arith));
          starts = λ k lt.
              let at : total_quantity_ahead orders side (lot_at lots k).order ≡ rank_quantity_before orders ranks k = ap (total_quantity_ahead orders side) (order-is k lt) ∙ ahead-rank k (omega arith) in
              omega (arith, filled-before orders ranks volume lots are k (omega arith), rank-within k lt);
          ends = λ k lt.
              let at : total_quantity_ahead orders side (lot_at lots k).order ≡ rank_quantity_before orders ranks k = ap (total_quantity_ahead orders side) (order-is k lt) ∙ ahead-rank k (omega arith) in
              let more : rank_quantity_before orders ranks (k + 1) ≡ rank_quantity_before orders ranks k + quantity_at orders (get_or ranks k 0) = sum_by_more (quantity_at orders) ranks k 0 (omega arith) in
              let same : quantity_at orders (lot_at lots k).order ≡ quantity_at orders (get_or ranks k 0) = ap (quantity_at orders) (order-is k lt) in
              omega (arith, filled-before orders ranks volume lots are (k + 1) (omega arith));
          each = λ i s lt.
              let c = ranked'.each i s in
              let n = c.0 in
              let inside : n < length ranks = c.1 in
              let at : get_or ranks n 0 ≡ i = get_or_default ranks n 0 i inside ∙ c.2 in
              let before : total_quantity_ahead orders side i ≡ rank_quantity_before orders ranks n = ap (total_quantity_ahead orders side) (sym at) ∙ ahead-rank n inside in
              elim (cases_lt n (length lots)) [
                | inl below ↦ (n, below, order-is n below ∙ at)
                | inr past ↦ absurd (omega (arith, ranks-rise orders ranks (length lots) n past (omega arith), filled-before orders ranks volume lots are (length lots) (omega arith), before-all lots))
              ];
        }

-- The same lots, from the last to the first.

before-reversed : (lots : List Lot) (k : ℕ) → k ≤ length lots → lots_before (reverse lots) k + lots_before lots (length lots - k) ≡ lots_total lots
before-reversed lots zero le =
    let none : length lots - 0 ≡ length lots = omega arith in
    omega (arith, ap (lots_before lots) none, before-all lots)
before-reversed lots (suc k) le =
    let n = length lots - (k + 1) in
    let long : length (reverse lots) ≡ length lots = length-reverse lots in
    let mirrored : length lots - 1 - k ≡ n = omega arith in
    let at : (lot_at (reverse lots) k).quantity ≡ (lot_at lots n).quantity = ap (λ (l : Lot). l.quantity) (get_or-reverse lots k lot_past_end (omega arith) ∙ ap (lot_at lots) mirrored) in
    let next : length lots - k ≡ n + 1 = omega arith in
    let same : lots_before lots (length lots - k) ≡ lots_before lots (n + 1) = ap (lots_before lots) next in
    rw (← add-one k) (omega (arith, before-reversed lots k (omega arith), before-more (reverse lots) k (omega arith), before-more lots n (omega arith)))

order-reversed : (lots : List Lot) (k : ℕ) → k < length lots → lot_at (reverse lots) k ≡ lot_at lots (length lots - 1 - k)
order-reversed lots k lt = get_or-reverse lots k lot_past_end lt

pub total-reversed : (lots : List Lot) → lots_total (reverse lots) ≡ lots_total lots
total-reversed lots =
    let long : length (reverse lots) ≡ length lots = length-reverse lots in
    let whole : lots_before (reverse lots) (length lots) ≡ lots_total (reverse lots) = ap (lots_before (reverse lots)) (sym long) ∙ before-all (reverse lots) in
    let none : length lots - length lots ≡ 0 = omega arith in
    let zero' : lots_before lots (length lots - length lots) ≡ 0 = ap (lots_before lots) none in
    omega (arith, before-reversed lots (length lots) (omega arith))

pub lots-reversed : (lots : List Lot) → AreLots lots → AreLots (reverse lots)
lots-reversed lots are =
    let long : length (reverse lots) ≡ length lots = length-reverse lots in
    record {
      each = λ k d lt. subst IsLot (sym (get_or-reverse lots k d (omega arith))) (are.each (length lots - 1 - k) d (omega arith));
      apart = λ i j d lt below e.
          let one = get_or-reverse lots i d (omega arith) in
          let two = get_or-reverse lots j d (omega arith) in
          are.apart (length lots - 1 - j) (length lots - 1 - i) d (omega arith) (omega arith) (ap (λ (l : Lot). l.order) (sym two) ∙ sym e ∙ ap (λ (l : Lot). l.order) one);
    }

pub follow-reversed : (orders : List Order) (side : Side) (from to : ℕ → ℕ) (volume : ℕ) (lots : List Lot) → lots_total lots ≡ volume → Follow orders side from to lots
    → Follow orders side (λ i. volume - to i) (λ i. volume - from i) (reverse lots)
follow-reversed orders side from to volume lots whole f =
    let long : length (reverse lots) ≡ length lots = length-reverse lots in
    record {
      stands = λ k lt. subst (λ (l : Lot). IsUncancelledOn orders side l.order) (sym (order-reversed lots k (omega arith))) (f.stands (length lots - 1 - k) (omega arith));
      starts = λ k lt.
          let n = length lots - 1 - k in
          let at : to (lot_at (reverse lots) k).order ≡ to (lot_at lots n).order = ap (λ (l : Lot). to l.order) (order-reversed lots k (omega arith)) in
          let next : length lots - k ≡ n + 1 = omega arith in
          let same : lots_before lots (length lots - k) ≡ lots_before lots (n + 1) = ap (lots_before lots) next in
          omega (arith, before-reversed lots k (omega arith), f.ends n (omega arith));
      ends = λ k lt.
          let n = length lots - 1 - k in
          let at : from (lot_at (reverse lots) k).order ≡ from (lot_at lots n).order = ap (λ (l : Lot). from l.order) (order-reversed lots k (omega arith)) in
          let next : length lots - (k + 1) ≡ n = omega arith in
          let same : lots_before lots (length lots - (k + 1)) ≡ lots_before lots n = ap (lots_before lots) next in
          omega (arith, before-reversed lots (k + 1) (omega arith), f.starts n (omega arith));
      each = λ i s lt.
          let c = f.each i s (omega arith) in
          let below : c.0 < length lots = c.1 in
          let n = length lots - 1 - c.0 in
          let back : length lots - 1 - n ≡ c.0 = omega arith in
          (n, omega arith, ap (λ (l : Lot). l.order) (order-reversed lots n (omega arith)) ∙ ap (λ (k : ℕ). (lot_at lots k).order) back ∙ c.2);
    }

-- What the ranks of a side have in all.

part-le : (a b : Bool) (x : ℕ) → cond (a && b) x 0 ≤ cond a x 0
part-le true true x = omega arith
part-le true false x = omega arith
part-le false b x = omega arith

ranks-total : (orders : List Order) → IsOrderList orders → (side : Side) (ranks : List ℕ) → IsRanked orders side ranks
    → sum_by (quantity_at orders) ranks ≡ sum_by (λ o. cond (is_uncancelled_on side o) o.quantity 0) orders
ranks-total orders list side ranks r = ap (sum_by (quantity_at orders)) (sym (same-ranks orders list side ranks r)) ∙ ranked-sum orders side (λ o. o.quantity)

pub demand-ranks : (orders : List Order) → IsOrderList orders → (ranks : List ℕ) → IsRanked orders Buy ranks → (p : ℕ) → demand orders p ≤ sum_by (quantity_at orders) ranks
demand-ranks orders list ranks r p = omega (
  arith,
  ranks-total orders list Buy ranks r,
  sum_by-le-sum_by (demand_of_order p) (λ o. cond (is_uncancelled_on Buy o) o.quantity 0) orders (λ o. part-le (is_uncancelled_on Buy o) _ o.quantity),
)

pub supply-ranks : (orders : List Order) → IsOrderList orders → (ranks : List ℕ) → IsRanked orders Sell ranks → (p : ℕ) → supply orders p ≤ sum_by (quantity_at orders) ranks
supply-ranks orders list ranks r p = omega (
  arith,
  ranks-total orders list Sell ranks r,
  sum_by-le-sum_by (supply_of_order p) (λ o. cond (is_uncancelled_on Sell o) o.quantity 0) orders (λ o. part-le (is_uncancelled_on Sell o) _ o.quantity),
)

-- How many ranks both sides have.

ones-length : (xs : List ℕ) → sum_by (λ x. 1) xs ≡ length xs
ones-length [] = refl
ones-length (x ∷ xs) = omega (arith, ones-length xs, sum_by-cons (λ (y : ℕ). 1) x xs)

ones-below : (n : ℕ) → sum_below (λ i. 1) n ≡ n
ones-below zero = refl
ones-below (suc n) = omega (arith, ones-below n)

-- 1 for an order of the side that no record cancels
abbrev on_side : List Order → Side → ℕ → ℕ
on_side orders side i = cond (is_uncancelled_on side (order_at orders i)) 1 0

ranks-count : (orders : List Order) → IsOrderList orders → (side : Side) (ranks : List ℕ) → IsRanked orders side ranks
    → sum_below (on_side orders side) (length orders) ≡ length ranks
ranks-count orders list side ranks r =
    sym (ranked-sum_indices orders side (λ i. 1)) ∙ ap (sum_by (λ i. 1)) (same-ranks orders list side ranks r) ∙ ones-length ranks

one-side : (live : Bool) (side : Side) → cond (live && same_side Buy side) 1 0 + cond (live && same_side Sell side) 1 0 ≤ 1
one-side true Buy = omega arith
one-side true Sell = omega arith
one-side false side = omega arith

-- no more than there are orders
pub ranks-fit : (orders : List Order) → IsOrderList orders → (bids asks : List ℕ) → IsRanked orders Buy bids → IsRanked orders Sell asks → length bids + length asks ≤ length orders
ranks-fit orders list bids asks b a =
    omega (
      arith,
      ranks-count orders list Buy bids b,
      ranks-count orders list Sell asks a,
      below-add (on_side orders Buy) (on_side orders Sell) (length orders),
      below-le (λ i. on_side orders Buy i + on_side orders Sell i) (λ i. 1) (length orders) (λ i lt. one-side (is_none (order_at orders i).cancelled) (side_at orders i)),
      ones-below (length orders),
    )
