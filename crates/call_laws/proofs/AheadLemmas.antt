-- The quantity ahead of an order: the quantity of the better orders, which is that of the ranks before it.
use Rattle.std.proofs.Common.{◌≡◌, ◌≤◌, ◌<◌, ◌+◌, ◌-◌, ℕ, List, [], ◌∷◌, length, take, drop, get_or, refl, sym, ◌∙◌, arith, sum_by, All, AllPairs, inl, inr, Bool, true, false, cond, eqb, ltb, leb, subst}
use Rattle.std.specs.Prelude.{◌&&◌, min, max}
use Rattle.std.proofs.lemmas.List.{length-take-le, length-drop, get_or-take, get_or-drop, get_or_default}
use Rattle.std.proofs.lemmas.List.Sums.{sum_by-cons, sum_by-le-sum_by, sum_by-take-drop}
use Rattle.std.proofs.lemmas.List.Elements.{All-head, All-tail}
use Rattle.std.proofs.lemmas.Bool.{cases_eq, or_left, ne_eqb, eq-eqb, cond-true, cond-false, lt-ltb, leb-true, ltb-true, false_from_ne_true, both_ways}
use Rattle.audit_base.specs.declared.terms.Side.{Side}
use Rattle.audit_base.specs.declared.terms.Side.TheVariants.{Buy, Sell}
use Rattle.audit_base.specs.declared.orders.Order.{Order}
use Rattle.audit_base.specs.Sums.{sum_below}
use Rattle.audit_base.specs.Orders.{order_at, quantity_at, limit_at, is_uncancelled_on, IsUncancelledOn, IsOrderList}
use Rattle.audit_base.specs.Priority.{outranks, Better}
use Rattle.audit_base.specs.Bounds.{demand_of_order, supply_of_order, supply_below_of_order, demand, supply, supply_below}
use Rattle.audit_base.specs.Units.{total_quantity_ahead}
use Rattle.audit_base.proofs.SumLemmas.{AllPairs-head, AllPairs-tail, sum_by-none, sum_by-same, below-le, below-add, below-single}
use Rattle.audit_base.proofs.OrderLemmas.{stands-test}
use Rattle.audit_base.proofs.PriorityLemmas.{outranks-strict, outranks-onward, better-outranks}
use Rattle.call_laws.proofs.RankedLemmas.{ranked, ranked-is, ranked-sum, indexed}

-- the quantity of an order, where no record cancels it, it is of the side, and it outranks another
abbrev pub part_ahead : List Order → Side → ℕ → ℕ → ℕ
part_ahead orders side i k = cond (is_uncancelled_on side (order_at orders k) && outranks side (order_at orders k) (order_at orders i)) (quantity_at orders k) 0

-- what is ahead is a sum over the indices
pub ahead-indices : (orders : List Order) (side : Side) (i : ℕ) → sum_below (part_ahead orders side i) (length orders) ≡ total_quantity_ahead orders side i
ahead-indices orders side i = indexed orders (λ o. cond (is_uncancelled_on side o && outranks side o (order_at orders i)) o.quantity 0)

-- of two standing orders of a side, the better one outranks the other, and not the other way round
pub better-over : (orders : List Order) (side : Side) (i j : ℕ) → IsUncancelledOn orders side i → Better orders i j → outranks side (order_at orders i) (order_at orders j) ≡ true
better-over orders side i j s b = subst (λ t. outranks t (order_at orders i) (order_at orders j) ≡ true) s.of_side (better-outranks (order_at orders i) (order_at orders j) b)

pub worse-under : (orders : List Order) (side : Side) (i j : ℕ) → IsUncancelledOn orders side i → Better orders i j → outranks side (order_at orders j) (order_at orders i) ≡ false
worse-under orders side i j s b = false_from_ne_true _ (λ t. both_ways _ (outranks-strict side (order_at orders j))
    (outranks-onward side (order_at orders j) (order_at orders i) (order_at orders j) t (better-over orders side i j s b)))

cond-and : (a b : Bool) (x : ℕ) → cond (a && b) x 0 ≡ cond a (cond b x 0) 0
cond-and true b x = refl
cond-and false b x = refl

-- what is ahead is a sum over the ranks
pub ahead-ranks : (orders : List Order) (side : Side) (i : ℕ) → sum_by (λ j. cond (outranks side (order_at orders j) (order_at orders i)) (quantity_at orders j) 0) (ranked orders side) ≡ total_quantity_ahead orders side i
ahead-ranks orders side i =
    ranked-sum orders side (λ o. cond (outranks side o (order_at orders i)) o.quantity 0)
    ∙ sum_by-same _ _ orders (λ k d lt. let o = get_or orders k d in sym (cond-and (is_uncancelled_on side o) (outranks side o (order_at orders i)) o.quantity))

-- what is ahead of the order at a rank is the quantity of the ranks before it
pub ahead-at : (orders : List Order) (side : Side) → IsOrderList orders → (r d : ℕ) → r < length (ranked orders side)
    → total_quantity_ahead orders side (get_or (ranked orders side) r d) ≡ sum_by (quantity_at orders) (take r (ranked orders side))
ahead-at orders side list r d lt =
    let ranks = ranked orders side in
    let is = ranked-is orders side list in
    let i = get_or ranks r d in
    let before = λ (j : ℕ). cond (outranks side (order_at orders j) (order_at orders i)) (quantity_at orders j) 0 in
    let front : sum_by before (take r ranks) ≡ sum_by (quantity_at orders) (take r ranks) = sum_by-same before (quantity_at orders) (take r ranks) (λ n e below.
    let under : n < r = omega (arith, length-take-le r ranks (omega arith)) in
    let at : get_or (take r ranks) n e ≡ get_or ranks n d = get_or-take r ranks n e under ∙ get_or_default ranks n e d (omega arith) in
    let over : outranks side (order_at orders (get_or ranks n d)) (order_at orders i) ≡ true = better-over orders side (get_or ranks n d) i (is.only n d (omega arith)) (is.best_first n r d under lt) in
    cond-true _ _ 0 (subst (λ j. outranks side (order_at orders j) (order_at orders i) ≡ true) (sym at) over)) in
    let back : sum_by before (drop r ranks) ≡ 0 = sum_by-none before (drop r ranks) (λ n e below.
    let inside : r + n < length ranks = omega (arith, length-drop r ranks) in
    let at : get_or (drop r ranks) n e ≡ get_or ranks (r + n) d = get_or-drop r ranks n e ∙ get_or_default ranks (r + n) e d inside in
    let under : outranks side (order_at orders (get_or ranks (r + n) d)) (order_at orders i) ≡ false = elim (cases_eq (r + n) r) [
      | inl same ↦ subst (λ m. outranks side (order_at orders (get_or ranks m d)) (order_at orders i) ≡ false) (sym same) (outranks-strict side (order_at orders i))
      | inr ne ↦ worse-under orders side i (get_or ranks (r + n) d) (is.only r d lt) (is.best_first r (r + n) d (omega (arith, ne)) inside)
    ] in
    cond-false _ _ 0 (subst (λ j. outranks side (order_at orders j) (order_at orders i) ≡ false) (sym at) under)) in
    omega (arith, ahead-ranks orders side i, sum_by-take-drop before ranks r, front, back)

cond-le : (a b : Bool) (x : ℕ) → (a ≡ true → b ≡ true) → cond a x 0 ≤ cond b x 0
cond-le true b x f = rw (cond-true b x 0 (f refl)) (omega arith)
cond-le false b x f = omega arith

and-le : (l a b : Bool) (x : ℕ) → (a ≡ true → b ≡ true) → cond (l && a) x 0 ≤ cond (l && b) x 0
and-le true a b x f = cond-le a b x f
and-le false a b x f = omega arith

-- all the demand at a price above a bid's limit is ahead of it
pub ahead-demand : (orders : List Order) (i p : ℕ) → limit_at orders i < p → demand orders p ≤ total_quantity_ahead orders Buy i
ahead-demand orders i p low = sum_by-le-sum_by (demand_of_order p) (λ o. cond (is_uncancelled_on Buy o && outranks Buy o (order_at orders i)) o.quantity 0) orders
    (λ o. and-le (is_uncancelled_on Buy o) (leb p o.limit) (outranks Buy o (order_at orders i)) o.quantity
    (λ t. let le = leb-true p o.limit t in or_left _ _ (lt-ltb (limit_at orders i) o.limit (omega arith))))

-- all the supply at a price below an ask's limit is ahead of it, and so is what lies below the limit
pub ahead-supply : (orders : List Order) (i p : ℕ) → p < limit_at orders i → supply orders p ≤ total_quantity_ahead orders Sell i
ahead-supply orders i p high = sum_by-le-sum_by (supply_of_order p) (λ o. cond (is_uncancelled_on Sell o && outranks Sell o (order_at orders i)) o.quantity 0) orders
    (λ o. and-le (is_uncancelled_on Sell o) (leb o.limit p) (outranks Sell o (order_at orders i)) o.quantity
    (λ t. let le = leb-true o.limit p t in or_left _ _ (lt-ltb o.limit (limit_at orders i) (omega arith))))

pub ahead-below : (orders : List Order) (i p : ℕ) → p ≤ limit_at orders i → supply_below orders p ≤ total_quantity_ahead orders Sell i
ahead-below orders i p high = sum_by-le-sum_by (supply_below_of_order p) (λ o. cond (is_uncancelled_on Sell o && outranks Sell o (order_at orders i)) o.quantity 0) orders
    (λ o. and-le (is_uncancelled_on Sell o) (ltb o.limit p) (outranks Sell o (order_at orders i)) o.quantity
    (λ t. let lt = ltb-true o.limit p t in or_left _ _ (lt-ltb o.limit (limit_at orders i) (omega arith))))

-- a number counted at one index alone
abbrev pub only_at : ℕ → ℕ → ℕ → ℕ
only_at i n k = cond (eqb k i) n 0

pub below-only : (i n count : ℕ) → i < count → sum_below (only_at i n) count ≡ n
below-only i n count lt = below-single (only_at i n) count i lt (λ k _ ne. cond-false (eqb k i) n 0 (ne_eqb k i ne)) ∙ cond-true (eqb i i) n 0 (eq-eqb i i refl)

-- an order and what is ahead of it are together ahead of each worse order
pub ahead-better : (orders : List Order) (side : Side) (i j : ℕ) → IsUncancelledOn orders side i → Better orders i j
    → total_quantity_ahead orders side i + quantity_at orders i ≤ total_quantity_ahead orders side j
ahead-better orders side i j s b =
    let over = better-over orders side i j s b in
    let le : sum_below (λ k. part_ahead orders side i k + only_at i (quantity_at orders i) k) (length orders) ≤ sum_below (part_ahead orders side j) (length orders) =
    below-le (λ k. part_ahead orders side i k + only_at i (quantity_at orders i) k) (part_ahead orders side j) (length orders) (λ k lt. elim (cases_eq k i) [
      | inl e ↦ subst (λ k. part_ahead orders side i k + only_at i (quantity_at orders i) k ≤ part_ahead orders side j k) (sym e)
          (rw (stands-test orders side i s, over, outranks-strict side (order_at orders i), eq-eqb i i refl) (omega arith))
      | inr ne ↦ omega (
        arith,
        cond-false (eqb k i) (quantity_at orders i) 0 (ne_eqb k i ne),
        and-le (is_uncancelled_on side (order_at orders k)) (outranks side (order_at orders k) (order_at orders i)) (outranks side (order_at orders k) (order_at orders j)) (quantity_at orders k)
            (λ t. outranks-onward side (order_at orders k) (order_at orders i) (order_at orders j) t over),
      )
    ]) in
    let add = below-add (part_ahead orders side i) (only_at i (quantity_at orders i)) (length orders) in
    omega (arith, le, add, below-only i (quantity_at orders i) (length orders) s.inside, ahead-indices orders side i, ahead-indices orders side j)

-- Sums over a list in a strict order, where each number has what is ahead of it.

abbrev ahead_in : (ℕ → ℕ → Bool) → (ℕ → ℕ) → List ℕ → ℕ → ℕ
ahead_in b q xs k = sum_by (λ j. cond (b j k) (q j) 0) xs

overlap-join : (lo hi s q rest : ℕ) → (min hi (s + q) - max lo s) + (min hi ((s + q) + rest) - max lo (s + q)) ≡ min hi (s + (q + rest)) - max lo s
overlap-join lo hi s q rest = omega arith

overlap-none : (lo hi s : ℕ) → 0 ≡ min hi (s + 0) - max lo s
overlap-none lo hi s = omega arith

overlaps-total : (b : ℕ → ℕ → Bool) (q a : ℕ → ℕ) (lo hi : ℕ) (xs : List ℕ) (from : ℕ)
    → AllPairs (λ i j. (b i j ≡ true) × (b j i ≡ false)) xs → All (λ i. b i i ≡ false) xs
    → All (λ k. a k ≡ from + ahead_in b q xs k) xs
    → sum_by (λ k. min hi (a k + q k) - max lo (a k)) xs ≡ min hi (from + sum_by q xs) - max lo from
overlaps-total b q a lo hi [] from pairs self at = overlap-none lo hi from
overlaps-total b q a lo hi (x ∷ xs) from pairs self at =
    let h = λ (k : ℕ). min hi (a k + q k) - max lo (a k) in
    let none : sum_by (λ j. cond (b j x) (q j) 0) xs ≡ 0 = sum_by-none (λ j. cond (b j x) (q j) 0) xs (λ n d lt.
    cond-false (b (get_or xs n d) x) (q (get_or xs n d)) 0 ((AllPairs-head (λ i j. (b i j ≡ true) × (b j i ≡ false)) x xs pairs n d lt).1)) in
    let itself : cond (b x x) (q x) 0 ≡ 0 = cond-false (b x x) (q x) 0 (All-head (λ i. b i i ≡ false) x xs self) in
    let first : a x ≡ from = omega (arith, All-head (λ k. a k ≡ from + ahead_in b q (x ∷ xs) k) x xs at, sum_by-cons (λ j. cond (b j x) (q j) 0) x xs) in
    let later : All (λ k. a k ≡ (from + q x) + ahead_in b q xs k) xs = (λ n d lt.
    let k = get_or xs n d in
    let over : cond (b x k) (q x) 0 ≡ q x = cond-true (b x k) (q x) 0 ((AllPairs-head (λ i j. (b i j ≡ true) × (b j i ≡ false)) x xs pairs n d lt).0) in
    omega (arith, All-tail (λ k. a k ≡ from + ahead_in b q (x ∷ xs) k) x xs at n d lt, sum_by-cons (λ j. cond (b j k) (q j) 0) x xs)) in
    let rest : sum_by h xs ≡ min hi ((from + q x) + sum_by q xs) - max lo (from + q x) =
    overlaps-total b q a lo hi xs (from + q x) (AllPairs-tail (λ i j. (b i j ≡ true) × (b j i ≡ false)) x xs pairs) (All-tail (λ i. b i i ≡ false) x xs self) later in
    sum_by-cons h x xs ∙ rw (rest, first, sum_by-cons q x xs) (overlap-join lo hi from (q x) (sum_by q xs))

-- the overlaps of the intervals of a side with one interval are together an overlap
pub ranks-overlap : (orders : List Order) (side : Side) → IsOrderList orders → (lo hi : ℕ)
    → sum_by (λ k. min hi (total_quantity_ahead orders side k + quantity_at orders k) - max lo (total_quantity_ahead orders side k)) (ranked orders side) ≡ min hi (sum_by (quantity_at orders) (ranked orders side)) - lo
ranks-overlap orders side list lo hi =
    let r = ranked-is orders side list in
    let ranks = ranked orders side in
    let whole = overlaps-total (λ i j. outranks side (order_at orders i) (order_at orders j)) (quantity_at orders) (total_quantity_ahead orders side) lo hi ranks 0
    (λ i j d lt below. let s = r.only i d (omega arith) in let over = r.best_first i j d lt below in
    (better-over orders side (get_or ranks i d) (get_or ranks j d) s over, worse-under orders side (get_or ranks i d) (get_or ranks j d) s over))
    (λ n d lt. outranks-strict side (order_at orders (get_or ranks n d)))
    (λ n d lt. let e = ahead-ranks orders side (get_or ranks n d) in omega arith) in
    omega (arith, whole)
