-- The orders of a side that no record cancels, best first: there is just one such list, and a sum over it is a sum over the orders.
use Rattle.std.proofs.Common.{◌≡◌, ◌≢◌, ◌≤◌, ◌<◌, ◌+◌, ◌⊎◌, ℕ, zero, suc, List, [], ◌∷◌, length, get_or, refl, sym, ap, ◌∙◌, arith, sum_by, All, AllPairs, inl, inr, true, cond, subst}
use Rattle.std.specs.Prelude.{Contains}
use Rattle.std.proofs.lemmas.List.Sums.{sum_by-cons}
use Rattle.std.proofs.lemmas.List.{take_all}
use Rattle.std.proofs.lemmas.List.Elements.{All-head, All-tail, All-cons, All-nil, All-weaker, All-contains}
use Rattle.std.proofs.lemmas.Bool.{cases_eq, cases_Bool, cond-true, cond-false, both_ways, cond_both}
use Rattle.audit_base.specs.declared.terms.Side.{Side}
use Rattle.audit_base.specs.declared.orders.Order.{Order}
use Rattle.audit_base.specs.Sums.{sum_below}
use Rattle.audit_base.specs.Orders.{order_past_end, order_at, is_uncancelled_on, IsUncancelledOn, IsOrderList}
use Rattle.audit_base.specs.Priority.{better, Better, IsRanked}
use Rattle.audit_base.proofs.SumLemmas.{AllPairs-head, AllPairs-tail, AllPairs-cons, Contains-cases, Contains-front, Contains-behind, below-list}
use Rattle.audit_base.proofs.OrderLemmas.{test-stands, stands-test}
use Rattle.audit_base.proofs.PriorityLemmas.{Better-strict, Better-onward, Better-one_way, Better-total}
use Rattle.audit_base.proofs.PairDealLemmas.{ordered-same}

-- an index put behind those whose orders are better
abbrev pub ranked_with : List Order → ℕ → List ℕ → List ℕ
ranked_with orders i [] = i ∷ []
ranked_with orders i (j ∷ js) = cond (better (order_at orders j) (order_at orders i)) (j ∷ ranked_with orders i js) (i ∷ j ∷ js)

-- the standing orders of a side below an index, best first
abbrev pub ranked_below : List Order → Side → ℕ → List ℕ
ranked_below orders side zero = []
ranked_below orders side (suc n) = cond (is_uncancelled_on side (order_at orders n)) (ranked_with orders n (ranked_below orders side n)) (ranked_below orders side n)

-- all standing orders of a side, best first
abbrev pub ranked : List Order → Side → List ℕ
ranked orders side = ranked_below orders side (length orders)

module _ (orders : List Order) (i : ℕ) where
  with-All : (P : ℕ → Type 0) (js : List ℕ) → P i → All P js → All P (ranked_with orders i js)
  with-All P [] here h = All-cons P i [] here h
  with-All P (j ∷ js) here h = cond_both (better (order_at orders j) (order_at orders i)) (j ∷ ranked_with orders i js) (i ∷ j ∷ js) (λ l. All P l)
      (λ t. All-cons P j (ranked_with orders i js) (All-head P j js h) (with-All P js here (All-tail P j js h)))
      (λ t. All-cons P i (j ∷ js) here h)

  with-itself : (js : List ℕ) → Contains (ranked_with orders i js) i
  with-itself [] = Contains-front i []
  with-itself (j ∷ js) = cond_both (better (order_at orders j) (order_at orders i)) (j ∷ ranked_with orders i js) (i ∷ j ∷ js) (λ l. Contains l i)
      (λ t. Contains-behind j (ranked_with orders i js) i (with-itself js))
      (λ t. Contains-front i (j ∷ js))

  with-others : (k : ℕ) (js : List ℕ) → Contains js k → Contains (ranked_with orders i js) k
  with-others k [] (n, lt, e) = absurd (omega arith)
  with-others k (j ∷ js) has = cond_both (better (order_at orders j) (order_at orders i)) (j ∷ ranked_with orders i js) (i ∷ j ∷ js) (λ l. Contains l k)
      (λ t. elim (Contains-cases j js k has) [
        | inl e ↦ subst (λ x. Contains (j ∷ ranked_with orders i js) x) e (Contains-front j (ranked_with orders i js))
        | inr c ↦ Contains-behind j (ranked_with orders i js) k (with-others k js c)
      ])
      (λ t. Contains-behind i (j ∷ js) k has)

  -- of two orders one is better, so that the list stays in order
  with-pairs : (js : List ℕ) → All (λ j. Better orders i j ⊎ Better orders j i) js → AllPairs (Better orders) js → AllPairs (Better orders) (ranked_with orders i js)
  with-pairs [] h p = AllPairs-cons (Better orders) i [] (All-nil (Better orders i)) p
  with-pairs (j ∷ js) h p = cond_both (better (order_at orders j) (order_at orders i)) (j ∷ ranked_with orders i js) (i ∷ j ∷ js) (λ l. AllPairs (Better orders) l)
      (λ t. AllPairs-cons (Better orders) j (ranked_with orders i js)
      (with-All (Better orders j) js t (AllPairs-head (Better orders) j js p))
      (with-pairs js (All-tail (λ j. Better orders i j ⊎ Better orders j i) j js h) (AllPairs-tail (Better orders) j js p)))
      (λ t.
      let over : Better orders i j = elim (All-head (λ j. Better orders i j ⊎ Better orders j i) j js h) [ inl b ↦ b | inr b ↦ absurd (both_ways _ t b) ] in
      AllPairs-cons (Better orders) i (j ∷ js)
      (All-cons (Better orders i) j js over (All-weaker (Better orders j) (Better orders i) (λ k b. Better-onward orders i j k over b) js (AllPairs-head (Better orders) j js p)))
      p)

  with-sum : (f : ℕ → ℕ) (js : List ℕ) → sum_by f (ranked_with orders i js) ≡ f i + sum_by f js
  with-sum f [] = sum_by-cons f i []
  with-sum f (j ∷ js) =
      let rest : sum_by f (ranked_with orders i js) ≡ f i + sum_by f js = with-sum f js in
      let first = sum_by-cons f j js in
      cond_both (better (order_at orders j) (order_at orders i)) (j ∷ ranked_with orders i js) (i ∷ j ∷ js) (λ l. sum_by f l ≡ f i + sum_by f (j ∷ js))
      (λ t. omega (arith, sum_by-cons f j (ranked_with orders i js)))
      (λ t. sum_by-cons f i (j ∷ js))

record IsRankedBelow (orders : List Order) (side : Side) (n : ℕ) (ranks : List ℕ) : Type 0 where
  only : All (λ i. (i < n) × IsUncancelledOn orders side i) ranks
  each : (i : ℕ) → i < n → IsUncancelledOn orders side i → Contains ranks i
  best_first : AllPairs (Better orders) ranks

one-further : (orders : List Order) (side : Side) (n : ℕ) (js : List ℕ) → All (λ i. (i < n) × IsUncancelledOn orders side i) js → All (λ i. (i < suc n) × IsUncancelledOn orders side i) js
one-further orders side n js h = All-weaker (λ i. (i < n) × IsUncancelledOn orders side i) (λ i. (i < suc n) × IsUncancelledOn orders side i) (λ i p. let lt = p.0 in (omega arith, p.1)) js h

ranked-below : (orders : List Order) (side : Side) → IsOrderList orders → (n : ℕ) → n ≤ length orders → IsRankedBelow orders side n (ranked_below orders side n)
ranked-below orders side list zero h = record { only = All-nil _; each = λ i lt s. absurd (omega arith); best_first = λ i j d lt below. absurd (omega arith) }
ranked-below orders side list (suc n) h =
    let r = ranked-below orders side list n (omega arith) in
    let js = ranked_below orders side n in
    cond_both (is_uncancelled_on side (order_at orders n)) (ranked_with orders n js) js (λ l. IsRankedBelow orders side (suc n) l)
    (λ t.
    let s = test-stands orders side n (omega arith) t in
    let total : All (λ j. Better orders n j ⊎ Better orders j n) js = All-weaker (λ i. (i < n) × IsUncancelledOn orders side i) (λ j. Better orders n j ⊎ Better orders j n)
    (λ j p. let lt = p.0 in Better-total orders list n j s.inside p.1.inside (s.of_side ∙ sym p.1.of_side) (λ e. absurd (omega arith))) js r.only in
    record {
      only = with-All orders n (λ i. (i < suc n) × IsUncancelledOn orders side i) js (omega arith, s) (one-further orders side n js r.only);
      each = λ i lt st. elim (cases_eq i n) [
        | inl e ↦ subst (λ k. Contains (ranked_with orders n js) k) (sym e) (with-itself orders n js)
        | inr ne ↦ with-others orders n i js (r.each i (omega (arith, ne)) st)
      ];
      best_first = with-pairs orders n js total r.best_first;
    })
    (λ t. record {
      only = one-further orders side n js r.only;
      each = λ i lt st. elim (cases_eq i n) [
        | inl e ↦ absurd (both_ways _ t (subst (λ k. is_uncancelled_on side (order_at orders k) ≡ true) e (stands-test orders side i st)))
        | inr ne ↦ r.each i (omega (arith, ne)) st
      ];
      best_first = r.best_first;
    })

-- the ranked list is ranked
pub ranked-is : (orders : List Order) (side : Side) → IsOrderList orders → IsRanked orders side (ranked orders side)
ranked-is orders side list =
    let r = ranked-below orders side list (length orders) (omega arith) in
    record {
      only = All-weaker (λ i. (i < length orders) × IsUncancelledOn orders side i) (IsUncancelledOn orders side) (λ i p. p.1) (ranked orders side) r.only;
      each = λ i s. r.each i s.inside s;
      best_first = r.best_first;
    }

-- only one list is ranked
pub ranked-one : (orders : List Order) (side : Side) (xs ys : List ℕ) → IsRanked orders side xs → IsRanked orders side ys → xs ≡ ys
ranked-one orders side xs ys p q = ordered-same (Better orders) (Better-one_way orders) xs ys p.best_first q.best_first
    (λ i c. q.each i (All-contains (IsUncancelledOn orders side) xs i p.only c)) (λ i c. p.each i (All-contains (IsUncancelledOn orders side) ys i q.only c))

-- no order is ranked twice
pub ranks-apart : (orders : List Order) (side : Side) (ranks : List ℕ) → IsRanked orders side ranks → AllPairs (λ i j. i ≢ j) ranks
ranks-apart orders side ranks r = λ i j d lt below e. Better-strict orders (get_or ranks j d) (subst (λ k. Better orders k (get_or ranks j d)) e (r.best_first i j d lt below))

-- Sums over the ranks.

ranked-sum_below : (orders : List Order) (side : Side) (f : ℕ → ℕ) (n : ℕ)
    → sum_by f (ranked_below orders side n) ≡ sum_below (λ i. cond (is_uncancelled_on side (order_at orders i)) (f i) 0) n
ranked-sum_below orders side f zero = refl
ranked-sum_below orders side f (suc n) =
    let js = ranked_below orders side n in
    let rest : sum_by f js ≡ sum_below (λ i. cond (is_uncancelled_on side (order_at orders i)) (f i) 0) n = ranked-sum_below orders side f n in
    let t = is_uncancelled_on side (order_at orders n) in
    elim (cases_Bool t) [
      | inl on ↦ ap (sum_by f) (cond-true t (ranked_with orders n js) js on) ∙ with-sum orders n f js ∙ rw (cond-true t (f n) 0 on) (omega arith)
      | inr off ↦ ap (sum_by f) (cond-false t (ranked_with orders n js) js off) ∙ rw (cond-false t (f n) 0 off) (omega arith)
    ]

-- a sum over the ranks is one over the indices of the standing orders
pub ranked-sum_indices : (orders : List Order) (side : Side) (f : ℕ → ℕ)
    → sum_by f (ranked orders side) ≡ sum_below (λ i. cond (is_uncancelled_on side (order_at orders i)) (f i) 0) (length orders)
ranked-sum_indices orders side f = ranked-sum_below orders side f (length orders)

-- a sum over the orders is one over their indices
pub indexed : (orders : List Order) (f : Order → ℕ) → sum_below (λ i. f (order_at orders i)) (length orders) ≡ sum_by f orders
indexed orders f = below-list f orders order_past_end (length orders) (omega arith) ∙ ap (sum_by f) (take_all (length orders) orders (omega arith))

-- so it is one over the standing orders
pub ranked-sum : (orders : List Order) (side : Side) (g : Order → ℕ)
    → sum_by (λ i. g (order_at orders i)) (ranked orders side) ≡ sum_by (λ o. cond (is_uncancelled_on side o) (g o) 0) orders
ranked-sum orders side g = ranked-sum_indices orders side (λ i. g (order_at orders i)) ∙ indexed orders (λ o. cond (is_uncancelled_on side o) (g o) 0)
