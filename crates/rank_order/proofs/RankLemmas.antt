-- The ranks of the orders of a side, sorted, are those orders from the best to the worst.
use Rattle.std.proofs.Common.{◌≡◌, ◌≢◌, ◌<◌, ◌+◌, ◌^◌, ◌⊎◌, ℕ, List, [], ◌∷◌, ◌++◌, length, get_or, map, Bool, true, false, refl, sym, ap, ◌∙◌, arith, inl, inr, subst, eqb, All, AllPairs, is_lt, IsPermutation, IsSorted}
use Rattle.std.specs.Prelude.{Contains}
use Rattle.std.specs.Cmp.{IsStrictWeakOrder}
use Rattle.std.proofs.lemmas.Bool.{cases_Bool, cases_eq, cases_lt, both_ways, eq-eqb, ne_eqb}
use Rattle.std.proofs.lemmas.Bool.Decides.{nat_tests}
use Rattle.std.proofs.lemmas.Cmp.{nat_cmp_total, on_total, then_total}
use Rattle.std.proofs.lemmas.List.{append-nil, length-map, get_or-map}
use Rattle.std.proofs.lemmas.List.Elements.{All-nil, All-push, All-head, All-tail, All-weaker, All-map, Contains-push, Contains-append_left}
use Rattle.std.proofs.lemmas.List.Sorted.{All-permutation, Contains-permutation, sorted_far, ranks_by}
use Rattle.std.proofs.lemmas.Map.Keys.{IsDistinct-from_apart, IsDistinct-IsPermutation, apart_from_distinct}
use Rattle.audit_base.specs.declared.terms.Side.{Side}
use Rattle.audit_base.specs.declared.terms.Side.TheVariants.{Buy, Sell}
use Rattle.audit_base.specs.declared.orders.Order.{Order}
use Rattle.audit_base.specs.Orders.{order_at, limit_at, is_uncancelled_on, IsUncancelledOn, IsOrderList}
use Rattle.audit_base.specs.Priority.{outranks, Better, IsRanked}
use Rattle.audit_base.proofs.SumLemmas.{AllPairs-head, AllPairs-tail, AllPairs-cons}
use Rattle.audit_base.proofs.OrderLemmas.{place-rises, test-stands, stands-test}
use Rattle.audit_base.proofs.PriorityLemmas.{bid-outranks, ask-outranks, better-outranks, Better-total}
use Rattle.rank_order.specs.declared.ranks.Rank.{Rank}
use Rattle.rank_order.specs.Ranks.{weight_of, order_rank, rank_cmp, rank_if, index_of, IsRankOf, AreRanks}

-- one more element
AllPairs-push : {X : Type 0} (R : X → X → Type 0) (xs : List X) (y : X) → AllPairs R xs → All (λ x. R x y) xs → AllPairs R (xs ++ y ∷ [])
AllPairs-push R [] y pairs under = λ i j d lt below. absurd (omega arith)
AllPairs-push R (x ∷ xs) y pairs under =
    AllPairs-cons R x (xs ++ y ∷ []) (All-push (R x) xs y (AllPairs-head R x xs pairs) (All-head (λ z. R z y) x xs under))
    (AllPairs-push R xs y (AllPairs-tail R x xs pairs) (All-tail (λ z. R z y) x xs under))

-- The ranks of the first orders, one order further.

module _ (orders : List Order) (side : Side) where
  pub ranks-none : AreRanks orders side 0 []
  ranks-none = record {
    only = All-nil (IsRankOf orders side);
    each = λ i lt s. absurd (omega arith);
    within = All-nil (λ (r : Rank). r.index < 0);
    rising = λ i j d lt below. absurd (omega arith);
  }

  module _ (n : ℕ) (ranks : List Rank) (lt : n < length orders) (priced : limit_at orders n < 10 ^ 18) (are : AreRanks orders side n ranks) where
    abbrev rank : Rank
    rank = order_rank n (order_at orders n)

    within-more : All (λ r. r.index < n + 1) ranks
    within-more = All-weaker (λ (r : Rank). r.index < n) (λ (r : Rank). r.index < n + 1) (λ r less. omega arith) ranks are.within

    left_out : is_uncancelled_on side (order_at orders n) ≡ false → AreRanks orders side (n + 1) ranks
    left_out off = record {
      only = are.only;
      each = λ i below s. elim (cases_eq i n) [
        | inl same ↦ absurd (both_ways _ off (subst (λ k. is_uncancelled_on side (order_at orders k) ≡ true) same (stands-test orders side i s)))
        | inr ne ↦ are.each i (omega (arith, ne)) s
      ];
      within = within-more;
      rising = are.rising;
    }

    added : is_uncancelled_on side (order_at orders n) ≡ true → AreRanks orders side (n + 1) (ranks ++ rank ∷ [])
    added on = record {
      only = All-push (IsRankOf orders side) ranks rank are.only (record { stands = test-stands orders side n lt on; is = refl; priced = priced });
      each = λ i below s. elim (cases_eq i n) [
        | inl same ↦ subst (λ k. Contains (ranks ++ rank ∷ []) (order_rank k (order_at orders k))) (sym same) (Contains-push ranks rank)
        | inr ne ↦ Contains-append_left ranks (rank ∷ []) (order_rank i (order_at orders i)) (are.each i (omega (arith, ne)) s)
      ];
      within = All-push (λ (r : Rank). r.index < n + 1) ranks rank within-more (omega arith);
      rising = AllPairs-push (λ (r s : Rank). r.index < s.index) ranks rank are.rising are.within;
    }

    ranks-more : AreRanks orders side (n + 1) (ranks ++ rank_if side n (order_at orders n))
    ranks-more = elim (cases_Bool (is_uncancelled_on side (order_at orders n))) [
      | inl on ↦ rw on (added on)
      | inr off ↦ rw (off, append-nil) (left_out off)
    ]

  -- the same, in the words of the code: the order that it reads
  pub ranks-read : (n : ℕ) (ranks : List Rank) → n < length orders → (o : Order) → o ≡ order_at orders n → o.limit < 10 ^ 18 → AreRanks orders side n ranks
      → AreRanks orders side (n + 1) (ranks ++ rank_if side n o)
  ranks-read n ranks lt o here priced are =
      let limit : limit_at orders n < 10 ^ 18 = subst (λ (p : Order). p.limit < 10 ^ 18) here priced in
      subst (λ (p : Order). AreRanks orders side (n + 1) (ranks ++ rank_if side n p)) (sym here) (ranks-more n ranks lt limit are)

-- Sorted ranks.

abbrev same_index : Rank → Rank → Bool
same_index r s = eqb r.index s.index

lesser : (a b : Rank) → (a.weight < b.weight) ⊎ ((a.weight ≡ b.weight) × (a.index < b.index)) → is_lt (rank_cmp a b) ≡ true
lesser a b h = grind (arith, nat_tests)

lighter : (side : Side) (o p : Order) → o.limit < 10 ^ 18 → outranks side o p ≡ true
    → (weight_of side o.limit < weight_of side p.limit) ⊎ ((weight_of side o.limit ≡ weight_of side p.limit) × (o.place < p.place))
lighter Buy o p priced over = elim (bid-outranks o p over) [ inl more ↦ inl (omega arith) | inr same ↦ inr (ap (weight_of Buy) same.0, same.1) ]
lighter Sell o p priced over = ask-outranks o p over

weak : IsStrictWeakOrder (λ (a b : Rank). is_lt (rank_cmp a b))
weak = ranks_by (then_total (on_total (λ (r : Rank). r.weight) nat_cmp_total) (on_total index_of nat_cmp_total)) (λ (r : Rank). r)

module _ (orders : List Order) (list : IsOrderList orders) (side : Side) where
  -- of two orders, the one of the rank that is no greater is better
  best-first : (r s : Rank) → IsRankOf orders side r → IsRankOf orders side s → r.index ≢ s.index → is_lt (rank_cmp s r) ≡ false → Better orders r.index s.index
  best-first r s a b apart no_less = elim (Better-total orders list r.index s.index a.stands.inside b.stands.inside (a.stands.of_side ∙ sym b.stands.of_side) apart) [
    | inl over ↦ over
    | inr under ↦
        let o = order_at orders s.index in
        let p = order_at orders r.index in
        let over : outranks side o p ≡ true = rw (← b.stands.of_side) (better-outranks o p under) in
        let ws : s.weight ≡ weight_of side o.limit = ap (λ (t : Rank). t.weight) b.is ∙ ap (λ (which : Side). weight_of which o.limit) b.stands.of_side in
        let wr : r.weight ≡ weight_of side p.limit = ap (λ (t : Rank). t.weight) a.is ∙ ap (λ (which : Side). weight_of which p.limit) a.stands.of_side in
        let less : (s.weight < r.weight) ⊎ ((s.weight ≡ r.weight) × (s.index < r.index)) = elim (lighter side o p b.priced over) [
          | inl light ↦ inl (omega arith)
          | inr same ↦ inr (
            omega (arith, same.0),
            elim (cases_lt s.index r.index) [
              | inl lt ↦ lt
              | inr ge ↦ let up = place-rises orders list r.index s.index (omega (arith, apart)) b.stands.inside in absurd (omega (arith, same.1))
            ],
          )
        ] in
        absurd (both_ways _ no_less (lesser s r less))
  ]

  pub sorted-ranked : (ranks sorted : List Rank) → AreRanks orders side (length orders) ranks → IsPermutation ranks sorted → IsSorted rank_cmp sorted
      → IsRanked orders side (map index_of sorted)
  sorted-ranked ranks sorted are moved in_order = record {
    only = All-map (IsUncancelledOn orders side) index_of sorted (All-weaker (IsRankOf orders side) (λ (r : Rank). IsUncancelledOn orders side r.index) (λ r is. is.stands) sorted each_is);
    each = λ i s.
        let c = Contains-permutation ranks sorted (order_rank i (order_at orders i)) moved (are.each i s.inside s) in
        (c.0, omega (arith, c.1, length-map sorted index_of), get_or-map index_of sorted c.0 (order_rank i (order_at orders i)) i c.1 ∙ ap index_of c.2);
    best_first = λ i j d lt below.
        let e : Rank = record { weight = 0; index = d } in
        let under : j < length sorted = omega (arith, length-map sorted index_of) in
        let over : Better orders (get_or sorted i e).index (get_or sorted j e).index =
        best-first (get_or sorted i e) (get_or sorted j e) (each_is i e (omega arith)) (each_is j e under) (apart i j e lt under)
        (sorted_far (λ (r s : Rank). is_lt (rank_cmp r s)) weak sorted in_order i j e (omega arith) under) in
        rw (get_or-map index_of sorted i e d (omega arith), get_or-map index_of sorted j e d under) over;
  }
    where
      each_is : All (IsRankOf orders side) sorted
      each_is = All-permutation (IsRankOf orders side) ranks sorted moved are.only

      apart : (i j : ℕ) (d : Rank) → i < j → j < length sorted → (get_or sorted i d).index ≢ (get_or sorted j d).index
      apart i j d lt below same =
          let once = IsDistinct-from_apart same_index ranks (λ i j d lt below. ne_eqb _ _ (λ e. let up = are.rising i j d lt below in absurd (omega arith))) in
          both_ways _ (apart_from_distinct same_index sorted i j d (IsDistinct-IsPermutation same_index (λ r s. flips r.index s.index) ranks sorted moved once) lt below) (eq-eqb _ _ same)
        where
          flips : (a b : ℕ) → eqb a b ≡ eqb b a
          flips a b = grind (arith, nat_tests)
