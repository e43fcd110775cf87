-- The families of the orders: their sizes and numbers order by order, and that they are ranges.
use Rattle.std.proofs.Common.{◌≡◌, ◌≢◌, ◌<◌, ◌≤◌, ◌+◌, ◌-◌, ◌⊎◌, ℕ, zero, suc, List, length, Bool, true, false, cond, Option, None, Some, refl, sym, ap, ◌∙◌, arith, inl, inr, subst, replicate}
use Rattle.std.specs.Prelude.{◌==◌, ◌&&◌, ◌||◌, nat_le, nat_lt, slice_set}
use Rattle.std.specs.List.{list_any}
use Rattle.std.proofs.lemmas.Bool.{cases_Bool, cases_eq, cases_lt, eq-eqb, ne_eqb, eqb-true, cond-true, cond-false, le-leb, leb-true, lt-ltb, le-ltb, or_cases, or_left, or_right, or_from, and_from, and_left, and_right, both_ways, false_from_ne_true}
use Rattle.std.proofs.lemmas.List.{length-set, get_or-set_same, get_or-set_other, length-replicate, get_or-replicate}
use Rattle.audit_base.specs.declared.orders.Order.{Order}
use Rattle.audit_base.specs.Sums.{sum_below}
use Rattle.audit_base.specs.Deals.{number_at}
use Rattle.audit_base.specs.Orders.{order_at, IsOrderList}
use Rattle.audit_base.specs.Continuous.{chain}
use Rattle.audit_base.proofs.ContinuousLemmas.{target-below, chain-none, chain-some}
use Rattle.audit_base.proofs.LeastLemmas.{cases_Option}
use Rattle.audit_base.proofs.SumLemmas.{below-same, term-le-below}
use Rattle.order_arrivals.specs.Families.{node_of_target, parent_of, size_under, AreFamilySizes, AreFamilySizesFrom, AreFamilyStarts, AreFreeNumbers}
use Rattle.order_arrivals.proofs.PrefixLemmas.{below-upto}

-- Sums of which one term changes.

pub below-changed : (f g : ℕ → ℕ) (n k v : ℕ) → k < n → g k ≡ f k + v → ((i : ℕ) → i < n → i ≢ k → g i ≡ f i) → sum_below g n ≡ sum_below f n + v
below-changed f g zero k v lt here away = absurd (omega arith)
below-changed f g (suc n) k v lt here away = elim (cases_eq k n) [
  | inl e ↦
      let rest = below-same g f n (λ i h. away i (omega arith) (λ same. omega arith)) in
      let last : g n ≡ f n + v = subst (λ j. g j ≡ f j + v) e here in
      omega arith
  | inr ne ↦
      let rest = below-changed f g n k v (omega (arith, ne)) here (λ i h. away i (omega arith)) in
      let last = away n (omega arith) (λ same. ne (sym same)) in
      omega arith
]

-- the terms from an index on, and from the next one on
from-one : (g : ℕ → ℕ) (n c : ℕ) → c < n → sum_below (λ o. cond (nat_le c o) (g o) 0) n ≡ sum_below (λ o. cond (nat_le (suc c) o) (g o) 0) n + g c
from-one g n c lt = below-changed (λ o. cond (nat_le (suc c) o) (g o) 0) (λ o. cond (nat_le c o) (g o) 0) n c (g c) lt
    (let off = cond-false (nat_le (suc c) c) (g c) 0 (not-le c) in let on = cond-true (nat_le c c) (g c) 0 (le-leb c c (omega arith)) in omega arith)
    (λ i h ne. elim (cases_lt i c) [
      | inl less ↦ cond-false (nat_le c i) (g i) 0 (over c i less) ∙ sym (cond-false (nat_le (suc c) i) (g i) 0 (over (suc c) i (omega arith)))
      | inr more ↦ cond-true (nat_le c i) (g i) 0 (le-leb c i more) ∙ sym (cond-true (nat_le (suc c) i) (g i) 0 (le-leb (suc c) i (omega (arith, ne))))
    ])
  where
    over : (a b : ℕ) → b < a → nat_le a b ≡ false
    over a b lt = false_from_ne_true _ (λ t. let le = leb-true a b t in omega arith)

    not-le : (a : ℕ) → nat_le (suc a) a ≡ false
    not-le a = over (suc a) a (omega arith)

node-below : (target : Option ℕ) (c : ℕ) → ((t : ℕ) → target ≡ Some t → t < c) → node_of_target target ≤ c
node-below None c h = omega arith
node-below (Some t) c h = let lt = h t refl in omega arith

module _ (orders : List Order) (list : IsOrderList orders) where
  abbrev n : ℕ
  n = length orders

  pub parent-upto : (c : ℕ) → c < n → parent_of orders c ≤ c
  parent-upto c lt = node-below (order_at orders c).target c (target-below orders list c lt)

  under-same : (xs : List ℕ) (c : ℕ) → size_under orders xs (parent_of orders c) c ≡ number_at xs (c + 1)
  under-same xs c = cond-true (parent_of orders c == parent_of orders c) (number_at xs (c + 1)) 0 (eq-eqb (parent_of orders c) (parent_of orders c) refl)

  under-other : (xs : List ℕ) (node c : ℕ) → node ≢ parent_of orders c → size_under orders xs node c ≡ 0
  under-other xs node c ne = cond-false (parent_of orders c == node) (number_at xs (c + 1)) 0 (ne_eqb (parent_of orders c) node (λ e. ne (sym e)))

  -- One order more is added to the family of its parent.
  module _ (c : ℕ) (lt : c < n) (xs : List ℕ) (is : AreFamilySizesFrom orders (c + 1) xs) where
    abbrev p : ℕ
    p = parent_of orders c

    p-upto : p ≤ c
    p-upto = parent-upto c lt

    inside : p < length xs
    inside = let u = p-upto in let k = is.count in omega arith

    -- both are parts of all nodes
    pub sizes-fit : number_at xs p + number_at xs (c + 1) ≤ n + 1
    sizes-fit =
        let w = is.whole in
        let last : sum_below (λ o. number_at xs (o + 1)) (c + 1) ≡ sum_below (λ o. number_at xs (o + 1)) c + number_at xs (c + 1) = (let e : c + 1 ≡ suc c = omega arith in ap (sum_below (λ o. number_at xs (o + 1))) e) in
        elim (cases_eq p 0) [
          | inl e ↦ let z : number_at xs p ≡ number_at xs 0 = ap (number_at xs) e in omega arith
          | inr ne ↦
              let t = p - 1 in
              let u = p-upto in
              let term = term-le-below (λ o. number_at xs (o + 1)) c t (omega (arith, ne)) in
              let same : number_at xs (t + 1) ≡ number_at xs p = ap (number_at xs) (omega (arith, ne)) in
              omega arith
        ]

    abbrev more : List ℕ
    more = slice_set xs p (number_at xs p + number_at xs (c + 1))

    at-parent : number_at more p ≡ number_at xs p + number_at xs (c + 1)
    at-parent = get_or-set_same {A = ℕ} xs p (number_at xs p + number_at xs (c + 1)) 0 inside

    at-other : (j : ℕ) → j ≢ p → number_at more j ≡ number_at xs j
    at-other j ne = get_or-set_other {A = ℕ} xs p j (number_at xs p + number_at xs (c + 1)) 0 ne

    each-next : (node : ℕ) → node ≤ n → number_at more node ≡ 1 + sum_below (λ o. cond (nat_le c o) (size_under orders more node o) 0) n
    each-next node le =
        let old = is.each node le in
        let same : sum_below (λ o. cond (nat_le c o) (size_under orders more node o) 0) n ≡ sum_below (λ o. cond (nat_le c o) (size_under orders xs node o) 0) n =
        below-same _ _ n (λ o h. kept o) in
        let one = from-one (size_under orders xs node) n c lt in
        let plus : sum_below (λ o. cond (nat_le (c + 1) o) (size_under orders xs node o) 0) n ≡ sum_below (λ o. cond (nat_le (suc c) o) (size_under orders xs node o) 0) n = (let e : c + 1 ≡ suc c = omega arith in ap (λ (k : ℕ). sum_below (λ o. cond (nat_le k o) (size_under orders xs node o) 0) n) e) in
        elim (cases_eq node p) [
          | inl e ↦
              let u : size_under orders xs node c ≡ number_at xs (c + 1) = ap (λ (k : ℕ). size_under orders xs k c) e ∙ under-same xs c in
              let a : number_at more node ≡ number_at xs node + number_at xs (c + 1) = subst (λ (k : ℕ). number_at more k ≡ number_at xs k + number_at xs (c + 1)) (sym e) at-parent in
              omega arith
          | inr ne ↦
              let u = under-other xs node c ne in
              let a = at-other node ne in
              omega arith
        ]
      where
        kept : (o : ℕ) → cond (nat_le c o) (size_under orders more node o) 0 ≡ cond (nat_le c o) (size_under orders xs node o) 0
        kept o = elim (cases_lt o c) [
          | inl less ↦
              let off : nat_le c o ≡ false = false_from_ne_true _ (λ t. let l = leb-true c o t in omega arith) in
              cond-false (nat_le c o) _ 0 off ∙ sym (cond-false (nat_le c o) _ 0 off)
          | inr from ↦
              let u = p-upto in
              ap (λ (v : ℕ). cond (nat_le c o) (cond (parent_of orders o == node) v 0) 0) (at-other (o + 1) (λ e. omega arith))
        ]

    whole-next : number_at more 0 + sum_below (λ o. number_at more (o + 1)) c ≡ n + 1
    whole-next =
        let w = is.whole in
        let last : sum_below (λ o. number_at xs (o + 1)) (c + 1) ≡ sum_below (λ o. number_at xs (o + 1)) c + number_at xs (c + 1) = (let e : c + 1 ≡ suc c = omega arith in ap (sum_below (λ o. number_at xs (o + 1))) e) in
        elim (cases_eq p 0) [
          | inl e ↦
              let a : number_at more 0 ≡ number_at xs 0 + number_at xs (c + 1) = subst (λ (k : ℕ). number_at more k ≡ number_at xs k + number_at xs (c + 1)) e at-parent in
              let rest : sum_below (λ o. number_at more (o + 1)) c ≡ sum_below (λ o. number_at xs (o + 1)) c = below-same _ _ c (λ o h. at-other (o + 1) (λ f. omega arith)) in
              omega arith
          | inr ne ↦
              let t = p - 1 in
              let u = p-upto in
              let e : p ≡ t + 1 = omega (arith, ne) in
              let a = at-other 0 (λ f. ne (sym f)) in
              let here : number_at more (t + 1) ≡ number_at xs (t + 1) + number_at xs (c + 1) = subst (λ (k : ℕ). number_at more k ≡ number_at xs k + number_at xs (c + 1)) e at-parent in
              let rest = below-changed (λ o. number_at xs (o + 1)) (λ o. number_at more (o + 1)) c t (number_at xs (c + 1)) (omega arith) here (λ o h away. at-other (o + 1) (λ f. away (omega arith))) in
              omega arith
        ]

    pub sizes-next : AreFamilySizesFrom orders c more
    sizes-next = record {
      count = length-set {A = ℕ} xs p (number_at xs p + number_at xs (c + 1)) ∙ is.count;
      inside = omega arith;
      each = each-next;
      whole = whole-next;
    }

  -- the same, in the words of the code: the parent and the sizes that it reads
  pub sizes-read : (order p a b : ℕ) (xs : List ℕ) → 0 < order → AreFamilySizesFrom orders order xs → p ≡ parent_of orders (order - 1) → a ≡ number_at xs p → b ≡ number_at xs order
      → (a + b ≤ n + 1) × AreFamilySizesFrom orders (order - 1) (slice_set xs p (a + b))
  sizes-read order p a b xs some is p_is a_is b_is =
      let c = order - 1 in
      let e : c + 1 ≡ order = omega arith in
      let i = is.inside in
      let lt : c < n = omega arith in
      let is' : AreFamilySizesFrom orders (c + 1) xs = subst (λ (k : ℕ). AreFamilySizesFrom orders k xs) (sym e) is in
      let a_is' : a ≡ number_at xs (parent_of orders c) = a_is ∙ ap (number_at xs) p_is in
      let b_is' : b ≡ number_at xs (c + 1) = b_is ∙ ap (number_at xs) (sym e) in
      let made : slice_set xs p (a + b) ≡ slice_set xs (parent_of orders c) (number_at xs (parent_of orders c) + number_at xs (c + 1)) = λ k. slice_set xs (p_is k) (a_is' k + b_is' k) in
      let fit = sizes-fit c lt xs is' in
      (omega arith, subst (AreFamilySizesFrom orders c) (sym made) (sizes-next c lt xs is'))

  -- each node alone
  pub sizes-none : (from : ℕ) (xs : List ℕ) → from ≡ n → xs ≡ replicate (n + 1) 1 → AreFamilySizesFrom orders from xs
  sizes-none from xs from_is xs_is = record {
    count = ap length xs_is ∙ length-replicate {A = ℕ} (n + 1) 1;
    inside = omega arith;
    each = λ node le.
        let none = below-same (λ o. cond (nat_le from o) (size_under orders xs node o) 0) (λ o. 0) n (λ o h. cond-false (nat_le from o) (size_under orders xs node o) 0 (false_from_ne_true _ (λ t. let l = leb-true from o t in omega arith))) in
        let zero_sum = nothing n in
        let one = one-at node (omega arith) in
        omega arith;
    whole = let a = one-at 0 (omega arith) in let b = ones from (omega arith) in omega arith;
  }
    where
      one-at : (j : ℕ) → j < n + 1 → number_at xs j ≡ 1
      one-at j lt = ap (λ (ys : List ℕ). number_at ys j) xs_is ∙ get_or-replicate {A = ℕ} (n + 1) j 1 0 lt

      nothing : (m : ℕ) → sum_below (λ o. 0) m ≡ 0
      nothing zero = refl
      nothing (suc m) = let rest = nothing m in omega arith

      ones : (m : ℕ) → m ≤ n → sum_below (λ o. number_at xs (o + 1)) m ≡ m
      ones zero le = refl
      ones (suc m) le = let rest = ones m (omega arith) in let one = one-at (m + 1) (omega arith) in omega arith

  pub sizes-all : (xs : List ℕ) → AreFamilySizesFrom orders 0 xs → AreFamilySizes orders xs
  sizes-all xs is = record {
    count = is.count;
    each = λ node le. is.each node le ∙ ap (λ (s : ℕ). 1 + s) (below-same _ _ n (λ o h. cond-true (nat_le 0 o) (size_under orders xs node o) 0 (le-leb 0 o (omega arith))));
    whole = let w = is.whole in omega arith;
  }

  -- Numbers, when the sizes are known.
  module _ (sizes : List ℕ) (are : AreFamilySizes orders sizes) where
    -- of the children of a node, the first and one more are at most all
    children-fit : (node m : ℕ) → node ≤ n → m ≤ n → 1 + sum_below (size_under orders sizes node) m ≤ number_at sizes node
    children-fit node m le h =
        let e = are.each node le in
        let b = below-upto (size_under orders sizes node) m n h in
        omega arith

    pub some-size : (node : ℕ) → node ≤ n → 0 < number_at sizes node
    some-size node le = let e = are.each node le in omega arith

    -- the number that a child gets, and its family, are within that of its parent
    child-fits : (c : ℕ) → c < n → 1 + sum_below (size_under orders sizes (parent_of orders c)) c + number_at sizes (c + 1) ≤ number_at sizes (parent_of orders c)
    child-fits c lt =
        let u = parent-upto c lt in
        let all = children-fit (parent_of orders c) (suc c) (omega arith) (omega arith) in
        let own = under-same sizes c in
        omega arith

    module _ (upto : ℕ) (within : upto ≤ n) (starts : List ℕ) (is : AreFamilyStarts orders sizes upto starts) where
      -- each family is within all numbers
      pub end-fits : (k node : ℕ) → node ≤ k → node ≤ upto → number_at starts node + number_at sizes node ≤ n + 1
      end-fits zero node le h =
          let e : node ≡ 0 = omega arith in
          let r : number_at starts node ≡ 0 = ap (number_at starts) e ∙ is.root in
          let w : number_at sizes node ≡ n + 1 = ap (number_at sizes) e ∙ are.whole in
          omega arith
      end-fits (suc k) node le h = elim (cases_eq node 0) [
        | inl e ↦
            let r : number_at starts node ≡ 0 = ap (number_at starts) e ∙ is.root in
            let w : number_at sizes node ≡ n + 1 = ap (number_at sizes) e ∙ are.whole in
            omega arith
        | inr ne ↦
            let c = node - 1 in
            let e : node ≡ c + 1 = omega (arith, ne) in
            let u = parent-upto c (omega (arith, ne)) in
            let up = end-fits k (parent_of orders c) (omega (arith, ne)) (omega (arith, ne)) in
            let own = is.each c (omega (arith, ne)) in
            let fits = child-fits c (omega (arith, ne)) in
            let s : number_at starts node ≡ number_at starts (c + 1) = ap (number_at starts) e in
            let z : number_at sizes node ≡ number_at sizes (c + 1) = ap (number_at sizes) e in
            omega arith
      ]

    -- One order more gets its number.
    module _ (o : ℕ) (lt : o < n) (starts free : List ℕ) (is : AreFamilyStarts orders sizes o starts) (left : AreFreeNumbers orders sizes o starts free) where
      abbrev q : ℕ
      q = parent_of orders o

      q-upto : q ≤ o
      q-upto = parent-upto o lt

      pub start-fits : number_at free q + number_at sizes (o + 1) ≤ n + 1
      start-fits =
          let u = q-upto in
          let f = left.each q u in
          let e = end-fits o (omega arith) starts is o q u u in
          let c = child-fits o lt in
          omega arith

      module _ (starts' half free' : List ℕ) (s_is : starts' ≡ slice_set starts (o + 1) (number_at free q)) (h_is : half ≡ slice_set free q (number_at free q + number_at sizes (o + 1))) (f_is : free' ≡ slice_set half (o + 1) (number_at free q + 1)) where
        start-own : number_at starts' (o + 1) ≡ number_at free q
        start-own = ap (λ (xs : List ℕ). number_at xs (o + 1)) s_is ∙ get_or-set_same {A = ℕ} starts (o + 1) (number_at free q) 0 (let c = is.count in omega arith)

        start-other : (j : ℕ) → j ≢ o + 1 → number_at starts' j ≡ number_at starts j
        start-other j ne = ap (λ (xs : List ℕ). number_at xs j) s_is ∙ get_or-set_other {A = ℕ} starts (o + 1) j (number_at free q) 0 ne

        half-count : length half ≡ n + 1
        half-count = ap length h_is ∙ length-set {A = ℕ} free q (number_at free q + number_at sizes (o + 1)) ∙ left.count

        free-own : number_at free' (o + 1) ≡ number_at free q + 1
        free-own = ap (λ (xs : List ℕ). number_at xs (o + 1)) f_is ∙ get_or-set_same {A = ℕ} half (o + 1) (number_at free q + 1) 0 (let c = half-count in omega arith)

        free-parent : number_at free' q ≡ number_at free q + number_at sizes (o + 1)
        free-parent =
            let u = q-upto in
            let c = left.count in
            ap (λ (xs : List ℕ). number_at xs q) f_is ∙ get_or-set_other {A = ℕ} half (o + 1) q (number_at free q + 1) 0 (λ e. omega arith)
            ∙ ap (λ (xs : List ℕ). number_at xs q) h_is ∙ get_or-set_same {A = ℕ} free q (number_at free q + number_at sizes (o + 1)) 0 (omega arith)

        free-other : (j : ℕ) → j ≢ o + 1 → j ≢ q → number_at free' j ≡ number_at free j
        free-other j ne away =
            ap (λ (xs : List ℕ). number_at xs j) f_is ∙ get_or-set_other {A = ℕ} half (o + 1) j (number_at free q + 1) 0 ne
            ∙ ap (λ (xs : List ℕ). number_at xs j) h_is ∙ get_or-set_other {A = ℕ} free q j (number_at free q + number_at sizes (o + 1)) 0 away

        pub starts-next : AreFamilyStarts orders sizes (o + 1) starts'
        starts-next = record {
          count = ap length s_is ∙ length-set {A = ℕ} starts (o + 1) (number_at free q) ∙ is.count;
          root = start-other 0 (λ e. omega arith) ∙ is.root;
          each = λ c h. elim (cases_eq c o) [
            | inl e ↦
                let u = q-upto in
                let f = left.each q u in
                let own = start-own in
                let par = start-other q (λ f. omega arith) in
                let here : number_at starts' (o + 1) ≡ number_at starts' q + 1 + sum_below (size_under orders sizes q) o = omega arith in
                subst (λ (k : ℕ). number_at starts' (k + 1) ≡ number_at starts' (parent_of orders k) + 1 + sum_below (size_under orders sizes (parent_of orders k)) k) (sym e) here
            | inr ne ↦
                let less : c < o = omega (arith, ne) in
                let u = parent-upto c (omega arith) in
                let old = is.each c less in
                let a = start-other (c + 1) (λ f. omega arith) in
                let b = start-other (parent_of orders c) (λ f. omega arith) in
                omega arith
          ];
        }

        free-each : (node : ℕ) → node ≤ o + 1 → number_at free' node ≡ number_at starts' node + 1 + sum_below (size_under orders sizes node) (suc o)
        free-each node le = elim (cases_eq node (o + 1)) [
          | inl e ↦
              let none : sum_below (size_under orders sizes (o + 1)) (suc o) ≡ 0 = below-nothing (suc o) (omega arith) in
              let a = start-own in
              let b = free-own in
              subst (λ (k : ℕ). number_at free' k ≡ number_at starts' k + 1 + sum_below (size_under orders sizes k) (suc o)) (sym e) (omega arith)
          | inr ne ↦
              let old = left.each node (omega (arith, ne)) in
              let a = start-other node ne in
              elim (cases_eq node q) [
                | inl e ↦
                    let own : size_under orders sizes node o ≡ number_at sizes (o + 1) = ap (λ (k : ℕ). size_under orders sizes k o) e ∙ under-same sizes o in
                    let f : number_at free' node ≡ number_at free q + number_at sizes (o + 1) = ap (number_at free') e ∙ free-parent in
                    let g : number_at free node ≡ number_at free q = ap (number_at free) e in
                    omega arith
                | inr away ↦
                    let none = under-other sizes node o away in
                    let f = free-other node ne away in
                    omega arith
              ]
        ]
          where
            below-nothing : (m : ℕ) → m ≤ suc o → sum_below (size_under orders sizes (o + 1)) m ≡ 0
            below-nothing zero le = refl
            below-nothing (suc m) le =
                let u = parent-upto m (omega arith) in
                let last = under-other sizes (o + 1) m (λ e. omega arith) in
                let rest = below-nothing m (omega arith) in
                omega arith

        pub free-next : AreFreeNumbers orders sizes (o + 1) starts' free'
        free-next = record {
          count = ap length f_is ∙ length-set {A = ℕ} half (o + 1) (number_at free q + 1) ∙ half-count;
          each = λ node le. let e : suc o ≡ o + 1 = omega arith in free-each node le ∙ ap (λ (m : ℕ). number_at starts' node + 1 + sum_below (size_under orders sizes node) m) e;
        }

    -- no node has a number yet but node 0
    pub starts-none : (starts : List ℕ) → starts ≡ replicate (n + 1) 0 → AreFamilyStarts orders sizes 0 starts
    starts-none starts e = record {
      count = ap length e ∙ length-replicate {A = ℕ} (n + 1) 0;
      root = ap (λ (xs : List ℕ). number_at xs 0) e ∙ get_or-replicate {A = ℕ} (n + 1) 0 0 0 (omega arith);
      each = λ c h. absurd (omega arith);
    }

    pub free-none : (starts free : List ℕ) → starts ≡ replicate (n + 1) 0 → free ≡ replicate (n + 1) 1 → AreFreeNumbers orders sizes 0 starts free
    free-none starts free e f = record {
      count = ap length f ∙ length-replicate {A = ℕ} (n + 1) 1;
      each = λ node le.
          let z : number_at starts node ≡ 0 = ap (λ (xs : List ℕ). number_at xs node) e ∙ get_or-replicate {A = ℕ} (n + 1) node 0 0 (omega arith) in
          let o : number_at free node ≡ 1 = ap (λ (xs : List ℕ). number_at xs node) f ∙ get_or-replicate {A = ℕ} (n + 1) node 1 0 (omega arith) in
          omega arith;
    }

    -- one order more, in the words of the code
    pub starts-read : (o p start size : ℕ) (starts free : List ℕ) → o < n → AreFamilyStarts orders sizes o starts → AreFreeNumbers orders sizes o starts free → p ≡ parent_of orders o → start ≡ number_at free p → size ≡ number_at sizes (o + 1)
        → (start + size ≤ n + 1) × AreFamilyStarts orders sizes (o + 1) (slice_set starts (o + 1) start) × AreFreeNumbers orders sizes (o + 1) (slice_set starts (o + 1) start) (slice_set (slice_set free p (start + size)) (o + 1) (start + 1))
    starts-read o p start size starts free lt is left p_is s_is z_is =
        let s_is' : start ≡ number_at free (parent_of orders o) = s_is ∙ ap (number_at free) p_is in
        let fit = start-fits o lt starts free is left in
        let half : slice_set free p (start + size) ≡ slice_set free (parent_of orders o) (number_at free (parent_of orders o) + number_at sizes (o + 1)) = λ k. slice_set free (p_is k) (s_is' k + z_is k) in
        let starts_is : slice_set starts (o + 1) start ≡ slice_set starts (o + 1) (number_at free (parent_of orders o)) = ap (slice_set starts (o + 1)) s_is' in
        let free_is : slice_set (slice_set free p (start + size)) (o + 1) (start + 1) ≡ slice_set (slice_set free p (start + size)) (o + 1) (number_at free (parent_of orders o) + 1) = ap (λ (k : ℕ). slice_set (slice_set free p (start + size)) (o + 1) (k + 1)) s_is' in
        (omega arith, starts-next o lt starts free is left _ _ _ starts_is half free_is, free-next o lt starts free is left _ _ _ starts_is half free_is)

    -- An order is in the chain of another exactly where its family has that one's number.
    module _ (starts : List ℕ) (is : AreFamilyStarts orders sizes n starts) where
      abbrev from : ℕ → ℕ
      from x = number_at starts (x + 1)

      abbrev end : ℕ → ℕ
      end x = number_at starts (x + 1) + number_at sizes (x + 1)

      abbrev pub member : ℕ → ℕ → Bool
      member o x = list_any (λ (m : ℕ). m == x) (chain orders o)

      own-range : (x : ℕ) → x < n → from x < end x
      own-range x lt = let s = some-size (x + 1) (omega arith) in omega arith

      parent-some : (o t : ℕ) → (order_at orders o).target ≡ Some t → parent_of orders o ≡ t + 1
      parent-some o t e = ap node_of_target e

      parent-none : (o : ℕ) → (order_at orders o).target ≡ None → parent_of orders o ≡ 0
      parent-none o e = ap node_of_target e

      -- a family is within that of its target
      nested : (o t : ℕ) → o < n → (order_at orders o).target ≡ Some t → (from t < from o) × (end o ≤ end t)
      nested o t lt e =
          let p_is = parent-some o t e in
          let own = is.each o lt in
          let fits = child-fits o lt in
          let s : number_at starts (parent_of orders o) ≡ from t = ap (number_at starts) p_is in
          let z : number_at sizes (parent_of orders o) ≡ number_at sizes (t + 1) = ap (number_at sizes) p_is in
          (omega arith, omega arith)

      -- the families of two children of a node follow each other
      siblings : (i j : ℕ) → i < j → j < n → parent_of orders i ≡ parent_of orders j → end i ≤ from j
      siblings i j less lt e =
          let a = is.each i (omega arith) in
          let b = is.each j lt in
          let own : size_under orders sizes (parent_of orders i) i ≡ number_at sizes (i + 1) = under-same sizes i in
          let upto = below-upto (size_under orders sizes (parent_of orders i)) (suc i) j less in
          let same : sum_below (size_under orders sizes (parent_of orders j)) j ≡ sum_below (size_under orders sizes (parent_of orders i)) j = ap (λ (k : ℕ). sum_below (size_under orders sizes k) j) (sym e) in
          let s : number_at starts (parent_of orders i) ≡ number_at starts (parent_of orders j) = ap (number_at starts) e in
          omega arith

      member-none : (o x : ℕ) → (order_at orders o).target ≡ None → member o x ≡ false
      member-none o x e = ap (list_any (λ (m : ℕ). m == x)) (chain-none orders list o e)

      member-some : (o t x : ℕ) → o < n → (order_at orders o).target ≡ Some t → member o x ≡ ((t == x) || member t x)
      member-some o t x lt e = ap (list_any (λ (m : ℕ). m == x)) (chain-some orders list o t lt e)

      -- a family is within that of each order of its chain, which is a lower index
      pub above : (k o x : ℕ) → o < k → o < n → member o x ≡ true → (from x < from o) × (end o ≤ end x) × (x < o)
      above zero o x le lt m = absurd (omega arith)
      above (suc k) o x le lt m = elim (cases_Option (order_at orders o).target) [
        | inl none ↦ absurd (both_ways _ (member-none o x none) m)
        | inr some ↦
            let t = some.0 in
            let lower = target-below orders list o lt t some.1 in
            let up = nested o t lt some.1 in
            elim (or_cases (t == x) (member t x) (sym (member-some o t x lt some.1) ∙ m)) [
              | inl here ↦ let e = eqb-true t x here in
                  let f : from t ≡ from x = ap from e in
                  let g : end t ≡ end x = ap end e in
                  let a = up.0 in let b = up.1 in (omega arith, omega arith, omega arith)
              | inr more ↦
                  let rest = above k t x (omega arith) (omega arith) more in
                  let a = up.0 in let b = up.1 in let c = rest.0 in let d = rest.1 in let f = rest.2 in
                  (omega arith, omega arith, omega arith)
            ]
      ]

      -- the families of two orders of which none is in the chain of the other are apart
      apart : (k i j : ℕ) → i + j < k → i < j → j < n → member j i ≡ false → (end i ≤ from j) ⊎ (end j ≤ from i)
      apart zero i j le less lt off = absurd (omega arith)
      apart (suc k) i j le less lt off = elim (cases_Option (order_at orders j).target) [
        | inl none ↦ elim (cases_Option (order_at orders i).target) [
          | inl bare ↦ inl (siblings i j less lt (parent-none i bare ∙ sym (parent-none j none)))
          | inr some ↦ from-above (λ s a b m. apart k s j a b lt m) some.0 some.1 (member-none j some.0 none)
        ]
        | inr target ↦
            let t = target.0 in
            let lower = target-below orders list j lt t target.1 in
            let parts : ((t == i) || member t i) ≡ false = sym (member-some j t i lt target.1) ∙ off in
            let apart_t : t ≢ i = λ e. both_ways _ parts (or_left (t == i) (member t i) (eq-eqb t i e)) in
            let off_t : member t i ≡ false = false_from_ne_true _ (λ m. both_ways _ parts (or_right (t == i) (member t i) m)) in
            let up = nested j t lt target.1 in
            let a = up.0 in
            let b = up.1 in
            elim (cases_Bool (member i t)) [
              | inr off_i ↦ elim (cases_lt i t) [
                | inl below ↦ elim (apart k i t (omega arith) below (omega arith) off_t) [
                  | inl x ↦ inl (omega arith)
                  | inr x ↦ inr (omega arith)
                ]
                | inr over ↦ elim (apart k t i (omega arith) (omega (arith, apart_t)) (omega arith) off_i) [
                  | inl x ↦ inr (omega arith)
                  | inr x ↦ inl (omega arith)
                ]
              ]
              | inl on_i ↦ elim (cases_Option (order_at orders i).target) [
                | inl bare ↦ absurd (both_ways _ (member-none i t bare) on_i)
                | inr some ↦
                    let s = some.0 in
                    let i_lt : i < n = omega arith in
                    elim (cases_eq s t) [
                      | inl same ↦ inl (siblings i j less lt (parent-some i s some.1 ∙ (let e : s + 1 ≡ t + 1 = omega arith in e) ∙ sym (parent-some j t target.1)))
                      | inr ne ↦ from-above (λ s a b m. apart k s j a b lt m) s some.1 (member-some j t s lt target.1 ∙ or_from (t == s) (member t s) (ne_eqb t s (λ e. ne (sym e))) (false_from_ne_true _ (λ m.
                          let s_lower = target-below orders list i i_lt s some.1 in
                          let down = above (suc t) t s (omega arith) (omega arith) m in
                          let t_in : member s t ≡ true = elim (or_cases (s == t) (member s t) (sym (member-some i s t i_lt some.1) ∙ on_i)) [ inl e ↦ absurd (ne (eqb-true s t e)) | inr m' ↦ m' ] in
                          let up' = above (suc s) s t (omega arith) (omega arith) t_in in
                          let x = down.2 in
                          let y = up'.2 in
                          omega arith)))
                    ]
              ]
            ]
      ]
        where
          from-above : ((s : ℕ) → s + j < k → s < j → member j s ≡ false → (end s ≤ from j) ⊎ (end j ≤ from s)) → (s : ℕ) → (order_at orders i).target ≡ Some s → member j s ≡ false → (end i ≤ from j) ⊎ (end j ≤ from i)
          from-above further s e off_s =
              let s_lower = target-below orders list i (omega arith) s e in
              let up = nested i s (omega arith) e in
              let a = up.0 in
              let b = up.1 in
              elim (further s (omega arith) (omega arith) off_s) [
                | inl x ↦ inl (omega arith)
                | inr x ↦ inr (omega arith)
              ]

      pub member-is : (o x : ℕ) → o < n → x < n → member o x ≡ (nat_lt (from x) (from o) && nat_lt (from o) (end x))
      member-is o x lt below = elim (cases_Bool (member o x)) [
        | inl m ↦
            let up = above (suc o) o x (omega arith) lt m in
            let own = own-range o lt in
            let a = up.0 in
            let b = up.1 in
            m ∙ sym (and_from _ _ (lt-ltb _ _ a) (lt-ltb _ _ (omega arith)))
        | inr off ↦ off ∙ sym (outside off)
      ]
        where
          first-off : from o ≤ from x → (nat_lt (from x) (from o) && nat_lt (from o) (end x)) ≡ false
          first-off le = and_left (nat_lt (from x) (from o)) (nat_lt (from o) (end x)) (le-ltb _ _ le)

          second-off : end x ≤ from o → (nat_lt (from x) (from o) && nat_lt (from o) (end x)) ≡ false
          second-off le = and_right (nat_lt (from x) (from o)) (nat_lt (from o) (end x)) (le-ltb _ _ le)

          outside : member o x ≡ false → (nat_lt (from x) (from o) && nat_lt (from o) (end x)) ≡ false
          outside off = let own = own-range o lt in elim (cases_lt x o) [
            | inl less ↦ elim (apart (suc (x + o)) x o (omega arith) less lt off) [ inl e ↦ second-off e | inr e ↦ first-off (omega arith) ]
            | inr le ↦ elim (cases_eq x o) [
              | inl e ↦ let same : from x ≡ from o = ap from e in first-off (omega arith)
              | inr ne ↦ elim (cases_Bool (member x o)) [
                | inl m ↦ let up = above (suc x) x o (omega arith) below m in let a = up.0 in first-off (omega arith)
                | inr away ↦ elim (apart (suc (o + x)) o x (omega arith) (omega (arith, ne)) below away) [ inl e ↦ first-off (omega arith) | inr e ↦ second-off e ]
              ]
            ]
          ]
