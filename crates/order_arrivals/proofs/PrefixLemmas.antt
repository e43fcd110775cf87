-- A tree of sums: its levels, and one node more on the way to the root.
use Rattle.std.proofs.Common.{◌≡◌, ◌≢◌, ◌<◌, ◌≤◌, ◌+◌, ◌-◌, ◌*◌, ◌^◌, ◌/◌, ◌%◌, ◌⊎◌, ℕ, zero, suc, List, length, cond, refl, sym, ap, ◌∙◌, arith, inl, inr, subst}
use Rattle.std.specs.Prelude.{◌==◌, slice_set}
use Rattle.std.proofs.lemmas.Bool.{cases_eq, eq-eqb, ne_eqb, cond-true, cond-false}
use Rattle.std.proofs.lemmas.List.{length-set, get_or-set_same, get_or-set_other}
use Rattle.std.proofs.lemmas.Nat.{pow_pos}
use Rattle.std.proofs.Math.Nat.{pow-suc}
use Rattle.audit_base.specs.Sums.{sum_below}
use Rattle.audit_base.specs.Deals.{number_at}
use Rattle.order_arrivals.specs.declared.prefix_sums.PrefixSums.{PrefixSums}
use Rattle.order_arrivals.specs.PrefixSums.{number_in, total_in, AreNodesSums, IsPowerOfTwo, IsSumTree, left_sibling, IsSummedUpto, IsAdding, IsAdded}

-- a sum of the first is at most a sum of more
pub below-upto : (f : ℕ → ℕ) (m n : ℕ) → m ≤ n → sum_below f m ≤ sum_below f n
below-upto f m zero le = let e : m ≡ 0 = omega arith in rw e (omega arith)
below-upto f m (suc n) le = elim (cases_eq m (suc n)) [
  | inl e ↦ rw e (omega arith)
  | inr ne ↦ let rest = below-upto f m n (omega (arith, ne)) in omega arith
]

module _ (nodes : List ℕ) (width : ℕ) (sums : AreNodesSums nodes width) where
  -- of a level, the sum of the first nodes is that of their children
  level : (first m : ℕ) → 0 < first → first + m ≤ width → sum_below (λ i. number_at nodes (2 * first + i)) (2 * m) ≡ sum_below (λ i. number_at nodes (first + i)) m
  level first zero h le = refl
  level first (suc m) h le =
      let rest = level first m h (omega arith) in
      let pair = sums (first + m) (omega arith) (omega arith) in
      let more : 2 * suc m ≡ suc (suc (2 * m)) = omega arith in
      let one : number_at nodes (2 * first + 2 * m) ≡ number_at nodes (2 * (first + m)) = ap (number_at nodes) (omega arith) in
      let two : number_at nodes (2 * first + suc (2 * m)) ≡ number_at nodes (2 * (first + m) + 1) = ap (number_at nodes) (omega arith) in
      ap (sum_below (λ i. number_at nodes (2 * first + i))) more ∙ (omega arith)

  -- the sum of a whole level is the root
  whole : (k first : ℕ) → first ≡ 2 ^ k → first ≤ width → sum_below (λ i. number_at nodes (first + i)) first ≡ number_at nodes 1
  whole zero first e le = let one : first ≡ 1 = e in rw one (omega arith)
  whole (suc k) first e le =
      let half = 2 ^ k in
      let double : first ≡ 2 * half = e ∙ pow-suc 2 k ∙ (omega arith) in
      let some : 0 < half = pow_pos k in
      let rest = whole k half refl (omega arith) in
      (λ i. sum_below (λ j. number_at nodes (double i + j)) (double i)) ∙ level half half some (omega arith) ∙ rest

  -- no node is more than the root
  pub below-root : (n node : ℕ) → node ≤ n → 0 < node → node < 2 * width → number_at nodes node ≤ number_at nodes 1
  below-root zero node le h lt = absurd (omega arith)
  below-root (suc n) node le h lt = elim (cases_eq node 1) [
    | inl e ↦ rw e (omega arith)
    | inr ne ↦
        let half = node / 2 in
        let up = below-root n half (omega arith) (omega (arith, ne)) (omega arith) in
        let pair = sums half (omega (arith, ne)) (omega arith) in
        elim (cases_eq (node % 2) 0) [
          | inl even ↦ let same : number_at nodes node ≡ number_at nodes (2 * half) = ap (number_at nodes) (omega arith) in omega arith
          | inr odd ↦ let same : number_at nodes node ≡ number_at nodes (2 * half + 1) = ap (number_at nodes) (omega (arith, odd)) in omega arith
        ]
  ]

-- what a set list has at an index
set-cases : (xs : List ℕ) (k v j : ℕ) → k < length xs → ((j ≡ k) × (number_at (slice_set xs k v) j ≡ v)) ⊎ ((j ≢ k) × (number_at (slice_set xs k v) j ≡ number_at xs j))
set-cases xs k v j lt = elim (cases_eq j k) [
  | inl e ↦ inl (e, ap (number_at (slice_set xs k v)) e ∙ get_or-set_same {A = ℕ} xs k v 0 lt)
  | inr ne ↦ inr (ne, get_or-set_other {A = ℕ} xs k j v 0 ne)
]

if-eq : (a b v : ℕ) → a ≡ b → cond (a == b) v 0 ≡ v
if-eq a b v e = cond-true (a == b) v 0 (eq-eqb a b e)

if-ne : (a b v : ℕ) → a ≢ b → cond (a == b) v 0 ≡ 0
if-ne a b v ne = cond-false (a == b) v 0 (ne_eqb a b ne)

-- one node more on the way to the root
module _ (nodes : List ℕ) (width index amount node : ℕ) (now : List ℕ) (is : IsAdding nodes width index amount node now) (counted : length nodes ≡ 2 * width) (some : 0 < node) where
  abbrev more : List ℕ
  more = slice_set now node (number_at now node + amount)

  inside : node < length now
  inside = let a = is.inside in let b = is.count in omega arith

  at-other : (j : ℕ) → j ≢ node → number_at more j ≡ number_at now j
  at-other j ne = get_or-set_other {A = ℕ} now node j (number_at now node + amount) 0 ne

  at-node : number_at more node ≡ number_at now node + amount
  at-node = get_or-set_same {A = ℕ} now node (number_at now node + amount) 0 inside

  abbrev up : ℕ
  up = node / 2

  sums-next : (j : ℕ) → 0 < j → j < width → number_at more j + cond (j == up) amount 0 ≡ number_at more (2 * j) + number_at more (2 * j + 1)
  sums-next j h lt = elim (cases_eq j node) [
    | inl e ↦
        let old = is.sums j h lt in
        let has = if-eq j node amount e in
        let gone = if-ne j up amount (λ f. omega arith) in
        let here : number_at more j ≡ number_at now j + amount = subst (λ (k : ℕ). number_at more k ≡ number_at now k + amount) (sym e) at-node in
        let one = at-other (2 * j) (λ f. omega arith) in
        let two = at-other (2 * j + 1) (λ f. omega arith) in
        omega arith
    | inr ne ↦
        let old = is.sums j h lt in
        let none = if-ne j node amount ne in
        let here = at-other j ne in
        elim (cases_eq j up) [
          | inl e ↦
              let has = if-eq j up amount e in
              elim (cases_eq (2 * j) node) [
                | inl left ↦
                    let one : number_at more (2 * j) ≡ number_at now (2 * j) + amount = subst (λ (k : ℕ). number_at more k ≡ number_at now k + amount) (sym left) at-node in
                    let two = at-other (2 * j + 1) (λ f. omega arith) in
                    omega arith
                | inr right ↦
                    let is_right : 2 * j + 1 ≡ node = omega (arith, right) in
                    let one = at-other (2 * j) right in
                    let two : number_at more (2 * j + 1) ≡ number_at now (2 * j + 1) + amount = subst (λ (k : ℕ). number_at more k ≡ number_at now k + amount) (sym is_right) at-node in
                    omega arith
              ]
          | inr away ↦
              let gone = if-ne j up amount away in
              let one = at-other (2 * j) (λ f. omega (arith, away)) in
              let two = at-other (2 * j + 1) (λ f. omega (arith, away)) in
              omega arith
        ]
  ]

  leaves-next : (i : ℕ) → i < width → number_at more (width + i) + cond ((width + i) == up) amount 0 ≡ number_at nodes (width + i) + cond (i == index) amount 0
  leaves-next i lt =
      let a = is.inside in
      let old = is.leaves i lt in
      let gone = if-ne (width + i) up amount (λ f. omega arith) in
      elim (cases_eq (width + i) node) [
        | inl e ↦
            let has = if-eq (width + i) node amount e in
            let here : number_at more (width + i) ≡ number_at now (width + i) + amount = subst (λ (k : ℕ). number_at more k ≡ number_at now k + amount) (sym e) at-node in
            omega arith
        | inr ne ↦
            let none = if-ne (width + i) node amount ne in
            let here = at-other (width + i) ne in
            omega arith
      ]

  pub adding-next : IsAdding nodes width index amount up more
  adding-next =
      let a = is.inside in
      record {
        count = length-set {A = ℕ} now node (number_at now node + amount) ∙ is.count;
        inside = omega arith;
        sums = sums-next;
        same = λ j le. at-other j (λ e. omega arith) ∙ is.same j (omega arith);
        leaves = leaves-next;
        root = λ e.
            let one : node ≡ 1 = omega arith in
            let here : number_at more 1 ≡ number_at now 1 + amount = subst (λ (k : ℕ). number_at more k ≡ number_at now k + amount) one at-node in
            let before = is.same 1 (omega arith) in
            omega arith;
      }

-- what the node has is at most the root
pub adding-fits : (nodes : List ℕ) (width index amount node : ℕ) (now : List ℕ) → AreNodesSums nodes width → IsAdding nodes width index amount node now → 0 < node → number_at now node ≤ number_at nodes 1
adding-fits nodes width index amount node now sums is some =
    let same = is.same node (omega arith) in
    let below = below-root nodes width sums node node (omega arith) some is.inside in
    omega arith

-- before the first node
pub adding-none : (s : PrefixSums) (index amount : ℕ) → IsSumTree s → index < s.width → IsAdding s.nodes.items s.width index amount (s.width + index) s.nodes.items
adding-none s index amount tree lt = record {
  count = refl;
  inside = omega arith;
  sums = λ j h below. let old = tree.sums j h below in let none = if-ne j (s.width + index) amount (λ e. omega arith) in omega arith;
  same = λ j le. refl;
  leaves = λ i below. elim (cases_eq i index) [
    | inl e ↦ let a = if-eq i index amount e in let b = if-eq (s.width + i) (s.width + index) amount (omega arith) in omega arith
    | inr ne ↦ let a = if-ne i index amount ne in let b = if-ne (s.width + i) (s.width + index) amount (λ e. ne (omega arith)) in omega arith
  ];
  root = λ e. let some = tree.some in absurd (omega arith);
}

-- at the root
pub adding-all : (old new : PrefixSums) (index amount : ℕ) → IsSumTree old → new.width ≡ old.width → IsAdding old.nodes.items old.width index amount 0 new.nodes.items → IsAdded index amount old new
adding-all old new index amount tree w is = record {
  tree = record {
    power = (tree.power.0, w ∙ tree.power.1);
    some = let s = tree.some in omega arith;
    count = is.count ∙ tree.count ∙ (omega arith);
    sums = λ j h lt. let s = is.sums j h (omega arith) in let none = if-ne j 0 amount (λ e. omega arith) in omega arith;
  };
  width = w;
  numbers = λ i lt.
      let l = is.leaves i lt in
      let none = if-ne (old.width + i) 0 amount (λ e. let s = tree.some in omega arith) in
      ap (λ (n : ℕ). number_at new.nodes.items (n + i)) w ∙ (omega arith);
  total = is.root refl;
}

-- Sums of the first numbers.

module _ (s : PrefixSums) (tree : IsSumTree s) (index : ℕ) (lt : index < s.width) where
  pub summed-none : IsSummedUpto s index (s.width + index) s.width 0
  summed-none = record {
    power = tree.power;
    from = omega arith;
    inside = omega arith;
    level = omega arith;
    whole =
        let e : s.width + index - s.width ≡ index = omega arith in
        let r : sum_below (λ i. number_at s.nodes.items (s.width + i)) (s.width + index - s.width) ≡ sum_below (number_in s) index = ap (sum_below (number_in s)) e in
        omega arith;
  }

  -- no sum of the first is more than the root
  pub numbers-total : sum_below (number_in s) index ≤ total_in s
  numbers-total =
      let all = whole s.nodes.items s.width tree.sums tree.power.0 s.width tree.power.1 (omega arith) in
      let part = below-upto (number_in s) index s.width (omega arith) in
      omega arith

  module _ (node first sum : ℕ) (is : IsSummedUpto s index node first sum) where
    abbrev nodes : List ℕ
    nodes = s.nodes.items

    pub summed-all : first ≤ 1 → sum ≡ sum_below (number_in s) index
    summed-all one =
        let h : 0 < first = let p = pow_pos is.power.0 in let e = is.power.1 in omega arith in
        let f = is.from in
        let i = is.inside in
        let none : node - first ≡ 0 = omega arith in
        let w = is.whole in
        let z : sum_below (λ j. number_at nodes (first + j)) (node - first) ≡ 0 = ap (sum_below (λ j. number_at nodes (first + j))) none in
        omega arith

    -- where the level is not the root's, the one above it
    above : (k : ℕ) → first ≡ 2 ^ k → 1 < first → (half : ℕ) × (IsPowerOfTwo half) × (first ≡ 2 * half)
    above zero e more = let one : first ≡ 1 = e in absurd (omega arith)
    above (suc k) e more = (2 ^ k, (k, refl), e ∙ pow-suc 2 k ∙ (omega arith))

    pub summed-next : 1 < first → IsSummedUpto s index (node / 2) (first / 2) (sum + left_sibling nodes node)
    summed-next more =
        let up = above is.power.0 is.power.1 more in
        let half = up.0 in
        let double : first ≡ 2 * half = up.2 in
        let f = is.from in
        let i = is.inside in
        let l = is.level in
        let same : first / 2 ≡ half = omega arith in
        let m = node / 2 - half in
        let lev = level nodes s.width tree.sums half m (omega arith) (omega arith) in
        let lev' : sum_below (λ j. number_at nodes (first + j)) (2 * m) ≡ sum_below (λ j. number_at nodes (half + j)) m =
        ap (λ (a : ℕ). sum_below (λ j. number_at nodes (a + j)) (2 * m)) double ∙ lev in
        let w = is.whole in
        let step : sum_below (λ j. number_at nodes (first + j)) (node - first) ≡ left_sibling nodes node + sum_below (λ j. number_at nodes (first + j)) (2 * m) =
        elim (cases_eq (node % 2) 1) [
          | inl odd ↦
              let n_is : node - first ≡ suc (2 * m) = omega arith in
              let l_is : left_sibling nodes node ≡ number_at nodes (node - 1) = cond-true (node % 2 == 1) (number_at nodes (node - 1)) 0 (eq-eqb _ _ odd) in
              let at : number_at nodes (first + 2 * m) ≡ number_at nodes (node - 1) = ap (number_at nodes) (omega arith) in
              ap (sum_below (λ j. number_at nodes (first + j))) n_is ∙ (omega arith)
          | inr even ↦
              let n_is : node - first ≡ 2 * m = omega (arith, even) in
              let l_is : left_sibling nodes node ≡ 0 = cond-false (node % 2 == 1) (number_at nodes (node - 1)) 0 (ne_eqb _ _ even) in
              ap (sum_below (λ j. number_at nodes (first + j))) n_is ∙ (omega arith)
        ] in
        record {
          power = (up.1.0, same ∙ up.1.1);
          from = omega arith;
          inside = omega arith;
          level = omega arith;
          whole = let e : sum_below (λ j. number_at nodes (first / 2 + j)) (node / 2 - first / 2) ≡ sum_below (λ j. number_at nodes (half + j)) m = (λ k. sum_below (λ j. number_at nodes (same k + j)) (node / 2 - same k)) in omega arith;
        }

    -- the sum so far and the left sibling are at most the root
    pub summed-fits : 1 < first → sum + left_sibling nodes node ≤ total_in s
    summed-fits more =
        let next = summed-next more in
        let w = next.whole in
        let t = numbers-total in
        omega arith
