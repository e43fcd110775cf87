-- Sums along chains, by the ranges of the orders' families.
use Rattle.std.proofs.Common.{◌≡◌, ◌≢◌, ◌<◌, ◌≤◌, ◌+◌, ℕ, zero, suc, List, length, Bool, true, false, cond, refl, sym, ap, ◌∙◌, arith, inl, inr, subst, sum_by, replicate, ◌^◌}
use Rattle.std.specs.Prelude.{◌==◌, ◌&&◌, ◌||◌, nat_lt, slice_set}
use Rattle.std.specs.List.{list_any}
use Rattle.std.proofs.lemmas.Bool.{cases_Bool, cases_eq, cases_lt, eq-eqb, ne_eqb, cond-true, cond-false, lt-ltb, le-ltb, or_left, or_from, and_from, and_left, and_right, false_from_ne_true}
use Rattle.std.proofs.lemmas.List.{length-set, get_or-set_same, get_or-set_other, length-replicate, get_or-replicate}
use Rattle.std.proofs.lemmas.List.Sums.{sum_by-cons}
use Rattle.audit_base.specs.declared.orders.Order.{Order}
use Rattle.audit_base.specs.Sums.{sum_below}
use Rattle.audit_base.specs.Deals.{number_at}
use Rattle.audit_base.specs.Orders.{order_at, IsOrderList}
use Rattle.audit_base.specs.Continuous.{chain}
use Rattle.audit_base.proofs.ContinuousLemmas.{target-below, chain-none, chain-some}
use Rattle.audit_base.proofs.LeastLemmas.{cases_Option}
use Rattle.audit_base.proofs.SumLemmas.{below-same, below-add, below-none, below-le, term-le-below}
use Rattle.order_arrivals.specs.declared.sums.ChainSums.TheInside.{Inside}
use Rattle.order_arrivals.specs.declared.families.Families.{Families}
use Rattle.order_arrivals.specs.declared.prefix_sums.PrefixSums.{PrefixSums}
use Rattle.order_arrivals.specs.Ranges.{start_in, end_in, AreAmountsBy, AreRangeSums}
use Rattle.order_arrivals.specs.Sums.{amount_total}
use Rattle.order_arrivals.specs.Families.{AreFamilies}
use Rattle.order_arrivals.specs.PrefixSums.{number_in, AreZeros, IsAdded}
use Rattle.order_arrivals.proofs.FamilyLemmas.{below-changed, member, member-is, some-size, end-fits, above}

-- an amount more at a number of a sum
below-one : (f g : ℕ → ℕ) (k v width : ℕ) → ((i : ℕ) → i < width → g i ≡ f i + cond (i == k) v 0) → (i : ℕ) → i ≤ width → sum_below g i ≡ sum_below f i + cond (nat_lt k i) v 0
below-one f g k v width h zero le = let none = cond-false (nat_lt k 0) v 0 (le-ltb k 0 (omega arith)) in omega arith
below-one f g k v width h (suc i) le =
    let rest = below-one f g k v width h i (omega arith) in
    let here = h i (omega arith) in
    elim (cases_eq i k) [
      | inl e ↦
          let a = cond-true (i == k) v 0 (eq-eqb i k e) in
          let b = cond-false (nat_lt k i) v 0 (le-ltb k i (omega arith)) in
          let c = cond-true (nat_lt k (suc i)) v 0 (lt-ltb k (suc i) (omega arith)) in
          omega arith
      | inr ne ↦
          let a = cond-false (i == k) v 0 (ne_eqb i k ne) in
          let b : cond (nat_lt k i) v 0 ≡ cond (nat_lt k (suc i)) v 0 = elim (cases_lt k i) [
            | inl less ↦ cond-true (nat_lt k i) v 0 (lt-ltb k i less) ∙ sym (cond-true (nat_lt k (suc i)) v 0 (lt-ltb k (suc i) (omega arith)))
            | inr more ↦ cond-false (nat_lt k i) v 0 (le-ltb k i more) ∙ sym (cond-false (nat_lt k (suc i)) v 0 (le-ltb k (suc i) (omega (arith, ne))))
          ] in
          omega arith
    ]

-- the amounts whose position passes a test, where one amount is more
module _ (amounts : List ℕ) (order amount : ℕ) (lt : order < length amounts) where
  abbrev more : List ℕ
  more = slice_set amounts order (number_at amounts order + amount)

  at-own : number_at more order ≡ number_at amounts order + amount
  at-own = get_or-set_same {A = ℕ} amounts order (number_at amounts order + amount) 0 lt

  at-other : (j : ℕ) → j ≢ order → number_at more j ≡ number_at amounts j
  at-other j ne = get_or-set_other {A = ℕ} amounts order j (number_at amounts order + amount) 0 ne

  more-count : length more ≡ length amounts
  more-count = length-set {A = ℕ} amounts order (number_at amounts order + amount)

  total-more : amount_total more ≡ amount_total amounts + amount
  total-more = ap (sum_below (number_at more)) more-count ∙ below-changed (number_at amounts) (number_at more) (length amounts) order amount lt at-own (λ i h ne. at-other i ne)

  tested-more : (test : ℕ → Bool) → sum_below (λ x. cond (test x) (number_at more x) 0) (length amounts) ≡ sum_below (λ x. cond (test x) (number_at amounts x) 0) (length amounts) + cond (test order) amount 0
  tested-more test = below-changed (λ x. cond (test x) (number_at amounts x) 0) (λ x. cond (test x) (number_at more x) 0) (length amounts) order (cond (test order) amount 0) lt
      (ap (λ (v : ℕ). cond (test order) v 0) at-own ∙ split (test order) (number_at amounts order) amount)
      (λ i h ne. ap (λ (v : ℕ). cond (test i) v 0) (at-other i ne))
    where
      split : (b : Bool) (x y : ℕ) → cond b (x + y) 0 ≡ cond b x 0 + cond b y 0
      split true x y = refl
      split false x y = refl

  pub amounts-more : (position : ℕ → ℕ) (old new : PrefixSums) → AreAmountsBy amounts position old → IsAdded (position order) amount old new → AreAmountsBy more position new
  amounts-more position old new is added = record {
    tree = added.tree;
    room = let r = is.room in let w = added.width in let c = more-count in omega arith;
    sums = λ i le.
        let w = added.width in
        let before = is.sums i (omega arith) in
        let one = below-one (number_in old) (number_in new) (position order) amount old.width added.numbers i (omega arith) in
        let tested = tested-more (λ x. nat_lt (position x) i) in
        let counted : sum_below (λ x. cond (nat_lt (position x) i) (number_at more x) 0) (length more) ≡ sum_below (λ x. cond (nat_lt (position x) i) (number_at more x) 0) (length amounts) = ap (sum_below (λ x. cond (nat_lt (position x) i) (number_at more x) 0)) more-count in
        omega arith;
    total = let a = added.total in let b = is.total in let t = total-more in omega arith;
  }

-- nothing yet
pub amounts-none : (n : ℕ) (position : ℕ → ℕ) (s : PrefixSums) → AreZeros (n + 2) s → AreAmountsBy (replicate n 0) position s
amounts-none n position s is =
    let count : length (replicate {A = ℕ} n 0) ≡ n = length-replicate {A = ℕ} n 0 in
    record {
      tree = is.tree;
      room = let m = is.more in omega arith;
      sums = λ i le. below-none (number_in s) i (λ j h. is.zeros j) ∙ sym (below-none _ (length (replicate n 0)) (λ j h. nothing j (nat_lt (position j) i)));
      total = is.total ∙ sym (below-none (number_at (replicate n 0)) (length (replicate n 0)) (λ j h. zero_at j));
    }
  where
    zero_at : (j : ℕ) → number_at (replicate n 0) j ≡ 0
    zero_at j = elim (cases_lt j n) [
      | inl lt ↦ get_or-replicate {A = ℕ} n j 0 0 lt
      | inr le ↦ past n j
    ]
      where
        past : (m j : ℕ) → number_at (replicate m 0) j ≡ 0
        past zero j = refl
        past (suc m) zero = refl
        past (suc m) (suc j) = past m j

    nothing : (j : ℕ) (b : Bool) → cond b (number_at (replicate n 0) j) 0 ≡ 0
    nothing j true = zero_at j
    nothing j false = refl

-- the sum of a function along a chain
module _ (orders : List Order) (list : IsOrderList orders) (f : Families) (are : AreFamilies orders f) where
  abbrev has : ℕ → ℕ → Bool
  has o x = member orders list f.sizes.items are.sizes f.starts.items are.starts o x

  chained : (g : ℕ → ℕ) (k o : ℕ) → o < k → o < length orders → sum_by g (chain orders o) ≡ sum_below (λ x. cond (has o x) (g x) 0) (length orders)
  chained g zero o le lt = absurd (omega arith)
  chained g (suc k) o le lt = elim (cases_Option (order_at orders o).target) [
    | inl none ↦ ap (sum_by g) (chain-none orders list o none) ∙ sym (below-none _ (length orders) (λ x h. cond-false (has o x) (g x) 0 (ap (list_any (λ (m : ℕ). m == x)) (chain-none orders list o none))))
    | inr some ↦
        let t = some.0 in
        let lower = target-below orders list o lt t some.1 in
        let rest = chained g k t (omega arith) (omega arith) in
        let is = chain-some orders list o t lt some.1 in
        let own : has t t ≡ false = false_from_ne_true _ (λ m. let up = above orders list f.sizes.items are.sizes f.starts.items are.starts (suc t) t t (omega arith) (omega arith) m in let x = up.2 in omega arith) in
        let step = below-changed (λ x. cond (has t x) (g x) 0) (λ x. cond (has o x) (g x) 0) (length orders) t (g t) (omega arith)
        (let a = cond-false (has t t) (g t) 0 own in let b = cond-true (has o t) (g t) 0 (ap (list_any (λ (m : ℕ). m == t)) is ∙ or_left (t == t) (has t t) (eq-eqb t t refl)) in omega arith)
        (λ x h ne. ap (λ (b : Bool). cond b (g x) 0) (ap (list_any (λ (m : ℕ). m == x)) is ∙ other t x ne)) in
        ap (sum_by g) is ∙ sum_by-cons g t (chain orders t) ∙ (omega arith)
  ]
    where
      other : (t x : ℕ) → x ≢ t → ((t == x) || has t x) ≡ has t x
      other t x ne = elim (cases_Bool (has t x)) [
        | inl on ↦ or_second (t == x) (has t x) on ∙ sym on
        | inr off ↦ or_from (t == x) (has t x) (ne_eqb t x (λ e. ne (sym e))) off ∙ sym off
      ]
        where
          or_second : (a b : Bool) → b ≡ true → (a || b) ≡ true
          or_second true b e = refl
          or_second false b e = e

-- which families start before a number, and which end before it
ranged : (s e p v : ℕ) → s < e → cond (nat_lt s p) v 0 ≡ cond (nat_lt e (p + 1)) v 0 + cond (nat_lt s p && nat_lt p e) v 0
ranged s e p v lt = elim (cases_lt s p) [
  | inr off ↦
      let a = cond-false (nat_lt s p) v 0 (le-ltb s p off) in
      let b = cond-false (nat_lt e (p + 1)) v 0 (le-ltb e (p + 1) (omega arith)) in
      let c = cond-false (nat_lt s p && nat_lt p e) v 0 (and_left (nat_lt s p) (nat_lt p e) (le-ltb s p off)) in
      omega arith
  | inl on ↦ elim (cases_lt p e) [
    | inl within ↦
        let a = cond-true (nat_lt s p) v 0 (lt-ltb s p on) in
        let b = cond-false (nat_lt e (p + 1)) v 0 (le-ltb e (p + 1) (omega arith)) in
        let c = cond-true (nat_lt s p && nat_lt p e) v 0 (and_from _ _ (lt-ltb s p on) (lt-ltb p e within)) in
        omega arith
    | inr past ↦
        let a = cond-true (nat_lt s p) v 0 (lt-ltb s p on) in
        let b = cond-true (nat_lt e (p + 1)) v 0 (lt-ltb e (p + 1) (omega arith)) in
        let c = cond-false (nat_lt s p && nat_lt p e) v 0 (and_right (nat_lt s p) (nat_lt p e) (le-ltb p e past)) in
        omega arith
  ]
]

module _ (s : Inside) (is : AreRangeSums s) (order : ℕ) (lt : order < length s.amounts.items) where
  abbrev amounts : List ℕ
  amounts = s.amounts.items

  abbrev own : ℕ
  own = start_in s.families order

  pub start-inside : own + 1 ≤ length amounts + 1
  start-inside = let w = is.within order lt in let z = is.some order lt in omega arith

  abbrev between : ℕ → ℕ
  between x = cond (nat_lt (start_in s.families x) own && nat_lt own (end_in s.families x)) (number_at amounts x) 0

  pub ranges-apart : sum_below (number_in s.by_start) own ≡ sum_below (number_in s.by_end) (own + 1) + sum_below between (length amounts)
  ranges-apart =
      let i = start-inside in
      let r = is.by_start.room in
      let q = is.by_end.room in
      let a = is.by_start.sums own (omega arith) in
      let b = is.by_end.sums (own + 1) (omega arith) in
      let each = below-same _ _ (length amounts) (λ x h. ranged (start_in s.families x) (end_in s.families x) own (number_at amounts x) (let z = is.some x h in omega arith)) in
      let both = below-add (λ x. cond (nat_lt (end_in s.families x) (own + 1)) (number_at amounts x) 0) between (length amounts) in
      omega arith

  -- the difference of both is the sum along the chain
  pub chain-read : (orders : List Order) → IsOrderList orders → length orders ≡ length amounts → AreFamilies orders s.families → sum_below between (length amounts) ≡ sum_by (number_at amounts) (chain orders order)
  chain-read orders list same are =
      let o_lt : order < length orders = omega arith in
      let sums = chained orders list s.families are (number_at amounts) (suc order) order (omega arith) o_lt in
      let members : sum_below (λ x. cond (has orders list s.families are order x) (number_at amounts x) 0) (length orders) ≡ sum_below between (length orders) =
      below-same _ _ (length orders) (λ x h. ap (λ (b : Bool). cond b (number_at amounts x) 0) (member-is orders list s.families.sizes.items are.sizes s.families.starts.items are.starts order x o_lt h)) in
      sym (sums ∙ members ∙ ap (sum_below between) same)

  -- the same, in the words of the code: the sums that it reads
  pub apart-read : (start a b : ℕ) → start ≡ own → a ≡ sum_below (number_in s.by_start) start → b ≡ sum_below (number_in s.by_end) (start + 1) → a ≡ b + sum_below between (length amounts)
  apart-read start a b e a_is b_is =
      let x : a ≡ sum_below (number_in s.by_start) own = a_is ∙ ap (sum_below (number_in s.by_start)) e in
      let y : b ≡ sum_below (number_in s.by_end) (own + 1) = b_is ∙ ap (λ (k : ℕ). sum_below (number_in s.by_end) (k + 1)) e in
      let r = ranges-apart in
      omega arith

  pub between-most : sum_below between (length amounts) ≤ amount_total amounts
  between-most = below-le between (number_at amounts) (length amounts) (λ x h. part (nat_lt (start_in s.families x) own && nat_lt own (end_in s.families x)) (number_at amounts x))
    where
      part : (b : Bool) (v : ℕ) → cond b v 0 ≤ v
      part true v = omega arith
      part false v = omega arith

  pub amount-most : number_at amounts order ≤ amount_total amounts
  amount-most = term-le-below (number_at amounts) (length amounts) order lt

-- an amount more
pub total-added : (xs ys : List ℕ) (order amount : ℕ) → order < length xs → ys ≡ slice_set xs order (number_at xs order + amount) → amount_total ys ≡ amount_total xs + amount
total-added xs ys order amount lt is = ap amount_total is ∙ total-more xs order amount lt

pub added-all : (old new : Inside) → AreRangeSums old → (order amount : ℕ) → order < length old.amounts.items → amount_total old.amounts.items + amount < 2 ^ 128 → new.families ≡ old.families → new.amounts.items ≡ slice_set old.amounts.items order (number_at old.amounts.items order + amount)
    → IsAdded (start_in old.families order) amount old.by_start new.by_start → IsAdded (end_in old.families order) amount old.by_end new.by_end → AreRangeSums new
added-all old new is order amount lt fits f_is a_is starts ends =
    let xs = old.amounts.items in
    let ys = slice_set xs order (number_at xs order + amount) in
    let count : length new.amounts.items ≡ length xs = ap length a_is ∙ more-count xs order amount lt in
    let total = total-added xs new.amounts.items order amount lt a_is in
    let by_start = subst (λ (f : Families). AreAmountsBy new.amounts.items (start_in f) new.by_start) (sym f_is) (subst (λ (zs : List ℕ). AreAmountsBy zs (start_in old.families) new.by_start) (sym a_is) (amounts-more xs order amount lt (start_in old.families) old.by_start new.by_start is.by_start starts)) in
    let by_end = subst (λ (f : Families). AreAmountsBy new.amounts.items (end_in f) new.by_end) (sym f_is) (subst (λ (zs : List ℕ). AreAmountsBy zs (end_in old.families) new.by_end) (sym a_is) (amounts-more xs order amount lt (end_in old.families) old.by_end new.by_end is.by_end ends)) in
    record {
      start_count = ap (λ (f : Families). length f.starts.items) f_is ∙ is.start_count ∙ (let c = count in omega arith);
      size_count = ap (λ (f : Families). length f.sizes.items) f_is ∙ is.size_count ∙ (let c = count in omega arith);
      some = λ o h. subst (λ (f : Families). 0 < number_at f.sizes.items (o + 1)) (sym f_is) (is.some o (omega arith));
      within = λ o h. let w = is.within o (omega arith) in subst (λ (f : Families). end_in f o ≤ length new.amounts.items + 1) (sym f_is) (omega arith);
      by_start = by_start;
      by_end = by_end;
      fits = omega arith;
    }

-- no amounts yet
pub sums-first : (orders : List Order) → IsOrderList orders → (s : Inside) → AreFamilies orders s.families → s.amounts.items ≡ replicate (length orders) 0 → AreZeros (length orders + 2) s.by_start → AreZeros (length orders + 2) s.by_end → AreRangeSums s
sums-first orders list s are zeros starts ends =
    let n = length orders in
    let count : length s.amounts.items ≡ n = ap length zeros ∙ length-replicate {A = ℕ} n 0 in
    let by_start = subst (λ (zs : List ℕ). AreAmountsBy zs (start_in s.families) s.by_start) (sym zeros) (amounts-none n (start_in s.families) s.by_start starts) in
    record {
      start_count = are.starts.count ∙ (omega arith);
      size_count = are.sizes.count ∙ (omega arith);
      some = λ o h. some-size orders list s.families.sizes.items are.sizes (o + 1) (omega arith);
      within = λ o h. let e = end-fits orders list s.families.sizes.items are.sizes n (omega arith) s.families.starts.items are.starts (o + 1) (o + 1) (omega arith) (omega arith) in omega arith;
      by_start = by_start;
      by_end = subst (λ (zs : List ℕ). AreAmountsBy zs (end_in s.families) s.by_end) (sym zeros) (amounts-none n (end_in s.families) s.by_end ends);
      fits = let t = by_start.total in let z = starts.total in omega arith;
    }
