-- How what rests of an order changes from one place to another.
use Rattle.std.proofs.Common.{◌≡◌, ◌<◌, ◌≤◌, ◌+◌, ◌-◌, ◌⊎◌, ℕ, List, Bool, true, false, cond, Option, Some, None, refl, sym, ap, ◌∙◌, arith, inl, inr, All, get_or}
use Rattle.std.specs.Prelude.{◌&&◌, nat_lt}
use Rattle.std.proofs.lemmas.Bool.{cases_Bool, lt-ltb, le-ltb, leb-true, le-leb, cond-true, cond-false}
use Rattle.std.proofs.lemmas.Bool.Decides.{nat_tests}
use Rattle.audit_base.specs.declared.orders.Order.{Order}
use Rattle.audit_base.specs.declared.orders.Deal.{Deal}
use Rattle.audit_base.specs.Orders.{order_at, place_at, may_rest}
use Rattle.audit_base.specs.Deals.{names_order}
use Rattle.audit_base.specs.Continuous.{cause, traded_before, uncancelled_before, rests_before_in_ledger, size_in_ledger, left_before_in_ledger}
use Rattle.audit_base.proofs.SumLemmas.{sum_by-same}
use Rattle.continuous_laws.proofs.StepLemmas.{rests-parts}
use Rattle.continuous_audit.specs.Holding.{resting_left_before}

-- what rests of it
pub resting_left-parts : (orders : List Order) (past : ℕ → ℕ → ℕ) (p k : ℕ) → 0 < resting_left_before orders past p k → (rests_before_in_ledger orders past p k ≡ true) × (resting_left_before orders past p k ≡ left_before_in_ledger orders past p k)
unfolding resting_left_before
resting_left-parts orders past p k some = elim (cases_Bool (rests_before_in_ledger orders past p k)) [
  | inl t ↦ (t, cond-true _ (left_before_in_ledger orders past p k) 0 t)
  | inr f ↦ let none : cond (rests_before_in_ledger orders past p k) (left_before_in_ledger orders past p k) 0 ≡ 0 = cond-false _ (left_before_in_ledger orders past p k) 0 f in absurd (omega arith)
]

pub resting_left-is : (orders : List Order) (past : ℕ → ℕ → ℕ) (p k : ℕ) → rests_before_in_ledger orders past p k ≡ true → (resting_left_before orders past p k ≡ left_before_in_ledger orders past p k) × (0 < resting_left_before orders past p k)
unfolding resting_left_before
resting_left-is orders past p k t =
    let e : cond (rests_before_in_ledger orders past p k) (left_before_in_ledger orders past p k) 0 ≡ left_before_in_ledger orders past p k = cond-true _ (left_before_in_ledger orders past p k) 0 t in
    let more = (rests-parts orders past p k t).has_left in
    (e, omega arith)

pub resting_left-none : (orders : List Order) (past : ℕ → ℕ → ℕ) (p k : ℕ) → rests_before_in_ledger orders past p k ≡ false → resting_left_before orders past p k ≡ 0
unfolding resting_left_before
resting_left-none orders past p k f = cond-false _ (left_before_in_ledger orders past p k) 0 f

pub resting_left-future : (orders : List Order) (past : ℕ → ℕ → ℕ) (p k : ℕ) → p ≤ place_at orders k → resting_left_before orders past p k ≡ 0
resting_left-future orders past p k later = elim (cases_Bool (rests_before_in_ledger orders past p k)) [
  | inr f ↦ resting_left-none orders past p k f
  | inl t ↦ let l = (rests-parts orders past p k t).earlier in absurd (omega arith)
]

pub uncancelled-back : (c : Option ℕ) (p q : ℕ) → p ≤ q → uncancelled_before c q ≡ true → uncancelled_before c p ≡ true
uncancelled-back None p q le h = refl
uncancelled-back (Some c) p q le h = let l = leb-true q c h in le-leb p c (omega arith)

older : (l e u v : Bool) (s a t : ℕ) → (v ≡ true → u ≡ true) → cond ((l && e) && (v && nat_lt (a + t) s)) (s - (a + t)) 0 ≡ cond v (cond ((l && e) && (u && nat_lt a s)) (s - a) 0 - t) 0
older false e u false s a t h = refl
older false e u true s a t h = omega arith
older true false u false s a t h = refl
older true false u true s a t h = omega arith
older true true u false s a t h = refl
older true true false true s a t h = let x = h refl in absurd (cc)
older true true true true s a t h = grind (arith, nat_tests)

-- from p to q, where an older order trades t
pub resting_left-older : (orders : List Order) (past : ℕ → ℕ → ℕ) (p q k t : ℕ) → p ≤ q → place_at orders k < p → past q k ≡ past p k + t
    → resting_left_before orders past q k ≡ cond (uncancelled_before (order_at orders k).cancelled q) (resting_left_before orders past p k - t) 0
unfolding resting_left_before rests_before_in_ledger size_in_ledger
resting_left-older orders past p q k t le earlier e =
    let o = order_at orders k in
    let s = size_in_ledger orders past k in
    let now : nat_lt o.place p ≡ true = lt-ltb o.place p earlier in
    let then_on : nat_lt o.place q ≡ true = lt-ltb o.place q (omega arith) in
    rw (now, then_on, e) (older (may_rest o.life) true (uncancelled_before o.cancelled p) (uncancelled_before o.cancelled q) s (past p k) t (uncancelled-back o.cancelled p q le))

newest : (l v : Bool) (s t : ℕ) → cond ((l && true) && (v && nat_lt t s)) (s - t) 0 ≡ cond (l && v) (s - t) 0
newest false v s t = refl
newest true false s t = refl
newest true true s t = grind (arith, nat_tests)

-- at q, of the order of an earlier place that has traded nothing before
pub resting_left-newest : (orders : List Order) (past : ℕ → ℕ → ℕ) (q n t : ℕ) → place_at orders n < q → past q n ≡ t
    → resting_left_before orders past q n ≡ cond (may_rest (order_at orders n).life && uncancelled_before (order_at orders n).cancelled q) (size_in_ledger orders past n - t) 0
unfolding resting_left_before rests_before_in_ledger size_in_ledger
resting_left-newest orders past q n t earlier e =
    let o = order_at orders n in
    let now : nat_lt o.place q ≡ true = lt-ltb o.place q earlier in
    rw (now, e) (newest (may_rest o.life) (uncancelled_before o.cancelled q) (size_in_ledger orders past n) t)

-- where no deal has a cause from p on and below q, nothing is traded in between
pub traded-gap : (orders : List Order) (deals : List Deal) (p q k : ℕ) → p ≤ q → All (λ d. cause orders d < p ⊎ q ≤ cause orders d) deals → traded_before orders deals q k ≡ traded_before orders deals p k
unfolding traded_before
traded-gap orders deals p q k le gap = sum_by-same (λ d. cond (names_order k d && nat_lt (cause orders d) q) d.quantity 0) (λ d. cond (names_order k d && nat_lt (cause orders d) p) d.quantity 0) deals (λ n e lt.
    let d = get_or deals n e in
    let same : nat_lt (cause orders d) q ≡ nat_lt (cause orders d) p = elim (gap n e lt) [
      | inl less ↦ lt-ltb _ _ (omega arith) ∙ sym (lt-ltb _ _ less)
      | inr more ↦ le-ltb _ _ more ∙ sym (le-ltb _ _ (omega arith))
    ] in
    ap (λ (b : Bool). cond (names_order k d && b) d.quantity 0) same)
