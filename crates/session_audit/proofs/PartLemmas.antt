-- Each deal lies in one phase, so what an order trades in all phases together is what it trades.
use Rattle.std.proofs.Common.{◌≡◌, ◌<◌, ◌≤◌, ◌+◌, ◌-◌, ◌*◌, ◌^◌, ℕ, zero, suc, List, [], ◌∷◌, length, get_or, Bool, true, refl, ap, sym, ◌∙◌, arith, inl, inr, All, sum_by, cond}
use Rattle.std.specs.Prelude.{nat_lt, nat_le, filter}
use Rattle.std.proofs.lemmas.Bool.{cases_lt, cases_Bool, cases_order, cond-true, cond-false, lt-ltb, le-ltb, le-leb, leb-true, and_parts, and_from}
use Rattle.std.proofs.lemmas.List.Sums.{sum_by-cons}
use Rattle.std.proofs.lemmas.List.Elements.{All-head, All-tail}
use Rattle.audit_base.specs.declared.orders.Order.{Order}
use Rattle.audit_base.specs.declared.orders.Deal.{Deal}
use Rattle.audit_base.specs.Sums.{sum_below}
use Rattle.audit_base.specs.Orders.{side_at, IsOrderList}
use Rattle.audit_base.specs.Deals.{names_order, quantity_traded_by, traded, NamesOrders, DealInRange, DealsInRange}
use Rattle.audit_base.specs.Continuous.{cause}
use Rattle.audit_base.proofs.OrderLemmas.{same_place, not_both_sides}
use Rattle.audit_base.proofs.SumLemmas.{sum_by-below, sum_by-same, sum_by-le-All, below-same, below-none, below-single, All-each}
use Rattle.session_audit.specs.declared.phases.Phase.{Phase}
use Rattle.session_audit.specs.Dealing.{HaveCausesInRange}
use Rattle.session_audit.specs.Phases.{last_place, missing_phase, first_place, end_place, ArePhases, is_in_phase, phase_deals}
use Rattle.session_audit.specs.PhaseOrders.{traded_in_phase, traded_before_phase}

-- a sum over the elements that pass is a sum of a conditional
pub filter-sum : {X : Type 0} (f : X → ℕ) (p : X → Bool) (xs : List X) → sum_by f (filter p xs) ≡ sum_by (λ x. cond (p x) (f x) 0) xs
filter-sum f p [] = refl
filter-sum f p (x ∷ xs) = elim (cases_Bool (p x)) [
  | inl t ↦ ap (sum_by f) (cond-true (p x) (x ∷ filter p xs) (filter p xs) t) ∙ sum_by-cons f x (filter p xs)
      ∙ (let rest = filter-sum f p xs in let c = cond-true (p x) (f x) 0 t in let s = sum_by-cons (λ y. cond (p y) (f y) 0) x xs in omega arith)
  | inr e ↦ ap (sum_by f) (cond-false (p x) (x ∷ filter p xs) (filter p xs) e)
      ∙ (let rest = filter-sum f p xs in let c = cond-false (p x) (f x) 0 e in let s = sum_by-cons (λ y. cond (p y) (f y) 0) x xs in omega arith)
]

-- where at most one number passes, a sum over those that pass is at most the one term
at-most : (test : ℕ → Bool) (q k : ℕ) → ((i j : ℕ) → i < j → j < k → test i ≡ true → test j ≡ true → ⊥) → sum_below (λ j. cond (test j) q 0) k ≤ q
at-most test q zero apart = omega arith
at-most test q (suc k) apart = elim (cases_Bool (test k)) [
  | inl t ↦
      let none : sum_below (λ j. cond (test j) q 0) k ≡ 0 = below-none (λ j. cond (test j) q 0) k (λ j lt. elim (cases_Bool (test j)) [
        | inl u ↦ absurd (apart j k lt (omega arith) u t)
        | inr u ↦ cond-false (test j) q 0 u
      ]) in
      let last = cond-true (test k) q 0 t in
      omega arith
  | inr f ↦
      let rest = at-most test q k (λ i j less lt. apart i j less (omega arith)) in
      let last = cond-false (test k) q 0 f in
      omega arith
]

module _ (phases : List Phase) (are : ArePhases phases) where
  first-rises : (i j : ℕ) → i < j → j < length phases → first_place phases i < first_place phases j
  first-rises i j less lt = are.rising i j missing_phase less lt

  -- a place lies in at most one phase
  pub lies-once : (place i j : ℕ) → i < j → j < length phases → is_in_phase phases i place ≡ true → is_in_phase phases j place ≡ true → ⊥
  lies-once place i j less lt a b =
      let x = and_parts (nat_le (first_place phases i) place) (nat_le place (end_place phases i)) a in
      let y = and_parts (nat_le (first_place phases j) place) (nat_le place (end_place phases j)) b in
      let upto = leb-true _ _ x.1 in
      let from = leb-true _ _ y.0 in
      let last : end_place phases i ≡ first_place phases (i + 1) - 1 = cond-true (nat_lt (i + 1) (length phases)) (first_place phases (i + 1) - 1) last_place (lt-ltb (i + 1) (length phases) (omega arith)) in
      let r = first-rises i (i + 1) (omega arith) (omega arith) in
      elim (cases_order (i + 1) j) [
        | inl e ↦ let s : first_place phases (i + 1) ≡ first_place phases j = ap (first_place phases) e in absurd (omega arith)
        | inr ne ↦ elim ne [
          | inl before ↦ let s = first-rises (i + 1) j before lt in absurd (omega arith)
          | inr after ↦ absurd (omega arith)
        ]
      ]

  -- and in one, where it is from 1 to the greatest place of a record
  begins : (place n : ℕ) → 1 ≤ place → 0 < n → n ≤ length phases → (m : ℕ) × (m < n) × (first_place phases m ≤ place) × (m + 1 < n → place < first_place phases (m + 1))
  begins place zero some more le = absurd (omega arith)
  begins place (suc zero) some more le = let one = are.from_one in (0, omega arith, omega arith, λ h. absurd (omega arith))
  begins place (suc (suc n)) some more le = elim (cases_lt place (first_place phases (suc n))) [
    | inr from ↦ (suc n, omega arith, from, λ h. absurd (omega arith))
    | inl before ↦
        let r = begins place (suc n) some (omega arith) (omega arith) in
        let below = r.1 in (
          r.0,
          omega arith,
          r.2,
          λ h. elim (cases_lt (r.0 + 1) (suc n)) [
            | inl lt ↦ r.3 lt
            | inr ge ↦ let e : first_place phases (r.0 + 1) ≡ first_place phases (suc n) = ap (first_place phases) (omega arith) in omega arith
          ],
        )
  ]

  pub lies-somewhere : (place : ℕ) → 1 ≤ place → place ≤ last_place → (m : ℕ) × (m < length phases) × (is_in_phase phases m place ≡ true)
  lies-somewhere place some most =
      let r = begins place (length phases) some are.some (omega arith) in
      let from : nat_le (first_place phases r.0) place ≡ true = le-leb _ _ r.2 in
      let upto : place ≤ end_place phases r.0 = elim (cases_lt (r.0 + 1) (length phases)) [
        | inl lt ↦
            let last : end_place phases r.0 ≡ first_place phases (r.0 + 1) - 1 = cond-true (nat_lt (r.0 + 1) (length phases)) (first_place phases (r.0 + 1) - 1) last_place (lt-ltb (r.0 + 1) (length phases) lt) in
            let b = r.3 lt in
            omega arith
        | inr ge ↦
            let last : end_place phases r.0 ≡ last_place = cond-false (nat_lt (r.0 + 1) (length phases)) (first_place phases (r.0 + 1) - 1) last_place (le-ltb (r.0 + 1) (length phases) ge) in
            omega arith
      ] in
      (r.0, r.1, and_from _ _ from (le-leb _ _ upto))

  module _ (orders : List Order) (deals : List Deal) where
    abbrev in_test : Deal → ℕ → Bool
    in_test d j = is_in_phase phases j (cause orders d)

    earlier-parts : (k i : ℕ) → traded_before_phase phases orders deals k i ≡ sum_by (λ d. sum_below (λ j. cond (in_test d j) (quantity_traded_by i d) 0) k) deals
    unfolding traded_before_phase phase_deals
    earlier-parts k i = below-same (λ j. traded_in_phase phases orders deals j i) (λ j. sum_by (λ d. cond (in_test d j) (quantity_traded_by i d) 0) deals) k (λ j lt. filter-sum (quantity_traded_by i) (λ d. in_test d j) deals)
        ∙ sym (sum_by-below (λ d j. cond (in_test d j) (quantity_traded_by i d) 0) deals k)

    pub earlier-le : (k i : ℕ) → k ≤ length phases → traded_before_phase phases orders deals k i ≤ traded deals i
    earlier-le k i le =
        let e = earlier-parts k i in
        let m = sum_by-le-All (λ d. sum_below (λ j. cond (in_test d j) (quantity_traded_by i d) 0) k) (quantity_traded_by i) deals (All-each (λ d. sum_below (λ j. cond (in_test d j) (quantity_traded_by i d) 0) k ≤ quantity_traded_by i d) deals (λ d. at-most (in_test d) (quantity_traded_by i d) k (λ a b less lt x y. lies-once (cause orders d) a b less (omega arith) x y))) in
        omega arith

    pub earlier-more : (k i : ℕ) → traded_before_phase phases orders deals (suc k) i ≡ traded_before_phase phases orders deals k i + traded_in_phase phases orders deals k i
    unfolding traded_before_phase
    earlier-more k i = refl

    pub in-le : (k i : ℕ) → k < length phases → traded_in_phase phases orders deals k i ≤ traded deals i
    in-le k i lt = let m = earlier-le (suc k) i (omega arith) in let e = earlier-more k i in omega arith

    -- a cause is at least 1, since a bid and an ask have two places
    cause-some : (list : IsOrderList orders) (d : Deal) → NamesOrders orders d → 1 ≤ cause orders d
    cause-some list d n = elim (cases_lt 0 (cause orders d)) [
      | inl some ↦ some
      | inr none ↦
          let same = same_place orders list d.bid d.ask n.bid_inside n.ask_inside (omega arith) in
          absurd (not_both_sides (sym n.buys ∙ ap (side_at orders) same ∙ n.sells))
    ]

    pub earlier-whole : IsOrderList orders → All (NamesOrders orders) deals → HaveCausesInRange orders deals → (i : ℕ) → traded_before_phase phases orders deals (length phases) i ≡ traded deals i
    earlier-whole list named most i = earlier-parts (length phases) i ∙ sum_by-same (λ d. sum_below (λ j. cond (in_test d j) (quantity_traded_by i d) 0) (length phases)) (quantity_traded_by i) deals (λ n x lt.
        let d = get_or deals n x in
        let at = lies-somewhere (cause orders d) (cause-some list d (named n x lt)) (most n x lt) in
        below-single (λ j. cond (in_test d j) (quantity_traded_by i d) 0) (length phases) at.0 at.1 (λ j below ne. elim (cases_Bool (in_test d j)) [
          | inr f ↦ cond-false (in_test d j) (quantity_traded_by i d) 0 f
          | inl t ↦ elim (cases_order j at.0) [
            | inl e ↦ absurd (ne e)
            | inr differ ↦ elim differ [
              | inl less ↦ absurd (lies-once (cause orders d) j at.0 less at.1 t at.2)
              | inr more ↦ absurd (lies-once (cause orders d) at.0 j more below at.2 t)
            ]
          ]
        ])
        ∙ cond-true (in_test d at.0) (quantity_traded_by i d) 0 at.2)

-- what an order trades in fewer than 2^32 deals is at most 2^72
pub sum-most : {X : Type 0} (f : X → ℕ) (xs : List X) → All (λ x. f x ≤ 10 ^ 12) xs → sum_by f xs ≤ length xs * 10 ^ 12
sum-most f [] h = omega arith
sum-most f (x ∷ xs) h =
    let one : f x ≤ 10 ^ 12 = All-head (λ x. f x ≤ 10 ^ 12) x xs h in
    let rest = sum-most f xs (All-tail (λ x. f x ≤ 10 ^ 12) x xs h) in
    let s = sum_by-cons f x xs in
    omega arith

part-most : (i : ℕ) (d : Deal) → DealInRange d → quantity_traded_by i d ≤ 10 ^ 12
part-most i d is = let most = is.sized.most in elim (cases_Bool (names_order i d)) [
  | inl t ↦ let e = cond-true (names_order i d) d.quantity 0 t in omega arith
  | inr f ↦ let e = cond-false (names_order i d) d.quantity 0 f in omega arith
]

pub traded-small : (deals : List Deal) → DealsInRange deals → length deals < 2 ^ 32 → (i : ℕ) → traded deals i ≤ 2 ^ 72
traded-small deals are few i =
    let m = sum-most (quantity_traded_by i) deals (λ n x lt. part-most i (get_or deals n x) (are n x lt)) in
    omega arith
