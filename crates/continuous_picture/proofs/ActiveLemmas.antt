-- Whether an order is active, by its Size and what it has traded; one that is not never is again.
use Rattle.std.proofs.Common.{◌≡◌, ◌≤◌, ℕ, zero, suc, List, Bool, true, false, Option, None, Some, refl, sym, ◌∙◌, arith, inl, inr}
use Rattle.std.specs.Prelude.{◌&&◌, ◌==◌, nat_lt}
use Rattle.std.proofs.lemmas.Bool.{cases_eq, and_from, and_parts, both_ways, eqb-true, false_from_ne_true, le-leb, leb-true, lt-ltb, ltb-true, or_cases, or_left, or_right}
use Rattle.audit_base.specs.declared.orders.Order.{Order}
use Rattle.audit_base.specs.declared.orders.Deal.{Deal}
use Rattle.audit_base.specs.Continuous.{active_after, active_after_in_ledger, entered_in_ledger, left_before_in_ledger, rests_before_in_ledger, size_in_ledger, size_of_order, size_where_entered, traded_before, uncancelled_before}
use Rattle.audit_base.specs.Orders.{may_rest, order_at, place_at}
use Rattle.audit_base.proofs.ContinuousOffenceLemmas.{traded-more}
use Rattle.order_arrivals.specs.Resting.{has_left_with}
use Rattle.continuous_picture.specs.Active.{active_with, may_be_active}

uncancelled-earlier : (c : Option ℕ) (p q : ℕ) → p ≤ q → uncancelled_before c q ≡ true → uncancelled_before c p ≡ true
uncancelled-earlier None p q le e = refl
uncancelled-earlier (Some c) p q le e = let l = leb-true q c e in le-leb p c (omega arith)

-- two tests that hold of the same are one
same-test : (a b : Bool) → (a ≡ true → b ≡ true) → (b ≡ true → a ≡ true) → a ≡ b
same-test true b to from = sym (to refl)
same-test false b to from = sym (false_from_ne_true b (λ t. both_ways false refl (from t)))

module _ (orders : List Order) (deals : List Deal) where
  abbrev past : ℕ → ℕ → ℕ
  past = traded_before orders deals

  traded-grows : (x p q : ℕ) → p ≤ q → past p x ≤ past q x
  traded-grows x p zero le = let e : p ≡ 0 = omega arith in rw e (omega arith)
  traded-grows x p (suc q) le = elim (cases_eq p (suc q)) [
    | inl e ↦ rw e (omega arith)
    | inr ne ↦ let rest = traded-grows x p q (omega (arith, ne)) in let more = traded-more orders deals q x in omega arith
  ]

  -- with its Size and what it has traded up to the place
  abbrev known : ℕ → ℕ → Bool
  known p x = active_with (order_at orders x) p (size_of_order orders deals x) (past (suc p) x)

  active-known : (p x : ℕ) → active_after orders deals p x ≡ true → known p x ≡ true
  unfolding active_after_in_ledger rests_before_in_ledger size_in_ledger
  active-known p x t =
      let o = order_at orders x in
      elim (or_cases (rests_before_in_ledger orders past (suc p) x) ((place_at orders x == p) && uncancelled_before o.cancelled (suc p) && nat_lt 0 (left_before_in_ledger orders past (suc p) x)) t) [
        | inl rest ↦
            let both = and_parts (may_rest o.life && nat_lt (place_at orders x) (suc p)) (uncancelled_before o.cancelled (suc p) && nat_lt (past (suc p) x) (size_of_order orders deals x)) rest in
            let front = and_parts (may_rest o.life) (nat_lt (place_at orders x) (suc p)) both.0 in
            and_from _ _ (or_left _ _ front.0) both.1
        | inr here ↦
            let outer = and_parts ((place_at orders x == p) && uncancelled_before o.cancelled (suc p)) (nat_lt 0 (left_before_in_ledger orders past (suc p) x)) here in
            let inner = and_parts (place_at orders x == p) (uncancelled_before o.cancelled (suc p)) outer.0 in
            let left = ltb-true 0 (left_before_in_ledger orders past (suc p) x) outer.1 in
            and_from _ _ (or_right (may_rest o.life) _ inner.0) (and_from _ _ inner.1 (lt-ltb _ _ (omega arith)))
      ]

  known-active : (p x : ℕ) → place_at orders x ≤ p → known p x ≡ true → active_after orders deals p x ≡ true
  unfolding active_after_in_ledger rests_before_in_ledger size_in_ledger
  known-active p x come t =
      let o = order_at orders x in
      let both = and_parts (may_be_active o p) (has_left_with o (suc p) (size_of_order orders deals x) (past (suc p) x)) t in
      let stands = and_parts (uncancelled_before o.cancelled (suc p)) (nat_lt (past (suc p) x) (size_of_order orders deals x)) both.1 in
      let fewer = ltb-true _ _ stands.1 in
      elim (or_cases (may_rest o.life) (place_at orders x == p) both.0) [
        | inl may ↦ or_left _ _ (and_from _ _ (and_from _ _ may (lt-ltb _ _ (omega arith))) both.1)
        | inr here ↦ or_right (rests_before_in_ledger orders past (suc p) x) _ (and_from _ _ (and_from _ _ here stands.0) (lt-ltb _ _ (omega arith)))
      ]

  pub active-is : (p x size traded : ℕ) → place_at orders x ≤ p → size ≡ size_of_order orders deals x → traded ≡ past (suc p) x
      → active_with (order_at orders x) p size traded ≡ active_after orders deals p x
  active-is p x size traded come size_is traded_is =
      (λ i. active_with (order_at orders x) p (size_is i) (traded_is i)) ∙ same-test (known p x) (active_after orders deals p x) (known-active p x come) (active-known p x)

  -- an order that is active after the next record is active after this one, if it has come
  pub active-earlier : (p x : ℕ) → place_at orders x ≤ p → active_after orders deals (suc p) x ≡ true → active_after orders deals p x ≡ true
  active-earlier p x come t =
      let o = order_at orders x in
      let known_later = active-known (suc p) x t in
      let both = and_parts (may_be_active o (suc p)) (has_left_with o (suc (suc p)) (size_of_order orders deals x) (past (suc (suc p)) x)) known_later in
      let stands = and_parts (uncancelled_before o.cancelled (suc (suc p))) (nat_lt (past (suc (suc p)) x) (size_of_order orders deals x)) both.1 in
      let fewer = ltb-true _ _ stands.1 in
      let grows = traded-grows x (suc p) (suc (suc p)) (omega arith) in
      let may : may_rest o.life ≡ true = elim (or_cases (may_rest o.life) (place_at orders x == suc p) both.0) [
        | inl rest ↦ rest
        | inr here ↦ let e = eqb-true _ _ here in absurd (omega arith)
      ] in
      known-active p x come (and_from _ _ (or_left _ _ may) (and_from _ _ (uncancelled-earlier o.cancelled (suc p) (suc (suc p)) (omega arith) stands.0) (lt-ltb _ _ (omega arith))))

  -- an order that has not come is not active
  pub active-come : (p x : ℕ) → active_after orders deals p x ≡ true → place_at orders x ≤ p
  unfolding active_after_in_ledger rests_before_in_ledger
  active-come p x t =
      let o = order_at orders x in
      elim (or_cases (rests_before_in_ledger orders past (suc p) x) ((place_at orders x == p) && uncancelled_before o.cancelled (suc p) && nat_lt 0 (left_before_in_ledger orders past (suc p) x)) t) [
        | inl rest ↦
            let both = and_parts (may_rest o.life && nat_lt (place_at orders x) (suc p)) (uncancelled_before o.cancelled (suc p) && nat_lt (past (suc p) x) (size_where_entered (entered_in_ledger orders past x) orders past x)) rest in
            let front = and_parts (may_rest o.life) (nat_lt (place_at orders x) (suc p)) both.0 in
            let below = ltb-true _ _ front.1 in
            omega arith
        | inr here ↦
            let outer = and_parts ((place_at orders x == p) && uncancelled_before o.cancelled (suc p)) (nat_lt 0 (left_before_in_ledger orders past (suc p) x)) here in
            let inner = and_parts (place_at orders x == p) (uncancelled_before o.cancelled (suc p)) outer.0 in
            let e : place_at orders x ≡ p = eqb-true _ _ inner.0 in
            omega arith
      ]
