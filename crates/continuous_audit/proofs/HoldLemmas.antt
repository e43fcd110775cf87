-- How what a book holds changes, one order at a time.
use Rattle.std.proofs.Common.{◌≡◌, ◌≢◌, ◌<◌, ◌-◌, ℕ, List, [], ◌∷◌, length, Bool, true, false, cond, refl, sym, ap, ◌∙◌, arith, inl, inr, subst, All, AllPairs, get_or}
use Rattle.std.specs.Prelude.{◌==◌, nat_lt, Contains}
use Rattle.std.proofs.lemmas.Bool.{cases_Bool, cases_eq, cases_lt, both_ways, eq-eqb, ne_eqb, eqb-true, and_parts, and_from, and_left, ltb-true, ltb-false, lt-ltb}
use Rattle.std.proofs.lemmas.List.Elements.{All-nil, All-head, All-tail, All-cons, All-weaker}
use Rattle.audit_base.specs.declared.terms.Side.{Side}
use Rattle.audit_base.specs.declared.terms.Side.TheVariants.{Buy, Sell}
use Rattle.audit_base.specs.declared.orders.Order.{Order}
use Rattle.audit_base.specs.Orders.{side_at, limit_at}
use Rattle.audit_base.specs.Priority.{better_limit}
use Rattle.audit_base.proofs.SumLemmas.{AllPairs-head, AllPairs-tail, AllPairs-cons, Contains-cases, Contains-front, Contains-behind}
use Rattle.order_book.specs.declared.books.Resting.{Resting}
use Rattle.order_book.specs.Books.{IsAheadInBook, with_order, has_index_and_limit, without_order, after_take}
use Rattle.continuous_audit.specs.Holding.{IsListOfAmounts, IsRestingOn, resting_with_amount, resting_with}

-- no order is ahead of one with its own index and limit
not-ahead : (side : Side) (r s : Resting) → r.index ≡ s.index → r.limit ≡ s.limit → IsAheadInBook side r s → ⊥
not-ahead Buy r s e f (inl h) = let lt = ltb-true s.limit r.limit h in omega arith
not-ahead Sell r s e f (inl h) = let lt = ltb-true r.limit s.limit h in omega arith
not-ahead side r s e f (inr h) = let lt = h.1 in omega arith

ahead-onward : (side : Side) (r s t : Resting) → IsAheadInBook side r s → IsAheadInBook side s t → IsAheadInBook side r t
ahead-onward Buy r s t (inl h) (inl g) = let a = ltb-true s.limit r.limit h in let b = ltb-true t.limit s.limit g in inl (lt-ltb t.limit r.limit (omega arith))
ahead-onward Buy r s t (inl h) (inr g) = let a = ltb-true s.limit r.limit h in let b = g.0 in inl (lt-ltb t.limit r.limit (omega arith))
ahead-onward Buy r s t (inr h) (inl g) = let a = h.0 in let b = ltb-true t.limit s.limit g in inl (lt-ltb t.limit r.limit (omega arith))
ahead-onward Sell r s t (inl h) (inl g) = let a = ltb-true r.limit s.limit h in let b = ltb-true s.limit t.limit g in inl (lt-ltb r.limit t.limit (omega arith))
ahead-onward Sell r s t (inl h) (inr g) = let a = ltb-true r.limit s.limit h in let b = g.0 in inl (lt-ltb r.limit t.limit (omega arith))
ahead-onward Sell r s t (inr h) (inl g) = let a = h.0 in let b = ltb-true s.limit t.limit g in inl (lt-ltb r.limit t.limit (omega arith))
ahead-onward side r s t (inr h) (inr g) = let a = h.1 in let b = g.1 in inr (h.0 ∙ g.0, omega arith)

module _ (orders : List Order) (side : Side) where
  limit-is : (amount : ℕ → ℕ) (r : Resting) → IsRestingOn orders side amount r → r.limit ≡ limit_at orders r.index
  limit-is amount r p = ap (λ (s : Resting). s.limit) p.is

  -- of two parts, one ahead of the other, the indices differ
  pub parts-apart : (amount : ℕ → ℕ) (r s : Resting) → IsRestingOn orders side amount r → IsRestingOn orders side amount s → IsAheadInBook side r s → s.index ≢ r.index
  parts-apart amount r s p q ahead e = not-ahead side r s (sym e) (limit-is amount r p ∙ sym (ap (limit_at orders) e) ∙ sym (limit-is amount s q)) ahead

  -- what is known of one list at each index of the side but one
  module _ (amount amount' : ℕ → ℕ) (j : ℕ) (same : (k : ℕ) → k < length orders → side_at orders k ≡ side → k ≢ j → amount' k ≡ amount k) where
    part-kept : (r : Resting) → IsRestingOn orders side amount r → r.index ≢ j → IsRestingOn orders side amount' r
    part-kept r p ne =
        let e = same r.index p.inside p.of_side ne in
        let some = p.some in
        record {
          inside = p.inside;
          of_side = p.of_side;
          some = omega arith;
          is = p.is ∙ ap (resting_with orders r.index) (sym e);
        }

    parts-kept : (xs : List Resting) → All (IsRestingOn orders side amount) xs → All (λ r. r.index ≢ j) xs → All (IsRestingOn orders side amount') xs
    parts-kept xs parts apart = λ k d lt. part-kept (get_or xs k d) (parts k d lt) (apart k d lt)

    -- an order of which something rests afterwards, and which isn't the one at j
    found-kept : (xs : List Resting) → IsListOfAmounts orders side amount xs → (i : ℕ) → i < length orders → side_at orders i ≡ side → 0 < amount' i → i ≢ j → Contains xs (resting_with_amount orders amount' i)
    found-kept xs holds i inside of some ne =
        let e = same i inside of ne in
        subst (λ (r : Resting). Contains xs r) (ap (resting_with orders i) (sym e)) (holds.each i inside of (omega arith))

    -- Taking from the first.

    module _ (x : Resting) (xs : List Resting) (quantity : ℕ) (holds : IsListOfAmounts orders side amount (x ∷ xs)) (at : x.index ≡ j) (less : amount' j ≡ amount j - quantity) where
      first-part : IsRestingOn orders side amount x
      first-part = All-head (IsRestingOn orders side amount) x xs holds.only

      later-parts : All (IsRestingOn orders side amount') xs
      later-parts =
          let later = All-tail (IsRestingOn orders side amount) x xs holds.only in
          let behind = AllPairs-head (IsAheadInBook side) x xs holds.ranked in
          parts-kept xs later (λ k d lt e. parts-apart amount x (get_or xs k d) first-part (later k d lt) (behind k d lt) (e ∙ sym at))

      left-is : x.left ≡ amount j
      left-is = ap (λ (r : Resting). r.left) first-part.is ∙ ap amount at

      -- the same as at its index
      found-later : (i : ℕ) → i < length orders → side_at orders i ≡ side → 0 < amount' i → i ≢ j → Contains xs (resting_with_amount orders amount' i)
      found-later i inside of some ne = elim (Contains-cases x xs (resting_with_amount orders amount' i) (found-kept (x ∷ xs) holds i inside of some ne)) [
        | inl e ↦ absurd (ne (sym (ap (λ (r : Resting). r.index) e) ∙ at))
        | inr c ↦ c
      ]

      first-taken : (b : Bool) → nat_lt quantity x.left ≡ b → IsListOfAmounts orders side amount' (cond b (record x { left = x.left - quantity } ∷ xs) xs)
      first-taken true t =
          let lt = ltb-true quantity x.left t in
          let y : Resting = record x { left = x.left - quantity } in
          let here : amount' x.index ≡ x.left - quantity = ap amount' at ∙ less ∙ ap (λ n. n - quantity) (sym left-is) in
          let is : y ≡ resting_with_amount orders amount' x.index = ap (λ (r : Resting). record r { left = x.left - quantity }) first-part.is ∙ ap (resting_with orders x.index) (sym here) in
          record {
            only = All-cons (IsRestingOn orders side amount') y xs (record { inside = first-part.inside; of_side = first-part.of_side; some = omega arith; is = is }) later-parts;
            each = λ i inside of some. elim (cases_eq i j) [
              | inl e ↦ subst (λ (r : Resting). Contains (y ∷ xs) r) (is ∙ ap (resting_with_amount orders amount') (at ∙ sym e)) (Contains-front y xs)
              | inr ne ↦ Contains-behind y xs (resting_with_amount orders amount' i) (found-later i inside of some ne)
            ];
            ranked = AllPairs-cons (IsAheadInBook side) y xs (AllPairs-head (IsAheadInBook side) x xs holds.ranked) (AllPairs-tail (IsAheadInBook side) x xs holds.ranked);
          }
      first-taken false f =
          let le = ltb-false quantity x.left f in
          let gone : amount' j ≡ 0 = let l = left-is in omega arith in
          record {
            only = later-parts;
            each = λ i inside of some. found-later i inside of some (λ e. let z : amount' i ≡ 0 = ap amount' e ∙ gone in omega arith);
            ranked = AllPairs-tail (IsAheadInBook side) x xs holds.ranked;
          }

      pub hold-taken : IsListOfAmounts orders side amount' (after_take quantity (x ∷ xs))
      hold-taken = first-taken (nat_lt quantity x.left) refl

    -- Taking one out.

    without-all : (P : Resting → Type 0) (i l : ℕ) (xs : List Resting) → All P xs → All P (without_order i l xs)
    without-all P i l [] h = h
    without-all P i l (x ∷ xs) h = elim (cases_Bool (has_index_and_limit i l x)) [
      | inl t ↦ rw t (All-tail P x xs h)
      | inr f ↦ rw f (All-cons P x (without_order i l xs) (All-head P x xs h) (without-all P i l xs (All-tail P x xs h)))
    ]

    without-ranked : (i l : ℕ) (xs : List Resting) → AllPairs (IsAheadInBook side) xs → AllPairs (IsAheadInBook side) (without_order i l xs)
    without-ranked i l [] h = h
    without-ranked i l (x ∷ xs) h = elim (cases_Bool (has_index_and_limit i l x)) [
      | inl t ↦ rw t (AllPairs-tail (IsAheadInBook side) x xs h)
      | inr f ↦ rw f (AllPairs-cons (IsAheadInBook side) x (without_order i l xs) (without-all (IsAheadInBook side x) i l xs (AllPairs-head (IsAheadInBook side) x xs h)) (without-ranked i l xs (AllPairs-tail (IsAheadInBook side) x xs h)))
    ]

    without-apart : (xs : List Resting) → All (IsRestingOn orders side amount) xs → AllPairs (IsAheadInBook side) xs → All (λ r. r.index ≢ j) (without_order j (limit_at orders j) xs)
    without-apart [] parts ahead = λ k d lt. absurd (omega arith)
    without-apart (x ∷ xs) parts ahead =
        let here = All-head (IsRestingOn orders side amount) x xs parts in
        let later = All-tail (IsRestingOn orders side amount) x xs parts in
        let behind = AllPairs-head (IsAheadInBook side) x xs ahead in
        elim (cases_Bool (has_index_and_limit j (limit_at orders j) x)) [
          | inl t ↦
              let at : x.index ≡ j = eqb-true x.index j (and_parts (x.index == j) (x.limit == limit_at orders j) t).0 in
              rw t (λ k d lt e. parts-apart amount x (get_or xs k d) here (later k d lt) (behind k d lt) (e ∙ sym at))
          | inr f ↦
              let ne : x.index ≢ j = λ e. both_ways _ f (and_from (x.index == j) (x.limit == limit_at orders j) (eq-eqb x.index j e) (eq-eqb x.limit (limit_at orders j) (limit-is amount x here ∙ ap (limit_at orders) e))) in
              rw f (All-cons (λ (r : Resting). r.index ≢ j) x (without_order j (limit_at orders j) xs) ne (without-apart xs later (AllPairs-tail (IsAheadInBook side) x xs ahead)))
        ]

    without-has : (l : ℕ) (xs : List Resting) (y : Resting) → y.index ≢ j → Contains xs y → Contains (without_order j l xs) y
    without-has l [] y ne c = absurd (let lt = c.1 in omega arith)
    without-has l (x ∷ xs) y ne c = elim (Contains-cases x xs y c) [
      | inl e ↦
          let off : has_index_and_limit j l x ≡ false = and_left (x.index == j) (x.limit == l) (ne_eqb x.index j (λ at. ne (sym (ap (λ (r : Resting). r.index) e) ∙ at))) in
          rw off (subst (λ (r : Resting). Contains (x ∷ without_order j l xs) r) e (Contains-front x (without_order j l xs)))
      | inr later ↦ elim (cases_Bool (has_index_and_limit j l x)) [
        | inl t ↦ rw t later
        | inr f ↦ rw f (Contains-behind x (without_order j l xs) y (without-has l xs y ne later))
      ]
    ]

    pub hold-without : (xs : List Resting) → IsListOfAmounts orders side amount xs → amount' j ≡ 0 → IsListOfAmounts orders side amount' (without_order j (limit_at orders j) xs)
    hold-without xs holds none = record {
      only = parts-kept (without_order j (limit_at orders j) xs) (without-all (IsRestingOn orders side amount) j (limit_at orders j) xs holds.only) (without-apart xs holds.only holds.ranked);
      each = λ i inside of some.
          let ne : i ≢ j = λ e. let z : amount' i ≡ 0 = ap amount' e ∙ none in omega arith in
          without-has (limit_at orders j) xs (resting_with_amount orders amount' i) ne (found-kept xs holds i inside of some ne);
      ranked = without-ranked j (limit_at orders j) xs holds.ranked;
    }

    -- One more.

    entered-all : (P : Resting → Type 0) (r : Resting) (xs : List Resting) → P r → All P xs → All P (with_order side r xs)
    entered-all P r [] p h = All-cons P r [] p h
    entered-all P r (x ∷ xs) p h = elim (cases_Bool (better_limit side r.limit x.limit)) [
      | inl t ↦ rw t (All-cons P r (x ∷ xs) p h)
      | inr f ↦ rw f (All-cons P x (with_order side r xs) (All-head P x xs h) (entered-all P r xs p (All-tail P x xs h)))
    ]

    -- a later order whose limit isn't better is behind
    stands-behind : (s : Side) (r x : Resting) → x.index < r.index → better_limit s r.limit x.limit ≡ false → IsAheadInBook s x r
    stands-behind Buy r x lt f = let le = ltb-false x.limit r.limit f in elim (cases_lt r.limit x.limit) [ inl less ↦ inl (lt-ltb r.limit x.limit less) | inr more ↦ inr (omega arith, lt) ]
    stands-behind Sell r x lt f = let le = ltb-false r.limit x.limit f in elim (cases_lt x.limit r.limit) [ inl less ↦ inl (lt-ltb x.limit r.limit less) | inr more ↦ inr (omega arith, lt) ]

    entered-ranked : (r : Resting) (xs : List Resting) → All (λ x. x.index < r.index) xs → AllPairs (IsAheadInBook side) xs → AllPairs (IsAheadInBook side) (with_order side r xs)
    entered-ranked r [] latest ahead = AllPairs-cons (IsAheadInBook side) r [] (All-nil (IsAheadInBook side r)) ahead
    entered-ranked r (x ∷ xs) latest ahead =
        let behind = AllPairs-head (IsAheadInBook side) x xs ahead in
        elim (cases_Bool (better_limit side r.limit x.limit)) [
          | inl t ↦ rw t (AllPairs-cons (IsAheadInBook side) r (x ∷ xs) (All-cons (IsAheadInBook side r) x xs (inl t) (All-weaker (IsAheadInBook side x) (IsAheadInBook side r) (λ s. ahead-onward side r x s (inl t)) xs behind)) ahead)
          | inr f ↦
              let lt = All-head (λ (s : Resting). s.index < r.index) x xs latest in
              rw f (AllPairs-cons (IsAheadInBook side) x (with_order side r xs) (entered-all (IsAheadInBook side x) r xs (stands-behind side r x lt f) behind)
              (entered-ranked r xs (All-tail (λ (s : Resting). s.index < r.index) x xs latest) (AllPairs-tail (IsAheadInBook side) x xs ahead)))
        ]

    entered-has : (r : Resting) (xs : List Resting) → Contains (with_order side r xs) r
    entered-has r [] = Contains-front r []
    entered-has r (x ∷ xs) = elim (cases_Bool (better_limit side r.limit x.limit)) [
      | inl t ↦ rw t (Contains-front r (x ∷ xs))
      | inr f ↦ rw f (Contains-behind x (with_order side r xs) r (entered-has r xs))
    ]

    entered-keeps : (r : Resting) (xs : List Resting) (y : Resting) → Contains xs y → Contains (with_order side r xs) y
    entered-keeps r [] y c = absurd (let lt = c.1 in omega arith)
    entered-keeps r (x ∷ xs) y c = elim (cases_Bool (better_limit side r.limit x.limit)) [
      | inl t ↦ rw t (Contains-behind r (x ∷ xs) y c)
      | inr f ↦ rw f (elim (Contains-cases x xs y c) [
        | inl e ↦ subst (λ (s : Resting). Contains (x ∷ with_order side r xs) s) e (Contains-front x (with_order side r xs))
        | inr later ↦ Contains-behind x (with_order side r xs) y (entered-keeps r xs y later)
      ])
    ]

    pub hold-entered : (xs : List Resting) → IsListOfAmounts orders side amount xs → j < length orders → side_at orders j ≡ side → 0 < amount' j → All (λ r. r.index < j) xs
        → IsListOfAmounts orders side amount' (with_order side (resting_with_amount orders amount' j) xs)
    hold-entered xs holds inside of some latest =
        let r = resting_with_amount orders amount' j in
        record {
          only = entered-all (IsRestingOn orders side amount') r xs (record { inside = inside; of_side = of; some = some; is = refl })
              (parts-kept xs holds.only (λ k d lt e. let less = latest k d lt in omega arith));
          each = λ i i_inside i_of i_some. elim (cases_eq i j) [
            | inl e ↦ subst (λ (k : ℕ). Contains (with_order side r xs) (resting_with_amount orders amount' k)) (sym e) (entered-has r xs)
            | inr ne ↦ entered-keeps r xs (resting_with_amount orders amount' i) (found-kept xs holds i i_inside i_of i_some ne)
          ];
          ranked = entered-ranked r xs latest holds.ranked;
        }

  -- the same amounts on the side, the same list
  pub hold-same : (amount amount' : ℕ → ℕ) (xs : List Resting) → ((k : ℕ) → k < length orders → side_at orders k ≡ side → amount' k ≡ amount k) → IsListOfAmounts orders side amount xs → IsListOfAmounts orders side amount' xs
  hold-same amount amount' xs same holds =
      let none : (k : ℕ) → k < length orders → side_at orders k ≡ side → k ≢ length orders → amount' k ≡ amount k = λ k lt of ne. same k lt of in
      record {
        only = parts-kept amount amount' (length orders) none xs holds.only (λ k d lt e. let inside = (holds.only k d lt).inside in omega arith);
        each = λ i inside of some. found-kept amount amount' (length orders) none xs holds i inside of some (λ e. omega arith);
        ranked = holds.ranked;
      }
