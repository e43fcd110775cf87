-- A settled book holds what is left after the record, unless a deal passes its best order over; and
-- this order shows which.
use Rattle.std.proofs.Common.{◌≡◌, ◌≢◌, ◌<◌, ◌≤◌, ◌-◌, ◌⊎◌, ℕ, suc, List, [], ◌∷◌, length, true, false, cond, Some, refl, sym, ap, ◌∙◌, arith, inl, inr, subst}
use Rattle.std.specs.Prelude.{nat_lt, ◌==◌, ◌&&◌, Contains}
use Rattle.std.proofs.lemmas.Bool.{cases_Bool, cases_eq, cases_lt, both_ways, lt-ltb, le-ltb, ltb-true, eq-eqb, ne_eqb, cond-true, cond-false, and_parts, and_from, or_left, or_right, false_from_ne_true}
use Rattle.std.proofs.lemmas.List.Elements.{All-head, All-contains}
use Rattle.audit_base.specs.declared.terms.Side.{Side}
use Rattle.audit_base.specs.declared.orders.Order.{Order}
use Rattle.audit_base.specs.declared.orders.Deal.{Deal}
use Rattle.audit_base.specs.Least.{any_below}
use Rattle.audit_base.specs.Orders.{order_at, side_at, IsOrderList}
use Rattle.audit_base.specs.Priority.{better, better_limit, outranks, Better, best_order}
use Rattle.audit_base.specs.Continuous.{traded_before, traded_at, rests_before_in_ledger, left_before_in_ledger}
use Rattle.audit_base.specs.ContinuousOffences.{waits_ahead}
use Rattle.audit_base.proofs.SumLemmas.{AllPairs-head, Contains-cases}
use Rattle.audit_base.proofs.OrderLemmas.{place-rises}
use Rattle.audit_base.proofs.LeastLemmas.{any-at, any-none}
use Rattle.audit_base.proofs.PriorityLemmas.{better-side, outranks-better, Better-onward, Better-one_way, Better-strict, is-best}
use Rattle.audit_base.proofs.ContinuousOffenceLemmas.{traded-more}
use Rattle.order_book.specs.declared.books.Resting.{Resting}
use Rattle.order_book.specs.Books.{IsAheadInBook, best_resting, after_take}
use Rattle.continuous_audit.specs.Holding.{IsListOfAmounts, IsFilledInFront, IsRestingOn, after_fills, resting_left_before, resting_with_amount, resting_with}
use Rattle.continuous_audit.proofs.HoldLemmas.{hold-taken, hold-same}
use Rattle.continuous_audit.proofs.RestLemmas.{resting_left-parts, resting_left-is}

-- settled to this list: what is left now, which is what rests after of what rested before
pub record IsLeftOf (orders : List Order) (left_before_in_ledger before after : ℕ → ℕ) : Type 0 where
  pub less : (k : ℕ) → after k ≤ before k
  pub is : (k : ℕ) → k < length orders → 0 < before k → left_before_in_ledger k ≡ after k

module _ (orders : List Order) (side : Side) where
  pub after_fills-holds : (left_before_in_ledger before after : ℕ → ℕ) (xs : List Resting) → IsLeftOf orders left_before_in_ledger before after → IsListOfAmounts orders side before xs → IsFilledInFront orders side before after (after_fills left_before_in_ledger xs)
  after_fills-holds left_before_in_ledger before after [] is holds = record { amount = before; holds = holds; either = λ k. inr refl; first_now = λ y e. absurd (cc) }
  after_fills-holds left_before_in_ledger before after (x ∷ xs) is holds =
      let j = x.index in
      let quantity = before j - after j in
      let now : ℕ → ℕ = λ k. cond (k == j) (after k) (before k) in
      let at : now j ≡ after j = cond-true (j == j) (after j) (before j) (eq-eqb j j refl) in
      let away : (k : ℕ) → k ≢ j → now k ≡ before k = λ k ne. cond-false (k == j) (after k) (before k) (ne_eqb k j ne) in
      let part : IsRestingOn orders side before x = All-head (IsRestingOn orders side before) x xs holds.only in
      let some = part.some in
      let less = is.less j in
      let here = is.is j part.inside some in
      let x-left : x.left ≡ before j = ap (λ (r : Resting). r.left) part.is in
      let held : IsListOfAmounts orders side now (after_take quantity (x ∷ xs)) = hold-taken orders side before now j (λ k inside of ne. away k ne) x xs quantity holds refl (omega arith) in
      let either_now : (k : ℕ) → (now k ≡ after k) ⊎ (now k ≡ before k) = λ k. elim (cases_eq k j) [
        | inl e ↦ inl (cond-true (k == j) (after k) (before k) (eq-eqb k j e))
        | inr ne ↦ inr (away k ne)
      ] in
      elim (cases_lt 0 (left_before_in_ledger j)) [
        | inl more ↦
            let rest : x.left - quantity ≡ left_before_in_ledger j = omega arith in
            let shown : after_take quantity (x ∷ xs) ≡ after_fills left_before_in_ledger (x ∷ xs) =
            cond-true (nat_lt quantity x.left) (record x { left = x.left - quantity } ∷ xs) xs (lt-ltb quantity x.left (omega arith))
            ∙ ap (λ (n : ℕ). record x { left = n } ∷ xs) rest
            ∙ sym (cond-true (nat_lt 0 (left_before_in_ledger j)) (record x { left = left_before_in_ledger j } ∷ xs) (after_fills left_before_in_ledger xs) (lt-ltb 0 (left_before_in_ledger j) more)) in
            record {
              amount = now;
              holds = subst (IsListOfAmounts orders side now) shown held;
              either = either_now;
              first_now = λ y e.
                  let top : best_resting (after_fills left_before_in_ledger (x ∷ xs)) ≡ Some (record x { left = left_before_in_ledger j }) = ap best_resting (cond-true (nat_lt 0 (left_before_in_ledger j)) (record x { left = left_before_in_ledger j } ∷ xs) (after_fills left_before_in_ledger xs) (lt-ltb 0 (left_before_in_ledger j) more)) in
                  let same : y ≡ record x { left = left_before_in_ledger j } = cc in
                  ap (λ (r : Resting). now r.index) same ∙ at ∙ ap (λ (r : Resting). after r.index) (sym same);
            }
        | inr none ↦
            let gone : after j ≡ 0 = omega arith in
            let shown : after_take quantity (x ∷ xs) ≡ xs = cond-false (nat_lt quantity x.left) (record x { left = x.left - quantity } ∷ xs) xs (le-ltb quantity x.left (omega arith)) in
            let skipped : after_fills left_before_in_ledger (x ∷ xs) ≡ after_fills left_before_in_ledger xs = cond-false (nat_lt 0 (left_before_in_ledger j)) (record x { left = left_before_in_ledger j } ∷ xs) (after_fills left_before_in_ledger xs) (le-ltb 0 (left_before_in_ledger j) none) in
            let resting_left_after : IsLeftOf orders left_before_in_ledger now after = record {
              less = λ k. elim (either_now k) [ inl e ↦ omega arith | inr e ↦ let l = is.less k in omega arith ];
              is = λ k inside lt. elim (cases_eq k j) [
                | inl e ↦ let z : now k ≡ 0 = ap now e ∙ at ∙ gone in absurd (omega arith)
                | inr ne ↦ is.is k inside (let w = away k ne in omega arith)
              ];
            } in
            let later = after_fills-holds left_before_in_ledger now after xs resting_left_after (subst (IsListOfAmounts orders side now) shown held) in
            record {
              amount = later.amount;
              holds = subst (IsListOfAmounts orders side later.amount) (sym skipped) later.holds;
              either = λ k. elim (later.either k) [ inl e ↦ inl e | inr e ↦ elim (either_now k) [ inl f ↦ inl (e ∙ f) | inr f ↦ inr (e ∙ f) ] ];
              first_now = λ y e. later.first_now y (sym (ap best_resting skipped) ∙ e);
            }
      ]

-- An order that is ahead in a book is better.

ahead-outranks : (side : Side) (o p : Order) → (better_limit side o.limit p.limit ≡ true) ⊎ ((o.limit ≡ p.limit) × (o.place < p.place)) → outranks side o p ≡ true
ahead-outranks side o p (inl h) = or_left _ _ h
ahead-outranks side o p (inr h) = or_right (better_limit side o.limit p.limit) _ (and_from _ _ (eq-eqb _ _ h.0) (lt-ltb _ _ h.1))

module _ (orders : List Order) (list : IsOrderList orders) (side : Side) where
  pub ahead-better : (i j m n : ℕ) → i < length orders → j < length orders → side_at orders i ≡ side → side_at orders j ≡ side
      → IsAheadInBook side (resting_with orders i m) (resting_with orders j n) → Better orders i j
  ahead-better i j m n hi hj si sj (inl h) = outranks-better side (order_at orders i) (order_at orders j) si sj (ahead-outranks side (order_at orders i) (order_at orders j) (inl h))
  ahead-better i j m n hi hj si sj (inr h) = outranks-better side (order_at orders i) (order_at orders j) si sj (ahead-outranks side (order_at orders i) (order_at orders j) (inr (h.0, place-rises orders list i j h.1 hj)))

  -- What the first of a settled book shows.

  module _ (before after : ℕ → ℕ) (ys : List Resting) (is : (k : ℕ) → after k ≤ before k) (s : IsFilledInFront orders side before after ys) where
    still-there : (k : ℕ) → k < length orders → side_at orders k ≡ side → 0 < after k → Contains ys (resting_with_amount orders s.amount k)
    still-there k inside of some = s.holds.each k inside of (elim (s.either k) [ inl e ↦ omega arith | inr e ↦ let l = is k in omega arith ])

  pub none-left : (before after : ℕ → ℕ) → ((k : ℕ) → after k ≤ before k) → IsFilledInFront orders side before after [] → (k : ℕ) → k < length orders → side_at orders k ≡ side → after k ≡ 0
  none-left before after is s k inside of = elim (cases_lt 0 (after k)) [
    | inr none ↦ omega arith
    | inl some ↦ let lt = (still-there before after [] is s k inside of some).1 in absurd (omega arith)
  ]

  module _ (before after : ℕ → ℕ) (h : Resting) (ys : List Resting) (is : (k : ℕ) → after k ≤ before k) (s : IsFilledInFront orders side before after (h ∷ ys)) where
    pub first-part : IsRestingOn orders side s.amount h
    first-part = All-head (IsRestingOn orders side s.amount) h ys s.holds.only

    pub first-some : 0 < after h.index
    first-some = let e = s.first_now h refl in let p = first-part.some in omega arith

    -- every other order of which something is left is worse
    later-ahead : (k : ℕ) → k < length orders → side_at orders k ≡ side → 0 < s.amount k → k ≢ h.index → Better orders h.index k
    later-ahead k inside of some ne =
        let c = s.holds.each k inside of some in
        elim (Contains-cases h ys (resting_with_amount orders s.amount k) c) [
          | inl e ↦ absurd (ne (sym (ap (λ (r : Resting). r.index) e)))
          | inr later ↦
              let ahead : IsAheadInBook side h (resting_with_amount orders s.amount k) = All-contains (IsAheadInBook side h) ys (resting_with_amount orders s.amount k) (AllPairs-head (IsAheadInBook side) h ys s.holds.ranked) later in
              ahead-better h.index k (s.amount h.index) (s.amount k) first-part.inside inside first-part.of_side of (subst (λ (r : Resting). IsAheadInBook side r (resting_with_amount orders s.amount k)) first-part.is ahead)
        ]

    pub others-worse : (k : ℕ) → k < length orders → side_at orders k ≡ side → 0 < after k → k ≢ h.index → Better orders h.index k
    others-worse k inside of some ne = later-ahead k inside of (elim (s.either k) [ inl e ↦ omega arith | inr e ↦ let l = is k in omega arith ]) ne

    -- where no order that traded is worse than the first, the book holds what is
    -- left after the record
    pub after_fills-clear : ((k : ℕ) → k < length orders → side_at orders k ≡ side → after k < before k → Better orders h.index k → ⊥) → IsListOfAmounts orders side after (h ∷ ys)
    after_fills-clear clear = hold-same orders side s.amount after (h ∷ ys) (λ k inside of. elim (s.either k) [
      | inl e ↦ sym e
      | inr e ↦ elim (cases_lt (after k) (before k)) [
        | inr same ↦ let l = is k in omega arith
        | inl traded ↦ elim (cases_eq k h.index) [
          | inl at ↦ let now : s.amount k ≡ after k = ap s.amount at ∙ s.first_now h refl ∙ ap after (sym at) in sym now
          | inr ne ↦ absurd (clear k inside of traded (later-ahead k inside of (omega arith) ne))
        ]
      ]
    ]) s.holds

  pub after_fills-empty : (before after : ℕ → ℕ) → ((k : ℕ) → after k ≤ before k) → IsFilledInFront orders side before after [] → IsListOfAmounts orders side after []
  after_fills-empty before after is s = hold-same orders side s.amount after [] (λ k inside of.
      let none = none-left before after is s k inside of in
      elim (cases_lt 0 (s.amount k)) [
        | inr le ↦ omega arith
        | inl some ↦ let lt = (s.holds.each k inside of some).1 in absurd (omega arith)
      ]) s.holds

-- The words of the rule: what rests before place p, and what is left of it after
-- the deals of cause p.

module _ (orders : List Order) (list : IsOrderList orders) (deals : List Deal) (p : ℕ) where
  abbrev past : ℕ → ℕ → ℕ
  past = traded_before orders deals

  abbrev pub rested_now : ℕ → ℕ
  rested_now k = resting_left_before orders past p k

  abbrev pub rested_still : ℕ → ℕ
  rested_still k = resting_left_before orders past p k - traded_at orders deals p k

  pub still-less : (k : ℕ) → rested_still k ≤ rested_now k
  still-less k = omega arith

  -- what passes an order over is what has something left still, and is better
  over-parts : (r x : ℕ) → waits_ahead orders deals p r x ≡ true → (0 < rested_still x) × Better orders x r
  over-parts r x t =
      let outer = and_parts (rests_before_in_ledger orders past p x && nat_lt 0 (left_before_in_ledger orders past (suc p) x)) (better (order_at orders x) (order_at orders r)) t in
      let inner = and_parts (rests_before_in_ledger orders past p x) (nat_lt 0 (left_before_in_ledger orders past (suc p) x)) outer.0 in
      let some = ltb-true 0 (left_before_in_ledger orders past (suc p) x) inner.1 in
      let is = (resting_left-is orders past p x inner.0).0 in
      (omega (arith, traded-more orders deals p x), outer.1)

  over-from : (r x : ℕ) → 0 < rested_still x → Better orders x r → waits_ahead orders deals p r x ≡ true
  over-from r x some over =
      let parts = resting_left-parts orders past p x (omega arith) in
      let is = parts.1 in
      and_from _ _ (and_from _ _ parts.0 (lt-ltb _ _ (omega (arith, traded-more orders deals p x)))) over

  module _ (side : Side) (r : ℕ) (r_inside : r < length orders) (r_side : side_at orders r ≡ side) where
    over-side : (x : ℕ) → x < length orders → waits_ahead orders deals p r x ≡ true → side_at orders x ≡ side
    over-side x lt t = sym (better-side (order_at orders x) (order_at orders r) (over-parts r x t).1) ∙ r_side

    -- an empty book: nothing passes it over
    pub none-over : IsFilledInFront orders side rested_now rested_still [] → any_below (waits_ahead orders deals p r) (length orders) ≡ false
    none-over s = any-none (waits_ahead orders deals p r) (length orders) (λ x lt. false_from_ne_true _ (λ t.
        let none = none-left orders list side rested_now rested_still still-less s x lt (over-side x lt t) in
        let some = (over-parts r x t).0 in
        omega arith))

    module _ (h : Resting) (ys : List Resting) (s : IsFilledInFront orders side rested_now rested_still (h ∷ ys)) where
      part : IsRestingOn orders side s.amount h
      part = first-part orders list side rested_now rested_still h ys still-less s

      first-over : Better orders h.index r → waits_ahead orders deals p r h.index ≡ true
      first-over over = over-from r h.index (first-some orders list side rested_now rested_still h ys still-less s) over

      -- something passes it over exactly where the first does
      pub over-first : any_below (waits_ahead orders deals p r) (length orders) ≡ better (order_at orders h.index) (order_at orders r)
      over-first = elim (cases_Bool (better (order_at orders h.index) (order_at orders r))) [
        | inl t ↦ any-at (waits_ahead orders deals p r) (length orders) h.index part.inside (first-over t) ∙ sym t
        | inr f ↦ any-none (waits_ahead orders deals p r) (length orders) (λ x lt. false_from_ne_true _ (λ u.
            let parts = over-parts r x u in
            both_ways _ f (elim (cases_eq x h.index) [
              | inl e ↦ subst (λ k. Better orders k r) e parts.1
              | inr ne ↦ Better-onward orders h.index x r (others-worse orders list side rested_now rested_still h ys still-less s x lt (over-side x lt u) parts.0 ne) parts.1
            ]))) ∙ sym f
      ]

      -- and then it is the best that does
      pub best-over : better (order_at orders h.index) (order_at orders r) ≡ true → best_order orders (waits_ahead orders deals p r) ≡ Some h.index
      best-over t = is-best orders list (waits_ahead orders deals p r) side over-side h.index (record {
        inside = part.inside;
        passes = first-over t;
        none_better = λ x lt u over. elim (cases_eq x h.index) [
          | inl e ↦ Better-strict orders h.index (subst (λ k. Better orders k h.index) e over)
          | inr ne ↦ Better-one_way orders h.index x (others-worse orders list side rested_now rested_still h ys still-less s x lt (over-side x lt u) (over-parts r x u).0 ne) over
        ];
      })
