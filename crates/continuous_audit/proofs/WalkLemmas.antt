-- What an incoming order trades along the book of the other side, and what rests there afterwards.
use Rattle.std.proofs.Common.{◌≡◌, ◌≢◌, ◌<◌, ◌≤◌, ◌+◌, ◌-◌, ℕ, min, List, [], ◌∷◌, ◌++◌, length, Bool, true, false, cond, Some, None, refl, sym, ap, ◌∙◌, arith, inl, inr, subst}
use Rattle.std.specs.Prelude.{nat_lt, ◌==◌, ◌&&◌}
use Rattle.std.proofs.lemmas.Bool.{cases_Bool, cases_eq, cases_lt, both_ways, lt-ltb, le-ltb, ltb-true, eq-eqb, ne_eqb, and_parts, and_from, and_left, cond-true, cond-false}
use Rattle.std.proofs.lemmas.List.Elements.{All-head, All-contains}
use Rattle.std.proofs.lemmas.List.Sums.{sum_by-cons, sum_by-append}
use Rattle.audit_base.specs.declared.terms.Side.{Side}
use Rattle.audit_base.specs.declared.orders.Order.{Order}
use Rattle.audit_base.specs.Least.{only_if}
use Rattle.audit_base.specs.Sums.{sum_below}
use Rattle.audit_base.specs.Orders.{order_at, side_at, limit_at, same_side, other_side, IsOrderList}
use Rattle.audit_base.specs.Priority.{better}
use Rattle.audit_base.specs.Expected.{limits_meet, orders_meet}
use Rattle.audit_base.proofs.SumLemmas.{AllPairs-head, Contains-cases, below-same, below-add, below-single, below-none}
use Rattle.audit_base.proofs.OrderLemmas.{same_side-is, is-same_side}
use Rattle.audit_base.proofs.PriorityLemmas.{Better-one_way, Better-strict}
use Rattle.order_book.specs.declared.books.Resting.{Resting}
use Rattle.order_book.specs.Books.{IsAheadInBook, after_take}
use Rattle.continuous_audit.specs.declared.fills.Fill.{Fill}
use Rattle.continuous_audit.specs.Fills.{fill_of, quantity_filled, fills_of, next_fill, resting_after_fills, total_filled, trades_with}
use Rattle.continuous_audit.specs.Holding.{IsListOfAmounts, IsRestingOn, resting_with_amount}
use Rattle.continuous_audit.proofs.HoldLemmas.{hold-taken, hold-same}
use Rattle.continuous_audit.proofs.HeadLemmas.{ahead-better}
use Rattle.continuous_audit.proofs.SpreadLemmas.{better-meets, meets-back, meets-twice}

-- One step of the walk.

module _ (side : Side) (limit : ℕ) where
  used-up : (size : ℕ) (x : Resting) → size ≤ 0 → trades_with side limit size x ≡ false
  used-up size x none = and_left (nat_lt 0 size) (limits_meet side limit x.limit) (le-ltb 0 size none)

  pub none-left : (size : ℕ) (xs : List Resting) → size ≤ 0 → (fills_of side limit size xs ≡ []) × (resting_after_fills side limit size xs ≡ xs)
  none-left size [] none = (refl, refl)
  none-left size (x ∷ xs) none = let f = used-up size x none in (cond-false _ _ _ f, cond-false _ _ _ f)

  fill-here : (b : Bool) (f g : Fill) → only_if b f ≡ Some g → (b ≡ true) × (f ≡ g)
  fill-here true f g e = (refl, cc)
  fill-here false f g e = cc

  no-fill : (b : Bool) (f : Fill) → only_if b f ≡ None → b ≡ false
  no-fill true f e = cc
  no-fill false f e = refl

  pub walk-step : (size : ℕ) (xs : List Resting) (f : Fill) → next_fill side limit size xs ≡ Some f
      → (fills_of side limit size xs ≡ f ∷ fills_of side limit (size - f.quantity) (after_take f.quantity xs))
      × (resting_after_fills side limit size xs ≡ resting_after_fills side limit (size - f.quantity) (after_take f.quantity xs))
  walk-step size [] f e = absurd (cc)
  walk-step size (x ∷ xs) f e =
      let here = fill-here (trades_with side limit size x) (fill_of size x) f e in
      let is : f ≡ fill_of size x = sym here.1 in
      let q : f.quantity ≡ min size x.left = ap (λ (g : Fill). g.quantity) is in
      let fills : fills_of side limit size (x ∷ xs) ≡ fill_of size x ∷ fills_of side limit (size - x.left) xs = cond-true _ _ _ here.0 in
      let rest : resting_after_fills side limit size (x ∷ xs) ≡ cond (nat_lt size x.left) (record x { left = x.left - size } ∷ xs) (resting_after_fills side limit (size - x.left) xs) = cond-true _ _ _ here.0 in
      elim (cases_lt size x.left) [
        | inl less ↦
            let t : nat_lt size x.left ≡ true = lt-ltb size x.left less in
            let all : f.quantity ≡ size = omega arith in
            let y : Resting = record x { left = x.left - size } in
            let taken : after_take f.quantity (x ∷ xs) ≡ y ∷ xs = ap (λ (n : ℕ). after_take n (x ∷ xs)) all ∙ cond-true _ _ _ t in
            let end = none-left (size - f.quantity) (after_take f.quantity (x ∷ xs)) (omega arith) in
            let gone = none-left (size - x.left) xs (omega arith) in
            (fills ∙ (λ i. sym is i ∷ (gone.0 ∙ sym end.0) i), rest ∙ cond-true _ _ _ t ∙ sym taken ∙ sym end.1)
        | inr more ↦
            let t : nat_lt size x.left ≡ false = le-ltb size x.left more in
            let all : f.quantity ≡ x.left = omega arith in
            let taken : after_take f.quantity (x ∷ xs) ≡ xs = cond-false _ _ _ (le-ltb f.quantity x.left (omega arith)) in
            (fills ∙ (λ i. sym is i ∷ fills_of side limit (size - sym all i) (sym taken i)), rest ∙ cond-false _ _ _ t ∙ (λ i. resting_after_fills side limit (size - sym all i) (sym taken i)))
      ]

  pub walk-end : (size : ℕ) (xs : List Resting) → next_fill side limit size xs ≡ None → (fills_of side limit size xs ≡ []) × (resting_after_fills side limit size xs ≡ xs)
  walk-end size [] e = (refl, refl)
  walk-end size (x ∷ xs) e = let f = no-fill (trades_with side limit size x) (fill_of size x) e in (cond-false _ _ _ f, cond-false _ _ _ f)

  behind-one : (fills zs : List Fill) (f : Fill) → (fills ++ f ∷ []) ++ zs ≡ fills ++ f ∷ zs
  behind-one [] zs f = refl
  behind-one (g ∷ fills) zs f = ap (λ (gs : List Fill). g ∷ gs) (behind-one fills zs f)

  -- the same, in the words of the code
  pub walk-more : (size : ℕ) (xs ys : List Resting) (fills new : List Fill) (f : Fill) → next_fill side limit size xs ≡ Some f → new ≡ fills ++ f ∷ [] → ys ≡ after_take f.quantity xs
      → (new ++ fills_of side limit (size - f.quantity) ys ≡ fills ++ fills_of side limit size xs)
      × (resting_after_fills side limit (size - f.quantity) ys ≡ resting_after_fills side limit size xs) × (total_filled new ≡ total_filled fills + f.quantity)
  walk-more size xs ys fills new f e pushed taken =
      let step = walk-step size xs f e in (
        (λ i. pushed i ++ fills_of side limit (size - f.quantity) (taken i)) ∙ behind-one fills (fills_of side limit (size - f.quantity) (after_take f.quantity xs)) f ∙ ap (λ (gs : List Fill). fills ++ gs) (sym step.0),
        ap (resting_after_fills side limit (size - f.quantity)) taken ∙ sym step.1,
        ap total_filled pushed ∙ sum_by-append (λ (g : Fill). g.quantity) fills (f ∷ []) ∙ (let one = sum_by-cons (λ (g : Fill). g.quantity) f [] in omega arith),
      )

-- What rests afterwards: what rested before, less what is filled.

pub filled-cons : (f : Fill) (fills : List Fill) (k : ℕ) → quantity_filled (f ∷ fills) k ≡ cond (f.index == k) f.quantity 0 + quantity_filled fills k
filled-cons f fills k = sum_by-cons (λ (g : Fill). cond (g.index == k) g.quantity 0) f fills

filled-same : (xs ys : List Fill) (k : ℕ) → xs ≡ ys → quantity_filled xs k ≡ quantity_filled ys k
filled-same xs ys k e = ap (λ (gs : List Fill). quantity_filled gs k) e

module _ (orders : List Order) (side : Side) (t : Side) (limit : ℕ) where
  pub walk-holds : (amount : ℕ → ℕ) (size : ℕ) (xs : List Resting) → IsListOfAmounts orders t amount xs → IsListOfAmounts orders t (λ k. amount k - quantity_filled (fills_of side limit size xs) k) (resting_after_fills side limit size xs)
  walk-holds amount size [] holds = hold-same orders t amount (λ k. amount k - 0) [] (λ k lt of. omega arith) holds
  walk-holds amount size (x ∷ xs) holds = elim (cases_Bool (trades_with side limit size x)) [
    | inr f ↦
        let none : fills_of side limit size (x ∷ xs) ≡ [] = cond-false _ _ _ f in
        let same : resting_after_fills side limit size (x ∷ xs) ≡ x ∷ xs = cond-false _ _ _ f in
        subst (IsListOfAmounts orders t (λ k. amount k - quantity_filled (fills_of side limit size (x ∷ xs)) k)) (sym same)
        (hold-same orders t amount (λ k. amount k - quantity_filled (fills_of side limit size (x ∷ xs)) k) (x ∷ xs) (λ k lt of. let z : quantity_filled (fills_of side limit size (x ∷ xs)) k ≡ 0 = filled-same _ _ k none in omega arith) holds)
    | inl h ↦
        let j = x.index in
        let part : IsRestingOn orders t amount x = All-head (IsRestingOn orders t amount) x xs holds.only in
        let left-is : x.left ≡ amount j = ap (λ (r : Resting). r.left) part.is in
        let now : ℕ → ℕ = λ k. cond (k == j) (amount j - size) (amount k) in
        let at : now j ≡ amount j - size = cond-true (j == j) (amount j - size) (amount j) (eq-eqb j j refl) in
        let away : (k : ℕ) → k ≢ j → now k ≡ amount k = λ k ne. cond-false (k == j) (amount j - size) (amount k) (ne_eqb k j ne) in
        let held : IsListOfAmounts orders t now (after_take size (x ∷ xs)) = hold-taken orders t amount now j (λ k inside of ne. away k ne) x xs size holds refl at in
        let later = fills_of side limit (size - x.left) xs in
        let fills : fills_of side limit size (x ∷ xs) ≡ fill_of size x ∷ later = cond-true _ _ _ h in
        let all : (k : ℕ) → quantity_filled (fills_of side limit size (x ∷ xs)) k ≡ cond (j == k) (min size x.left) 0 + quantity_filled later k = λ k. filled-same _ _ k fills ∙ filled-cons (fill_of size x) later k in
        let own : (k : ℕ) → k ≡ j → cond (j == k) (min size x.left) 0 ≡ min size x.left = λ k e. cond-true (j == k) (min size x.left) 0 (eq-eqb j k (sym e)) in
        let others : (k : ℕ) → k ≢ j → cond (j == k) (min size x.left) 0 ≡ 0 = λ k ne. cond-false (j == k) (min size x.left) 0 (ne_eqb j k (λ e. ne (sym e))) in
        elim (cases_lt size x.left) [
          | inl less ↦
              let b : nat_lt size x.left ≡ true = lt-ltb size x.left less in
              let taken : after_take size (x ∷ xs) ≡ record x { left = x.left - size } ∷ xs = cond-true _ _ _ b in
              let rest : resting_after_fills side limit size (x ∷ xs) ≡ record x { left = x.left - size } ∷ xs = cond-true _ _ _ h ∙ cond-true _ _ _ b in
              let gone : (k : ℕ) → quantity_filled later k ≡ 0 = λ k. filled-same _ _ k (none-left side limit (size - x.left) xs (omega arith)).0 in
              subst (IsListOfAmounts orders t (λ k. amount k - quantity_filled (fills_of side limit size (x ∷ xs)) k)) (taken ∙ sym rest)
              (hold-same orders t now (λ k. amount k - quantity_filled (fills_of side limit size (x ∷ xs)) k) (after_take size (x ∷ xs)) (λ k lt of. elim (cases_eq k j) [
                | inl e ↦ let a = all k in let g = gone k in let o = own k e in let w : now k ≡ amount k - size = ap now e ∙ at ∙ ap (λ (m : ℕ). amount m - size) (sym e) in omega arith
                | inr ne ↦ let a = all k in let g = gone k in let o = others k ne in let w = away k ne in omega arith
              ]) held)
          | inr more ↦
              let b : nat_lt size x.left ≡ false = le-ltb size x.left more in
              let taken : after_take size (x ∷ xs) ≡ xs = cond-false _ _ _ b in
              let rest : resting_after_fills side limit size (x ∷ xs) ≡ resting_after_fills side limit (size - x.left) xs = cond-true _ _ _ h ∙ cond-false _ _ _ b in
              let ih = walk-holds now (size - x.left) xs (subst (IsListOfAmounts orders t now) taken held) in
              subst (IsListOfAmounts orders t (λ k. amount k - quantity_filled (fills_of side limit size (x ∷ xs)) k)) (sym rest)
              (hold-same orders t (λ k. now k - quantity_filled later k) (λ k. amount k - quantity_filled (fills_of side limit size (x ∷ xs)) k) (resting_after_fills side limit (size - x.left) xs) (λ k lt of. elim (cases_eq k j) [
                | inl e ↦ let a = all k in let o = own k e in let w : now k ≡ amount k - size = ap now e ∙ at ∙ ap (λ (m : ℕ). amount m - size) (sym e) in let l : amount k ≡ x.left = ap amount e ∙ sym left-is in omega arith
                | inr ne ↦ let a = all k in let o = others k ne in let w = away k ne in omega arith
              ]) ih)
        ]
  ]

-- What is filled of each order is its share: the smaller of what rests of it, and what the better
-- ones leave of the size.

module _ (orders : List Order) (list : IsOrderList orders) (n : ℕ) where
  abbrev s : Side
  s = side_at orders n

  abbrev l : ℕ
  l = limit_at orders n

  abbrev t : Side
  t = other_side s

  -- what the order at n finds of one of which this much rests, and of those that are better
  abbrev pub found_of : (ℕ → ℕ) → ℕ → ℕ
  found_of amount k = cond (orders_meet (order_at orders n) (order_at orders k)) (amount k) 0

  abbrev pub found_ahead : (ℕ → ℕ) → ℕ → ℕ
  found_ahead amount k = sum_below (λ j. cond (better (order_at orders j) (order_at orders k)) (found_of amount j) 0) (length orders)

  meets-held : (amount : ℕ → ℕ) (x : Resting) → IsRestingOn orders t amount x → orders_meet (order_at orders n) (order_at orders x.index) ≡ limits_meet s l x.limit
  meets-held amount x p =
      ap (λ (b : Bool). b && limits_meet s l (limit_at orders x.index)) (is-same_side t (side_at orders x.index) (sym p.of_side))
      ∙ ap (limits_meet s l) (sym (ap (λ (r : Resting). r.limit) p.is))

  meets-side : (k : ℕ) → orders_meet (order_at orders n) (order_at orders k) ≡ true → side_at orders k ≡ t
  meets-side k m = same_side-is t (side_at orders k) (and_parts (same_side t (side_at orders k)) _ m).0

  -- in the list, each but the first is behind it
  behind-first : (amount : ℕ → ℕ) (x : Resting) (xs : List Resting) → IsListOfAmounts orders t amount (x ∷ xs) → (k : ℕ) → k < length orders → side_at orders k ≡ t → 0 < amount k → k ≢ x.index
      → better (order_at orders x.index) (order_at orders k) ≡ true
  behind-first amount x xs holds k inside of some ne =
      let part : IsRestingOn orders t amount x = All-head (IsRestingOn orders t amount) x xs holds.only in
      elim (Contains-cases x xs (resting_with_amount orders amount k) (holds.each k inside of some)) [
        | inl e ↦ absurd (ne (sym (ap (λ (r : Resting). r.index) e)))
        | inr c ↦
            let ahead : IsAheadInBook t x (resting_with_amount orders amount k) = All-contains (IsAheadInBook t x) xs (resting_with_amount orders amount k) (AllPairs-head (IsAheadInBook t) x xs holds.ranked) c in
            ahead-better orders list t x.index k (amount x.index) (amount k) part.inside inside part.of_side of (subst (λ (r : Resting). IsAheadInBook t r (resting_with_amount orders amount k)) part.is ahead)
      ]

  nothing : (b : Bool) → cond {A = ℕ} b 0 0 ≡ 0
  nothing true = refl
  nothing false = refl

  found-parts : (amount : ℕ → ℕ) (k : ℕ) → 0 < found_of amount k → (orders_meet (order_at orders n) (order_at orders k) ≡ true) × (0 < amount k)
  found-parts amount k some = elim (cases_Bool (orders_meet (order_at orders n) (order_at orders k))) [
    | inl m ↦ (m, let e : found_of amount k ≡ amount k = cond-true _ (amount k) 0 m in omega arith)
    | inr f ↦ let e : found_of amount k ≡ 0 = cond-false _ (amount k) 0 f in absurd (omega arith)
  ]

  -- where some order of the list meets, the first does
  first-meets : (amount : ℕ → ℕ) (x : Resting) (xs : List Resting) → IsListOfAmounts orders t amount (x ∷ xs) → (k : ℕ) → k < length orders → orders_meet (order_at orders n) (order_at orders k) ≡ true → 0 < amount k → limits_meet s l x.limit ≡ true
  first-meets amount x xs holds k inside m some =
      let part : IsRestingOn orders t amount x = All-head (IsRestingOn orders t amount) x xs holds.only in
      let of = meets-side k m in
      let meet : limits_meet s l (limit_at orders k) ≡ true = (and_parts (same_side t (side_at orders k)) (limits_meet s l (limit_at orders k)) m).1 in
      elim (cases_eq k x.index) [
        | inl e ↦ ap (limits_meet s l) (ap (λ (r : Resting). r.limit) part.is ∙ ap (limit_at orders) (sym e)) ∙ meet
        | inr ne ↦
            let over = behind-first amount x xs holds k inside of some ne in
            ap (limits_meet s l) (ap (λ (r : Resting). r.limit) part.is)
            ∙ meets-twice s l (limit_at orders x.index) (better-meets t (order_at orders x.index) (order_at orders k) l part.of_side over (meets-back s l (limit_at orders k) meet))
      ]

  -- what is found ahead, with and without the first
  ahead-split : (amount now : ℕ → ℕ) (j k : ℕ) → now j ≡ 0 → ((i : ℕ) → i ≢ j → now i ≡ amount i) → j < length orders → better (order_at orders j) (order_at orders k) ≡ true
      → found_ahead amount k ≡ found_of amount j + found_ahead now k
  ahead-split amount now j k at away j_inside over =
      let g : ℕ → ℕ = λ i. cond (better (order_at orders i) (order_at orders k)) (found_of amount i) 0 in
      let g' : ℕ → ℕ = λ i. cond (better (order_at orders i) (order_at orders k)) (found_of now i) 0 in
      let one : ℕ → ℕ = λ i. cond (i == j) (found_of amount j) 0 in
      let each : sum_below g (length orders) ≡ sum_below (λ i. one i + g' i) (length orders) = below-same g (λ i. one i + g' i) (length orders) (λ i lt. elim (cases_eq i j) [
        | inl e ↦
            let a : one i ≡ found_of amount j = cond-true (i == j) (found_of amount j) 0 (eq-eqb i j e) in
            let b : g i ≡ found_of amount j = ap g e ∙ cond-true _ (found_of amount j) 0 over in
            let c : g' i ≡ 0 = ap g' e ∙ cond-true _ (found_of now j) 0 over ∙ ap (λ (m : ℕ). cond (orders_meet (order_at orders n) (order_at orders j)) m 0) at ∙ nothing (orders_meet (order_at orders n) (order_at orders j)) in
            omega arith
        | inr ne ↦
            let a : one i ≡ 0 = cond-false (i == j) (found_of amount j) 0 (ne_eqb i j ne) in
            let b : g' i ≡ g i = ap (λ (m : ℕ). cond (better (order_at orders i) (order_at orders k)) (cond (orders_meet (order_at orders n) (order_at orders i)) m 0) 0) (away i ne) in
            omega arith
      ]) in
      let single : sum_below one (length orders) ≡ one j = below-single one (length orders) j j_inside (λ i lt ne. cond-false (i == j) (found_of amount j) 0 (ne_eqb i j ne)) in
      let here : one j ≡ found_of amount j = cond-true (j == j) (found_of amount j) 0 (eq-eqb j j refl) in
      let sum = below-add one g' (length orders) in
      omega arith

  pub share-filled : (amount : ℕ → ℕ) (size : ℕ) (xs : List Resting) → IsListOfAmounts orders t amount xs → (k : ℕ) → k < length orders
      → quantity_filled (fills_of s l size xs) k ≡ min (found_of amount k) (size - found_ahead amount k)
  share-filled amount size [] holds k inside = elim (cases_lt 0 (found_of amount k)) [
    | inr none ↦ omega arith
    | inl some ↦
        let m = found-parts amount k some in
        let c = holds.each k inside (meets-side k m.0) m.1 in
        let lt = c.1 in
        absurd (omega arith)
  ]
  share-filled amount size (x ∷ xs) holds k inside = elim (cases_Bool (trades_with s l size x)) [
    | inr f ↦
        let none : quantity_filled (fills_of s l size (x ∷ xs)) k ≡ 0 = filled-same _ _ k (cond-false _ _ _ f) in
        elim (cases_lt 0 (found_of amount k)) [
          | inr nothing ↦ omega arith
          | inl some ↦ elim (cases_lt 0 size) [
            | inr zero_size ↦ omega arith
            | inl more ↦
                let m = found-parts amount k some in
                let apart : limits_meet s l x.limit ≡ false = elim (cases_Bool (limits_meet s l x.limit)) [
                  | inl yes_meet ↦ absurd (both_ways _ f (and_from _ _ (lt-ltb 0 size more) yes_meet))
                  | inr no_meet ↦ no_meet
                ] in
                absurd (both_ways _ apart (first-meets amount x xs holds k inside m.0 m.1))
          ]
        ]
    | inl h ↦
        let j = x.index in
        let parts = and_parts (nat_lt 0 size) (limits_meet s l x.limit) h in
        let more : 0 < size = ltb-true 0 size parts.0 in
        let part : IsRestingOn orders t amount x = All-head (IsRestingOn orders t amount) x xs holds.only in
        let left-is : x.left ≡ amount j = ap (λ (r : Resting). r.left) part.is in
        let now : ℕ → ℕ = λ k. cond (k == j) 0 (amount k) in
        let at : now j ≡ 0 = cond-true (j == j) 0 (amount j) (eq-eqb j j refl) in
        let away : (k : ℕ) → k ≢ j → now k ≡ amount k = λ k ne. cond-false (k == j) 0 (amount k) (ne_eqb k j ne) in
        let held : IsListOfAmounts orders t now xs = subst (IsListOfAmounts orders t now) (cond-false _ _ _ (le-ltb x.left x.left (omega arith))) (hold-taken orders t amount now j (λ k lt of ne. away k ne) x xs x.left holds refl (omega arith)) in
        let later = fills_of s l (size - x.left) xs in
        let fills : fills_of s l size (x ∷ xs) ≡ fill_of size x ∷ later = cond-true _ _ _ h in
        let all : quantity_filled (fills_of s l size (x ∷ xs)) k ≡ cond (j == k) (min size x.left) 0 + quantity_filled later k = filled-same _ _ k fills ∙ filled-cons (fill_of size x) later k in
        let ih = share-filled now (size - x.left) xs held k inside in
        let own-found : found_of amount j ≡ x.left = cond-true _ (amount j) 0 (meets-held amount x part ∙ parts.1) ∙ sym left-is in
        elim (cases_eq k j) [
          | inl e ↦
              let one : cond (j == k) (min size x.left) 0 ≡ min size x.left = cond-true (j == k) (min size x.left) 0 (eq-eqb j k (sym e)) in
              let gone : found_of now k ≡ 0 = ap (λ (m : ℕ). cond (orders_meet (order_at orders n) (order_at orders k)) m 0) (ap now e ∙ at) ∙ nothing (orders_meet (order_at orders n) (order_at orders k)) in
              let found : found_of amount k ≡ x.left = ap (found_of amount) e ∙ own-found in
              let ahead : found_ahead amount k ≡ 0 = below-none _ (length orders) (λ i lt. elim (cases_lt 0 (found_of amount i)) [
                | inr z ↦ ap (λ (m : ℕ). cond (better (order_at orders i) (order_at orders k)) m 0) (let w : found_of amount i ≡ 0 = omega arith in w) ∙ nothing (better (order_at orders i) (order_at orders k))
                | inl some ↦
                    let m = found-parts amount i some in
                    elim (cases_Bool (better (order_at orders i) (order_at orders k))) [
                      | inr f ↦ cond-false _ (found_of amount i) 0 f
                      | inl over ↦ elim (cases_eq i j) [
                        | inl same ↦ absurd (Better-strict orders i (subst (λ (m : ℕ). better (order_at orders i) (order_at orders m) ≡ true) (e ∙ sym same) over))
                        | inr ne ↦ absurd (Better-one_way orders i k over (subst (λ (m : ℕ). better (order_at orders m) (order_at orders i) ≡ true) (sym e) (behind-first amount x xs holds i lt (meets-side i m.0) m.1 ne)))
                      ]
                    ]
              ]) in
              omega arith
          | inr ne ↦
              let one : cond (j == k) (min size x.left) 0 ≡ 0 = cond-false (j == k) (min size x.left) 0 (ne_eqb j k (λ e. ne (sym e))) in
              let found : found_of now k ≡ found_of amount k = ap (λ (m : ℕ). cond (orders_meet (order_at orders n) (order_at orders k)) m 0) (away k ne) in
              elim (cases_lt 0 (found_of amount k)) [
                | inr z ↦ omega arith
                | inl some ↦
                    let m = found-parts amount k some in
                    let over = behind-first amount x xs holds k inside (meets-side k m.0) m.1 ne in
                    let sums : found_ahead amount k ≡ x.left + found_ahead now k = ahead-split amount now j k at away part.inside over ∙ ap (λ (m : ℕ). m + found_ahead now k) own-found in
                    omega arith
              ]
        ]
  ]
