-- What is in the list of what an incoming order trades.
use Rattle.std.proofs.Common.{◌≡◌, ◌≢◌, ◌<◌, ◌≤◌, ◌+◌, ◌-◌, ℕ, min, suc, List, [], ◌∷◌, length, take, get_or, Bool, true, false, cond, refl, sym, ap, ◌∙◌, arith, inl, inr, subst, All, AllPairs}
use Rattle.std.specs.Prelude.{nat_lt, ◌==◌, Contains}
use Rattle.std.proofs.lemmas.Bool.{cases_Bool, cases_lt, lt-ltb, le-ltb, ltb-true, eq-eqb, ne_eqb, eqb-true, and_parts, cond-true, cond-false}
use Rattle.std.proofs.lemmas.List.Elements.{All-nil, All-head, All-tail, All-cons, All-weaker, All-contains_itself}
use Rattle.std.proofs.lemmas.List.Sums.{sum_by-cons, sum_by_more_le_part}
use Rattle.audit_base.specs.declared.terms.Side.{Side}
use Rattle.audit_base.specs.declared.orders.Order.{Order}
use Rattle.audit_base.specs.Sums.{sum_below}
use Rattle.audit_base.proofs.SumLemmas.{AllPairs-head, AllPairs-tail, AllPairs-cons, sum_by-below, below-single, some_part, sum_by-same}
use Rattle.order_book.specs.declared.books.Resting.{Resting}
use Rattle.order_book.specs.Books.{IsAheadInBook}
use Rattle.continuous_audit.specs.declared.fills.Fill.{Fill}
use Rattle.continuous_audit.specs.Fills.{fill_of, quantity_filled, fills_of, resting_after_fills, total_filled, trades_with}
use Rattle.continuous_audit.specs.Holding.{IsRestingOn}
use Rattle.continuous_audit.proofs.HoldLemmas.{parts-apart}
use Rattle.continuous_audit.proofs.WalkLemmas.{none-left, filled-cons}

-- the fills so far and the next are within all of them
pub filled-next : (fills : List Fill) (i k : ℕ) (d : Fill) → i < length fills → quantity_filled (take i fills) k + (get_or fills i d).quantity ≤ total_filled fills
filled-next fills i k d lt = sum_by_more_le_part (λ (f : Fill). cond (f.index == k) f.quantity 0) (λ (f : Fill). f.quantity) fills i d lt (λ f. part (f.index == k) f.quantity)
  where
    part : (b : Bool) (q : ℕ) → cond b q 0 ≤ q
    part true q = omega arith
    part false q = omega arith

-- all that is filled is what is filled of each order below a count
pub total-by-order : (fills : List Fill) (count : ℕ) → All (λ f. f.index < count) fills → sum_below (quantity_filled fills) count ≡ total_filled fills
total-by-order fills count inside =
    sym (sum_by-below (λ (f : Fill) (i : ℕ). cond (f.index == i) f.quantity 0) fills count)
    ∙ sum_by-same (λ (f : Fill). sum_below (λ i. cond (f.index == i) f.quantity 0) count) (λ (f : Fill). f.quantity) fills (λ k d lt.
    let f = get_or fills k d in
    below-single (λ i. cond (f.index == i) f.quantity 0) count f.index (inside k d lt) (λ i below ne. cond-false (f.index == i) f.quantity 0 (ne_eqb f.index i (λ e. ne (sym e))))
    ∙ cond-true (f.index == f.index) f.quantity 0 (eq-eqb f.index f.index refl))

-- where no two fills are of one order, each is all that is filled of its order
filled-off : (fills : List Fill) (k : ℕ) → All (λ (f : Fill). f.index ≢ k) fills → quantity_filled fills k ≡ 0
filled-off [] k off = refl
filled-off (f ∷ fills) k off =
    let here : cond (f.index == k) f.quantity 0 ≡ 0 = cond-false (f.index == k) f.quantity 0 (ne_eqb f.index k (All-head (λ (f : Fill). f.index ≢ k) f fills off)) in
    let rest = filled-off fills k (All-tail (λ (f : Fill). f.index ≢ k) f fills off) in
    let sum = filled-cons f fills k in
    omega arith

abbrev pub FillsDiffer : Fill → Fill → Type 0
FillsDiffer f g = f.index ≢ g.index

pub own-filled : (fills : List Fill) → AllPairs FillsDiffer fills → All (λ f. f.quantity ≡ quantity_filled fills f.index) fills
own-filled [] apart = All-nil (λ (f : Fill). f.quantity ≡ quantity_filled [] f.index)
own-filled (f ∷ fills) apart =
    let behind = AllPairs-head FillsDiffer f fills apart in
    let here : f.quantity ≡ quantity_filled (f ∷ fills) f.index =
    let none = filled-off fills f.index (λ k d lt e. behind k d lt (sym e)) in
    let one : cond (f.index == f.index) f.quantity 0 ≡ f.quantity = cond-true (f.index == f.index) f.quantity 0 (eq-eqb f.index f.index refl) in
    let sum = filled-cons f fills f.index in omega arith in
    let later : All (λ g. g.quantity ≡ quantity_filled (f ∷ fills) g.index) fills = λ k d lt.
    let g = get_or fills k d in
    let is : g.quantity ≡ quantity_filled fills g.index = own-filled fills (AllPairs-tail FillsDiffer f fills apart) k d lt in
    let off : cond (f.index == g.index) f.quantity 0 ≡ 0 = cond-false (f.index == g.index) f.quantity 0 (ne_eqb f.index g.index (behind k d lt)) in
    let sum = filled-cons f fills g.index in omega arith in
    All-cons (λ g. g.quantity ≡ quantity_filled (f ∷ fills) g.index) f fills here later

-- where something is filled of an order, some fill is of it
pub some-filled : (fills : List Fill) (k : ℕ) → 0 < quantity_filled fills k → (f : Fill) × Contains fills f × (f.index ≡ k)
some-filled fills k some =
    let found = some_part (Contains fills) (λ (f : Fill). f.index == k) (λ (f : Fill). f.quantity) fills (All-contains_itself fills) some in
    (found.0, found.1, eqb-true found.0.index k found.2)

module _ (side : Side) (limit : ℕ) where
  -- what holds of each order that rests holds of each that is filled
  pub fills-all : (Q : ℕ → Type 0) (size : ℕ) (xs : List Resting) → All (λ r. Q r.index) xs → All (λ f. Q f.index) (fills_of side limit size xs)
  fills-all Q size [] all = All-nil (λ (f : Fill). Q f.index)
  fills-all Q size (x ∷ xs) all = elim (cases_Bool (trades_with side limit size x)) [
    | inr f ↦ subst (All (λ (g : Fill). Q g.index)) (sym (cond-false _ _ _ f)) (All-nil (λ (g : Fill). Q g.index))
    | inl h ↦ subst (All (λ (g : Fill). Q g.index)) (sym (cond-true _ _ _ h))
        (All-cons (λ (g : Fill). Q g.index) (fill_of size x) (fills_of side limit (size - x.left) xs) (All-head (λ (r : Resting). Q r.index) x xs all) (fills-all Q (size - x.left) xs (All-tail (λ (r : Resting). Q r.index) x xs all)))
  ]

  -- each quantity is above 0 and within the size
  pub record IsInSize (size : ℕ) (f : Fill) : Type 0 where
    pub some : 0 < f.quantity
    pub most : f.quantity ≤ size

  pub fills-in_size : (size : ℕ) (xs : List Resting) → All (λ r. 0 < r.left) xs → All (IsInSize size) (fills_of side limit size xs)
  fills-in_size size [] held = All-nil (IsInSize size)
  fills-in_size size (x ∷ xs) held = elim (cases_Bool (trades_with side limit size x)) [
    | inr f ↦ subst (All (IsInSize size)) (sym (cond-false _ _ _ f)) (All-nil (IsInSize size))
    | inl h ↦
        let more : 0 < size = ltb-true 0 size (and_parts (nat_lt 0 size) _ h).0 in
        let some = All-head (λ (r : Resting). 0 < r.left) x xs held in
        let later = fills-in_size (size - x.left) xs (All-tail (λ (r : Resting). 0 < r.left) x xs held) in
        subst (All (IsInSize size)) (sym (cond-true _ _ _ h))
        (All-cons (IsInSize size) (fill_of size x) (fills_of side limit (size - x.left) xs) (record { some = omega arith; most = omega arith })
        (All-weaker (IsInSize (size - x.left)) (IsInSize size) (λ f is. let m = is.most in record { some = is.some; most = omega arith }) (fills_of side limit (size - x.left) xs) later))
  ]

  -- no two are of one order
  pub fills-apart : (orders : List Order) (t : Side) (amount : ℕ → ℕ) (size : ℕ) (xs : List Resting) → All (IsRestingOn orders t amount) xs → AllPairs (IsAheadInBook t) xs → AllPairs FillsDiffer (fills_of side limit size xs)
  fills-apart orders t amount size [] parts ranked = λ i j d lt below. absurd (omega arith)
  fills-apart orders t amount size (x ∷ xs) parts ranked = elim (cases_Bool (trades_with side limit size x)) [
    | inr f ↦ subst (AllPairs FillsDiffer) (sym (cond-false _ _ _ f)) (λ i j d lt below. absurd (omega arith))
    | inl h ↦
        let here = All-head (IsRestingOn orders t amount) x xs parts in
        let later = All-tail (IsRestingOn orders t amount) x xs parts in
        let behind = AllPairs-head (IsAheadInBook t) x xs ranked in
        let off : All (λ (r : Resting). x.index ≢ r.index) xs = λ k d lt e. parts-apart orders t amount x (get_or xs k d) here (later k d lt) (behind k d lt) (sym e) in
        subst (AllPairs FillsDiffer) (sym (cond-true _ _ _ h))
        (AllPairs-cons FillsDiffer (fill_of size x) (fills_of side limit (size - x.left) xs) (fills-all (λ i. x.index ≢ i) (size - x.left) xs off)
        (fills-apart orders t amount (size - x.left) xs later (AllPairs-tail (IsAheadInBook t) x xs ranked)))
  ]

  -- each fill takes an order out of the book, but for one that uses the size up
  pub walk-count : (size : ℕ) (xs : List Resting) → length (fills_of side limit size xs) + length (resting_after_fills side limit size xs) + min 1 (size - total_filled (fills_of side limit size xs)) ≤ length xs + 1
  walk-count size [] = omega arith
  walk-count size (x ∷ xs) = elim (cases_Bool (trades_with side limit size x)) [
    | inr f ↦
        let a : length (fills_of side limit size (x ∷ xs)) ≡ 0 = ap (λ (gs : List Fill). length gs) (cond-false _ _ _ f) in
        let b : length (resting_after_fills side limit size (x ∷ xs)) ≡ suc (length xs) = ap (λ (ys : List Resting). length ys) (cond-false _ _ _ f) in
        omega arith
    | inl h ↦
        let later = fills_of side limit (size - x.left) xs in
        let fills : fills_of side limit size (x ∷ xs) ≡ fill_of size x ∷ later = cond-true _ _ _ h in
        let a : length (fills_of side limit size (x ∷ xs)) ≡ suc (length later) = ap (λ (gs : List Fill). length gs) fills in
        let sum : total_filled (fills_of side limit size (x ∷ xs)) ≡ min size x.left + total_filled later = ap total_filled fills ∙ sum_by-cons (λ (g : Fill). g.quantity) (fill_of size x) later in
        elim (cases_lt size x.left) [
          | inl less ↦
              let b : length (resting_after_fills side limit size (x ∷ xs)) ≡ suc (length xs) = ap (λ (ys : List Resting). length ys) (cond-true _ _ _ h ∙ cond-true _ _ _ (lt-ltb size x.left less)) in
              let none : length later ≡ 0 = ap (λ (gs : List Fill). length gs) (none-left side limit (size - x.left) xs (omega arith)).0 in
              omega arith
          | inr more ↦
              let b : length (resting_after_fills side limit size (x ∷ xs)) ≡ length (resting_after_fills side limit (size - x.left) xs) = ap (λ (ys : List Resting). length ys) (cond-true _ _ _ h ∙ cond-false _ _ _ (le-ltb size x.left more)) in
              let ih = walk-count (size - x.left) xs in
              omega arith
        ]
  ]
