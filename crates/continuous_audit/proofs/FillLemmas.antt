-- What a book holds once its best orders are settled.
use Rattle.std.proofs.Common.{◌≡◌, ◌<◌, ◌≤◌, ℕ, List, [], ◌∷◌, true, Some, IfSome, refl, sym, ap, ◌∙◌, arith, subst, All}
use Rattle.std.specs.Prelude.{nat_lt}
use Rattle.std.proofs.lemmas.Bool.{lt-ltb, le-ltb, cond-true, cond-false}
use Rattle.order_book.specs.declared.books.Resting.{Resting}
use Rattle.std.proofs.lemmas.List.Elements.{All-tail}
use Rattle.audit_base.specs.Deals.{number_at}
use Rattle.order_book.specs.Books.{best_resting}
use Rattle.continuous_audit.specs.Holding.{IsWithinBook, after_fills, with_best_left}

pub same-lessened : (xs : List Resting) (left now : ℕ) → IfSome (best_resting xs) (λ r. r.left ≡ left) → 0 < left → now ≤ left → left ≤ now → xs ≡ with_best_left now xs
same-lessened [] left now h some le ge = refl
same-lessened (x ∷ xs) left now h some le ge =
    let same : x.left ≡ now = h ∙ (omega arith) in
    let t : nat_lt 0 now ≡ true = lt-ltb 0 now (omega arith) in
    let is : x ≡ record x { left = now } = ap (λ (n : ℕ). record x { left = n }) same in
    ap (λ (y : Resting). y ∷ xs) is ∙ sym (cond-true (nat_lt 0 now) (record x { left = now } ∷ xs) xs t)

-- one step of settling
pub after_fills-more : (left : ℕ → ℕ) (x : Resting) (xs : List Resting) → left x.index ≡ 0 → after_fills left (x ∷ xs) ≡ after_fills left xs
after_fills-more left x xs e = cond-false (nat_lt 0 (left x.index)) (record x { left = left x.index } ∷ xs) (after_fills left xs) (le-ltb 0 (left x.index) (omega arith))

-- where the first order has nothing left, it goes, and the rest settles as before
pub fill-step : (left : List ℕ) (xs ys : List Resting) (r : Resting) → Some r ≡ best_resting xs → number_at left r.index ≤ 0 → ys ≡ with_best_left (number_at left r.index) xs → All (IsWithinBook left) xs
    → All (IsWithinBook left) ys × (after_fills (number_at left) ys ≡ after_fills (number_at left) xs)
fill-step left [] ys r e none is within = absurd (cc)
fill-step left (x ∷ xs) ys r e none is within =
    let same : r ≡ x = cc in
    let zero_left : number_at left r.index ≡ 0 = omega arith in
    let gone : ys ≡ xs = is ∙ cond-false (nat_lt 0 (number_at left r.index)) (record x { left = number_at left r.index } ∷ xs) xs (le-ltb 0 (number_at left r.index) none) in (
      subst (All (IsWithinBook left)) (sym gone) (All-tail (IsWithinBook left) x xs within),
      ap (after_fills (number_at left)) gone ∙ sym (after_fills-more (number_at left) x xs (ap (λ (y : Resting). number_at left y.index) (sym same) ∙ zero_left)),
    )
