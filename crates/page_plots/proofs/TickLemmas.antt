-- The marks so far, with one more.
use Rattle.std.proofs.Common.{◌≡◌, ◌<◌, ◌≤◌, ◌+◌, ◌*◌, ◌-◌, ◌/◌, ℕ, List, [], ◌∷◌, ◌++◌, refl, sym, subst, inl, inr, arith}
use Rattle.std.specs.Prelude.{Contains}
use Rattle.std.proofs.lemmas.Bool.{cases_eq, cases_lt}
use Rattle.std.proofs.lemmas.Nat.{mul-le, mod_below, div-add-mod'}
use Rattle.std.proofs.lemmas.List.Elements.{All-nil, All-push, All-weaker, Contains-push, Contains-append_left}
use Rattle.std.proofs.lemmas.List.Quantifiers.{all_pairs_push}
use Rattle.page_plots.specs.SoFar.{AreTicksSoFar}
use Rattle.page_plots.specs.Ticks.{AreTicks}

-- a number of steps is less than another where what they reach is
pub fewer-steps : (step of times : ℕ) → of * step < times * step → of < times
fewer-steps step of times lt = elim (cases_lt of times) [
  | inl below ↦ below
  | inr over ↦ absurd (omega (arith, lt, mul-le times step of step over (omega arith)))
]

module _ (first last step : ℕ) where
  -- none so far
  pub ticks-start : (times : ℕ) (ticks : List ℕ) → ticks ≡ [] → ((of : ℕ) → of < times → of * step < first) → AreTicksSoFar first last step times ticks
  ticks-start times ticks is below = subst (AreTicksSoFar first last step times) (sym is) (record {
    multiples = All-nil (λ (tick : ℕ). (of : ℕ) × (tick ≡ of * step));
    inside = All-nil (λ (tick : ℕ). (first ≤ tick) × (tick ≤ last));
    below = All-nil (λ (tick : ℕ). tick < times * step);
    each = λ of from lt. absurd (let b = below of lt in omega arith);
    rising = λ i j d lt inside. absurd (omega arith);
  })

  -- one more
  pub ticks-more : (times : ℕ) (ticks later : List ℕ) → 0 < step → first ≤ times * step → times * step ≤ last → AreTicksSoFar first last step times ticks → later ≡ ticks ++ times * step ∷ []
      → AreTicksSoFar first last step (times + 1) later
  ticks-more times ticks later some from upto so is = subst (AreTicksSoFar first last step (times + 1)) (sym is) (record {
    multiples = All-push (λ (tick : ℕ). (of : ℕ) × (tick ≡ of * step)) ticks (times * step) so.multiples (times, refl);
    inside = All-push (λ (tick : ℕ). (first ≤ tick) × (tick ≤ last)) ticks (times * step) so.inside (from, upto);
    below = All-push (λ (tick : ℕ). tick < (times + 1) * step) ticks (times * step)
        (All-weaker (λ (tick : ℕ). tick < times * step) (λ (tick : ℕ). tick < (times + 1) * step) (λ tick b. omega (arith, b, next)) ticks so.below)
        (omega (arith, next));
    each = λ of start lt. elim (cases_eq of times) [
      | inl e ↦ subst (λ (n : ℕ). Contains (ticks ++ times * step ∷ []) (n * step)) (sym e) (Contains-push ticks (times * step))
      | inr ne ↦ Contains-append_left ticks (times * step ∷ []) (of * step) (so.each of start (omega (arith, ne)))
    ];
    rising = all_pairs_push (λ (tick next : ℕ). tick < next) ticks (times * step) so.rising so.below;
  })
    where
      next : (times + 1) * step ≡ times * step + step
      next = omega arith

  -- all of them
  pub ticks-all : (times : ℕ) (ticks : List ℕ) → AreTicksSoFar first last step times ticks → last < times * step → AreTicks first last step ticks
  ticks-all times ticks so over = record {
    multiples = so.multiples;
    inside = so.inside;
    each = λ of from upto. so.each of from (fewer-steps step of times (omega arith));
    rising = so.rising;
  }

-- the least number of steps that reach a number
pub first-reach : (first step : ℕ) → 0 < step → (of : ℕ) → of < (first + step - 1) / step → of * step < first
first-reach first step some of lt =
    let whole = div-add-mod' (first + step - 1) step in
    let most = mul-le (of + 1) step ((first + step - 1) / step) step (omega (arith, lt)) (omega arith) in
    omega (arith, whole, most)

pub reached-first : (first step : ℕ) → 0 < step → (first ≤ (first + step - 1) / step * step) × ((first + step - 1) / step * step < first + step)
reached-first first step some =
    let whole = div-add-mod' (first + step - 1) step in
    let rest = mod_below (first + step - 1) step some in
    (omega (arith, whole, rest), omega (arith, whole))
