-- Round numbers in the order of their powers of ten.
use Rattle.std.proofs.Common.{◌≡◌, ◌<◌, ◌≤◌, ◌⊎◌, ◌*◌, ◌^◌, ◌∙◌, ℕ, zero, suc, sym, ap, refl, subst, inl, inr, arith}
use Rattle.std.proofs.lemmas.Bool.{cases_order}
use Rattle.std.proofs.lemmas.Nat.{mul-le}
use Rattle.page_plots.specs.Rounds.{IsRound, IsRoundOf, IsLeastRound}
use Rattle.page_plots.specs.SoFar.{IsLeastPower, IsPowerSoFar}

-- a power of ten is ten times the one below it, and above 0
pub power-more : (k : ℕ) → 10 ^ suc k ≡ 10 * 10 ^ k
power-more k = grind arith

pub power-some : (k : ℕ) → 0 < 10 ^ k
power-some zero = omega arith
power-some (suc k) = let one = power-some k in omega (arith, one, power-more k)

pub power-rises : (j k : ℕ) → j ≤ k → 10 ^ j ≤ 10 ^ k
power-rises zero k le = let some = power-some k in omega (arith, some)
power-rises (suc j) zero le = absurd (omega arith)
power-rises (suc j) (suc k) le = let one = power-rises j k (omega arith) in omega (arith, one, power-more j, power-more k)

-- the round numbers of a lower power are at most half of the next one
round-most : (j k other : ℕ) → IsRoundOf j other → j ≤ k → other ≤ 5 * 10 ^ k
round-most j k other (inl is) le = let r = power-rises j k le in omega (arith, is, r)
round-most j k other (inr (inl is)) le = let r = power-rises j k le in omega (arith, is, r)
round-most j k other (inr (inr is)) le = let r = power-rises j k le in omega (arith, is, r)

-- the round numbers of a higher power are at least ten times this one
round-least : (k j other : ℕ) → IsRoundOf j other → k < j → 10 * 10 ^ k ≤ other
round-least k j other (inl is) lt = let r = power-rises (suc k) j lt in omega (arith, is, r, power-more k)
round-least k j other (inr (inl is)) lt = let r = power-rises (suc k) j lt in omega (arith, is, r, power-more k)
round-least k j other (inr (inr is)) lt = let r = power-rises (suc k) j lt in omega (arith, is, r, power-more k)

-- the round numbers of a power that is no lower are at least this one
round-same : (k j other : ℕ) → IsRoundOf j other → k ≤ j → 10 ^ k ≤ other
round-same k j other (inl is) le = let r = power-rises k j le in omega (arith, is, r)
round-same k j other (inr (inl is)) le = let r = power-rises k j le in omega (arith, is, r)
round-same k j other (inr (inr is)) le = let r = power-rises k j le in omega (arith, is, r)

-- The least power of ten, step by step.

pub power-start : (span most : ℕ) → IsPowerSoFar span most 1
power-start span most = record {
  power = 0;
  is = refl;
  some = omega arith;
  bounded = omega arith;
  least = λ lower e. absurd (cc);
}

pub power-next : (span most number : ℕ) → 0 < most → IsPowerSoFar span most number → most * 5 * number < span → IsPowerSoFar span most (number * 10)
power-next span most number some so under = record {
  power = suc so.power;
  is = let e = so.is in omega (arith, e, power-more so.power);
  some = let s = so.some in omega arith;
  bounded = let m = mul-le 1 number (most * 5) number (omega arith) (omega arith) in omega (arith, m, under);
  least = λ lower e. subst (λ (k : ℕ). most * 5 * 10 ^ k < span) (omega (arith, e)) (subst (λ (n : ℕ). most * 5 * n < span) so.is under);
}

pub power-found : (span most number : ℕ) → IsPowerSoFar span most number → span ≤ most * 5 * number → IsLeastPower span most number
power-found span most number so reaches = record { power = so.power; is = so.is; reaches = reaches; least = so.least }

module _ (span most : ℕ) where
  -- a round number of a lower power does not reach
  too-low : (e j other : ℕ) → ((lower : ℕ) → e ≡ suc lower → most * 5 * 10 ^ lower < span) → IsRoundOf j other → j < e → span ≤ most * other → ⊥
  too-low zero j other least round lt reach = omega arith
  too-low (suc l) j other least round lt reach =
      let under = least l refl in
      let m = mul-le most other most (5 * 10 ^ l) (omega arith) (round-most j l other round (omega arith)) in
      omega (arith, reach, m, under)

  module _ (number : ℕ) (is : IsLeastPower span most number) where
    -- what reaches is of this power, or of a higher one and then at least ten times as great
    at-least : (other : ℕ) → IsRound other → span ≤ most * other → IsRoundOf is.power other ⊎ (10 * number ≤ other)
    at-least other round reach = elim (cases_order round.power is.power) [
      | inl e ↦ inl (subst (λ (k : ℕ). IsRoundOf k other) e round.is)
      | inr (inl lt) ↦ absurd (too-low is.power round.power other is.least round.is lt reach)
      | inr (inr gt) ↦ inr (let l = round-least is.power round.power other round.is gt in let e = is.is in omega (arith, l, e))
    ]

    pub round-once : span ≤ most * number → IsLeastRound span most number
    round-once reaches = record {
      round = record { power = is.power; is = inl is.is };
      reaches = reaches;
      least = λ other round reach. elim (at-least other round reach) [
        | inl (inl o) ↦ let e = is.is in omega (arith, o, e)
        | inl (inr (inl o)) ↦ let e = is.is in omega (arith, o, e)
        | inl (inr (inr o)) ↦ let e = is.is in omega (arith, o, e)
        | inr more ↦ omega (arith, more)
      ];
    }

    pub round-twice : most * number < span → span ≤ most * 2 * number → IsLeastRound span most (2 * number)
    round-twice under reaches = record {
      round = record { power = is.power; is = inr (inl (ap (λ (n : ℕ). 2 * n) is.is)) };
      reaches = omega (arith, reaches);
      least = λ other round reach. elim (at-least other round reach) [
        | inl (inl o) ↦ absurd (let same : most * other ≡ most * number = ap (λ (n : ℕ). most * n) (o ∙ sym is.is) in omega (arith, reach, same, under))
        | inl (inr (inl o)) ↦ let e = is.is in omega (arith, o, e)
        | inl (inr (inr o)) ↦ let e = is.is in omega (arith, o, e)
        | inr more ↦ omega (arith, more)
      ];
    }

    pub round-five : most * number < span → most * 2 * number < span → IsLeastRound span most (5 * number)
    round-five under_one under_two = record {
      round = record { power = is.power; is = inr (inr (ap (λ (n : ℕ). 5 * n) is.is)) };
      reaches = let r = is.reaches in omega (arith, r);
      least = λ other round reach. elim (at-least other round reach) [
        | inl (inl o) ↦ absurd (let same : most * other ≡ most * number = ap (λ (n : ℕ). most * n) (o ∙ sym is.is) in omega (arith, reach, same, under_one))
        | inl (inr (inl o)) ↦ absurd (let same : most * other ≡ most * (2 * number) = ap (λ (n : ℕ). most * n) (o ∙ ap (λ (n : ℕ). 2 * n) (sym is.is)) in omega (arith, reach, same, under_two))
        | inl (inr (inr o)) ↦ let e = is.is in omega (arith, o, e)
        | inr more ↦ omega (arith, more)
      ];
    }
