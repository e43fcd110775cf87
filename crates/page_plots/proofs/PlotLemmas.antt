-- The least round number that reaches a span is above 0, and not too great.
use Rattle.std.proofs.Common.{◌<◌, ◌≤◌, ◌^◌, ℕ, refl, inl, inr, arith}
use Rattle.std.proofs.Math.Nat.{one-le-pow}
use Rattle.std.proofs.lemmas.Nat.{mul-le}
use Rattle.page_plots.specs.Rounds.{IsLeastRound, IsRound}

ten-power : (power : ℕ) → 0 < 10 ^ power
ten-power power = omega (arith, one-le-pow power 10 (omega arith))

round-some : (number : ℕ) → IsRound number → 0 < number
round-some number is = elim is.is [
  | inl once ↦ omega (arith, once, ten-power is.power)
  | inr (inl twice) ↦ omega (arith, twice, ten-power is.power)
  | inr (inr five) ↦ omega (arith, five, ten-power is.power)
]

pub step-some : (span most step : ℕ) → IsLeastRound span most step → 0 < step
step-some span most step is = round-some step is.round

pub step-bounded : (span most step : ℕ) → span < 2 ^ 112 → 0 < most → IsLeastRound span most step → step ≤ 10 ^ 34
step-bounded span most step small some is =
    let reach = mul-le 1 (10 ^ 34) most (10 ^ 34) (omega (arith, some)) (omega arith) in
    is.least (10 ^ 34) (record { power = 34; is = inl refl }) (omega (arith, small, reach))
