-- A greater number lies no nearer to the start of an axis.
use Rattle.std.proofs.Common.{◌≡◌, ◌<◌, ◌≤◌, ◌-◌, ◌*◌, ◌/◌, ◌+◌, ℕ, false, inl, inr, arith}
use Rattle.std.specs.Prelude.{◌==◌}
use Rattle.std.proofs.lemmas.Bool.{cases_Bool, cases_lt}
use Rattle.std.proofs.lemmas.Nat.{le-div, div-add-mod', mul-le}
use Rattle.page_plots.specs.declared.axes.Axis.{Axis}
use Rattle.page_plots.specs.Axes.{point_of, share_of}

div-rises : (m n k : ℕ) → 0 < k → m ≤ n → m / k ≤ n / k
div-rises m n k some le = let whole = div-add-mod' m k in le-div (m / k) n k some (omega (arith, whole, le))

positive : (n : ℕ) → (n == 0) ≡ false → 0 < n
positive n f = grind arith

-- a greater part has no smaller share
pub share-rises : (part more whole length : ℕ) → part ≤ more → share_of part whole length ≤ share_of more whole length
share-rises part more whole length le = elim (cases_Bool (whole == 0)) [
  | inl t ↦ rw t (omega arith)
  | inr f ↦ rw f (div-rises (part * length) (more * length) whole (positive whole f) (mul-le part length more length le (omega arith)))
]

div-below : (part whole length : ℕ) → 0 < whole → part ≤ whole → part * length / whole ≤ length
div-below part whole length some le = elim (cases_lt length (part * length / whole)) [
  | inl lt ↦ absurd (
      let cut = div-add-mod' (part * length) whole in
      let most = mul-le part length whole length le (omega arith) in
      let over = mul-le (length + 1) whole (part * length / whole) whole (omega (arith, lt)) (omega arith) in
      omega (arith, cut, most, over, some))
  | inr ge ↦ ge
]

-- no part has more than the whole length
pub share-most : (part whole length : ℕ) → part ≤ whole → share_of part whole length ≤ length
share-most part whole length le = elim (cases_Bool (whole == 0)) [
  | inl t ↦ rw t (omega arith)
  | inr f ↦ rw f (div-below part whole length (positive whole f) le)
]

pub point-rises : (axis : Axis) (number other : ℕ) → number ≤ other → point_of axis number ≤ point_of axis other
point-rises axis number other le =
    let rises = share-rises (number - axis.first) (other - axis.first) (axis.last - axis.first) axis.length (omega (arith, le)) in
    let most = share-most (number - axis.first) (axis.last - axis.first) axis.length in
    grind (arith, rises, most)
