use Rattle.std.proofs.Common.{◌≡◌, ◌≤◌, ◌<◌, ◌-◌, ℕ, false, length}
use Rattle.fix_days.specs.Lines.{is_beginning}
use Rattle.fix_days.proofs.beginnings.first_beginning.Given as goal

-- no beginning was passed over
abbrev pub invariant-places : goal.invariant-places
invariant-places l =
    (l.fn.from ≤ l.at) × (l.at ≤ length l.fn.text)
    × ((k : ℕ) → l.fn.from ≤ k → k < l.at → is_beginning l.fn.text k ≡ false)

abbrev pub decreases-places : goal.decreases-places
decreases-places l = length l.fn.text - l.at
