use Rattle.std.proofs.Common.{◌≤◌, ℕ, List, length}
use Rattle.fix_days.specs.Undressings.{Undressed}
use Rattle.fix_days.proofs.UndressLemmas.{PassesTo}
use Rattle.fix_days.proofs.undressing.place_after.Given as goal

-- so many bytes were passed over
abbrev pub invariant-units : goal.invariant-units
invariant-units l =
    (l.to ≤ length l.fn.text)
    × ((more : List ℕ) (to : ℕ) (bytes : List ℕ) → l.fn.count ≤ length bytes
    → Undressed l.fn.soh l.fn.text l.fn.at more to bytes
    → PassesTo l.fn.soh l.fn.text l.fn.at more to bytes l.counter l.to)
