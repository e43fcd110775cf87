-- What a collector asks before it is handed the next record of a log,
-- and how many records a log has.
use Rattle.std.specs.Prelude.{◌≡◌, ℕ, ◌-◌, ◌*◌, ◌<◌, ◌≤◌, ◌^◌, Bool, false, List, [], ◌∷◌, ◌++◌, length}

-- the collector has been handed some records, fewer than there are places
pub record HasPlace {K R : Type 0} (has_taken : K → List R → Type 0) (collector : K) : Type 0 where
  pub entries : List R
  pub has : has_taken collector entries
  pub fits_places : length entries < 2 ^ 32 - 1

-- a record was handed on unseen: it may be any of a symbol whose records
-- the collector does not look at
abbrev pub PassesOver : {R : Type 0} → (R → List ℕ) → (List ℕ → Bool) → (List R → Type 0)
    → (List R → Type 0) → Type 0
PassesOver symbol_of wants before after =
    (entries : List _) (entry : _) → wants (symbol_of entry) ≡ false → before entries
    → after (entries ++ entry ∷ [])

-- each of these records of a log has at least nine of its bytes
abbrev pub HasNineBytesEach : {R : Type 0} → List R → List ℕ → Type 0
HasNineBytesEach entries log = 9 * length entries ≤ length log
