-- What opening a file gives.
use Rattle.std.specs.Prelude.{◌≡◌, ℕ, Bool, true, List, Option, IsSome, Result, IfOk}

-- A file that was opened is there, and all its bytes are still to come, where these are known.
abbrev pub OpensFile : {X E : Type 0}
    → Bool → Option (List ℕ) → (X → Option (List ℕ)) → Result X E → Type 0
OpensFile tells file remaining result =
    IfOk result (λ opened. tells ≡ true → IsSome file × (remaining opened ≡ file))
