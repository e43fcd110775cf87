-- Results.
use Rattle.std.proofs.Common.{Result, Ok, Err}
use Rattle.std.specs.Prelude.{IfOk}

-- what holds of an answer holds of what follows from it
pub ok-then : {X E : Type 0} (result : Result X E) (P Q : X → Type 0) → ((x : X) → P x → Q x) → IfOk result P → IfOk result Q
ok-then (Ok x) P Q follows is = follows x is
ok-then (Err e) P Q follows is = tt
