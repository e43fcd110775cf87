-- A database that was asked for by its path: first its files, then the connection.
use Rattle.std.proofs.Common.{◌≡◌, ℕ, Bool, true, false, List, inr, refl}
use Rattle.std.specs.Prelude.{IsTrue, MatchBool}
use Rattle.casebook_program.specs.SystemCalls.{KnownCalls}
use Rattle.casebook_program.specs.DatabaseFiles.{TriesToOpen}
use Rattle.casebook_program.specs.Databases.{AsksForFiles, AsksForDatabase, GoesOnToConnect, OpensAndConnects, names_file}

true_is_false : true ≡ false → ⊥
true_is_false is = cc

files_were_opened : (names : Bool) (path : List ℕ) (old mid : KnownCalls) → MatchBool names (TriesToOpen path true old mid) ((true ≡ false) × (mid ≡ old))
    → IsTrue names × TriesToOpen path true old mid
files_were_opened true path old mid tried = (refl, tried)
files_were_opened false path old mid refused = absurd (true_is_false refused.0)

opens_and_connects : (path : List ℕ) (connected : Bool) (old mid new : KnownCalls) → AsksForFiles path true old mid → GoesOnToConnect path connected mid new
    → OpensAndConnects path connected old new
opens_and_connects path connected old mid new asked goes_on =
    let opened = files_were_opened (names_file path) path old mid asked in
    record { named = opened.0; mid = mid; opened = opened.1; goes_on = goes_on }

pub asked_then_connected : (path : List ℕ) (connected : Bool) (old mid new : KnownCalls) → AsksForFiles path true old mid → GoesOnToConnect path connected mid new
    → AsksForDatabase path connected old new
asked_then_connected path true old mid new asked goes_on = opens_and_connects path true old mid new asked goes_on
asked_then_connected path false old mid new asked goes_on = inr (opens_and_connects path false old mid new asked goes_on)
