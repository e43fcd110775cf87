-- The opener over files: nothing is known of what is under a path, and what it refuses is counted.
use Rattle.std.specs.Prelude.{◌≡◌, true, false, None, Result, Err}
use Rattle.case_keeper.specs.declared.keeper.KeepFault.{KeepFault}
use Rattle.case_keeper.specs.declared.keeper.KeepFault.TheVariants.{Failed}
use Rattle.case_run.specs.Openers.{OpenerState}
use Rattle.log_source.specs.Calls.{faults_after}
use Rattle.casebook_program.specs.declared.file_opener.FileOpener.{FileOpener}

-- its state: its faults alone are known
abbrev pub file_opener_state : {D : Type 0} → FileOpener D → OpenerState
file_opener_state opener =
    record { tells = false; kept = (λ path. None); faults = opener.faults }

-- its state before it has opened anything
abbrev pub fresh_opener : OpenerState
fresh_opener = record { tells = false; kept = (λ path. None); faults = 0 }

-- the opening was refused, and counted as a fault
abbrev pub RefusesPath : {B D : Type 0} → FileOpener D → FileOpener D → Result B KeepFault
    → Type 0
RefusesPath old new result =
    (result ≡ Err Failed)
    × ((file_opener_state new).faults ≡ faults_after true (file_opener_state old).faults)
