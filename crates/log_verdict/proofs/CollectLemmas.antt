-- A log that was taken, and read into records or not.
use Rattle.std.proofs.Common.{List, ℕ, Result}
use Rattle.audit_base.specs.declared.faults.BadPlace.{BadPlace}
use Rattle.audit_base.specs.declared.faults.LogFault.{LogFault}
use Rattle.audit_base.specs.declared.faults.LogFault.TheVariants as fault
use Rattle.audit_base.specs.declared.terms.Which.{Which}
use Rattle.csv_logs.specs.Feeds.{IsLogFaultOf}
use Rattle.fix_messages.specs.Feeds as fix
use Rattle.log_verdict.specs.Collecting.{unread_of_log, IsUnread}
use Rattle.log_verdict.specs.Steps.{Reading, IsRead, step_of}

-- a log that is not read into records is not for the fault of its feed
pub unread-fault : {R : Type 0} (meaning : List ℕ → Result (List R) BadPlace) (r : Reading) (log : Which) (name bytes : List ℕ) (why : LogFault) → IsRead r (step_of r log name) bytes
    → IsLogFaultOf (meaning bytes) why → IsUnread meaning r log name (unread_of_log why)
unread-fault meaning r log name bytes (fault.Bad bad) read is = record { bytes = bytes; read = read; holds = is }
unread-fault meaning r log name bytes fault.Memory read is = tt

-- the same of a FIX log
pub unread-fix_fault : {R : Type 0} (meaning : List ℕ → Result (List R) BadPlace) (r : Reading) (log : Which) (name bytes : List ℕ) (why : LogFault) → IsRead r (step_of r log name) bytes
    → fix.IsFixLogFaultOf (meaning bytes) why → IsUnread meaning r log name (unread_of_log why)
unread-fix_fault meaning r log name bytes (fault.Bad bad) read is = record { bytes = bytes; read = read; holds = is }
unread-fix_fault meaning r log name bytes fault.Memory read is = tt
