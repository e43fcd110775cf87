-- What a keeper answers where the database refuses.
use Rattle.case_keeper.specs.declared.keeper.KeepFault.{KeepFault}
use Rattle.case_keeper.specs.declared.keeper.KeepFault.TheVariants.{Failed, Memory}
use Rattle.sqlite.specs.declared.error.Error.{Error}
use Rattle.sqlite.specs.declared.error.Error.TheVariants.{SqliteFailure}
use Rattle.sqlite.specs.declared.error.ErrorCode.TheVariants.{OutOfMemory}

-- out of memory is a fault of its own, and every other refusal is a failure
abbrev pub fault_of : Error → KeepFault
fault_of (SqliteFailure OutOfMemory) = Memory
fault_of _ = Failed
