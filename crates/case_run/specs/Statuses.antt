-- The statuses of a casebook: their numbers, and which of them end a run.
use Rattle.std.specs.Prelude.{ℕ, Bool, true, false}
use Rattle.case_run.specs.declared.statuses.CaseStatus.{CaseStatus}
use Rattle.case_run.specs.declared.statuses.CaseStatus.TheVariants.{Done, Refused, Usage, Malformed, ReadFault, WriteFault, TooLong, Memory, KeeperFault}

-- the number that the program ends with
abbrev pub case_status_number : CaseStatus → ℕ
case_status_number Done = 0
case_status_number Refused = 1
case_status_number Usage = 2
case_status_number Malformed = 3
case_status_number ReadFault = 4
case_status_number WriteFault = 5
case_status_number TooLong = 6
case_status_number Memory = 7
case_status_number KeeperFault = 8

-- no further command is run after this status, which is above 1
abbrev pub ends_run : CaseStatus → Bool
ends_run Done = false
ends_run Refused = false
ends_run Usage = true
ends_run Malformed = true
ends_run ReadFault = true
ends_run WriteFault = true
ends_run TooLong = true
ends_run Memory = true
ends_run KeeperFault = true
