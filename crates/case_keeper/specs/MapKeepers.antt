-- A keeper in memory: its cases, the number of its next call, and which calls fail.
use Rattle.std.specs.Prelude.{◌≡◌, ℕ, Bool, List, Some}
use Rattle.log_source.specs.Calls.{count_after, faults_after, is_failing_number}
use Rattle.case_keeper.specs.Keepers.{KeeperState}
use Rattle.case_keeper.specs.declared.map_keeper.MapKeeper.{MapKeeper}

-- its state: its cases are known
abbrev pub map_keeper_state : MapKeeper → KeeperState
map_keeper_state keeper = record { cases = Some keeper.cases; faults = keeper.faults }

-- how many calls were made
abbrev pub keeper_calls_made : MapKeeper → ℕ
keeper_calls_made keeper = keeper.calls

-- the numbers of the calls that are to fail
abbrev pub failing_keeper_calls : MapKeeper → List ℕ
failing_keeper_calls keeper = keeper.fails.items

-- the next call is to fail
abbrev pub keeper_fails_next : MapKeeper → Bool
keeper_fails_next keeper =
    is_failing_number (count_after (keeper_calls_made keeper)) (failing_keeper_calls keeper)

-- one more call was made, and where it was to fail, a fault was counted
pub record CountsKeeperCall (old new : MapKeeper) : Type 0 where
  pub calls : keeper_calls_made new ≡ count_after (keeper_calls_made old)
  pub fails : failing_keeper_calls new ≡ failing_keeper_calls old
  pub faults : (map_keeper_state new).faults
      ≡ faults_after (keeper_fails_next old) (map_keeper_state old).faults
