-- An opener in memory: how many calls were made, and which of them fail.
use Rattle.std.specs.Prelude.{◌≡◌, ℕ, Bool, true, List, [], Some}
use Rattle.log_source.specs.Calls.{count_after, faults_after, is_failing_number}
use Rattle.case_run.specs.Openers.{OpenerState}
use Rattle.case_run.specs.declared.map_opener.MapOpener.{MapOpener}

-- what is known of it: there are no cases under any path
abbrev pub map_opener_state : MapOpener → OpenerState
map_opener_state opener =
    record { tells = true; kept = (λ path. Some []); faults = opener.faults }

-- how many calls were made
abbrev pub openings_made : MapOpener → ℕ
openings_made opener = opener.calls

-- the numbers of the calls that are to fail
abbrev pub failing_openings : MapOpener → List ℕ
failing_openings opener = opener.fails.items

-- the next call is to fail
abbrev pub opening_fails : MapOpener → Bool
opening_fails opener =
    is_failing_number (count_after (openings_made opener)) (failing_openings opener)

-- one more call was made, and where it was to fail, a fault was counted
pub record CountsOpening (old new : MapOpener) : Type 0 where
  pub calls : openings_made new ≡ count_after (openings_made old)
  pub fails : failing_openings new ≡ failing_openings old
  pub faults : (map_opener_state new).faults
      ≡ faults_after (opening_fails old) (map_opener_state old).faults
