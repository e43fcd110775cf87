-- An opener of databases in memory.
use Rattle.std.specs.Prelude.{ℕ, true, Option, [], ◌∷◌}
use Rattle.std.specs.Option.{option_map}
use Rattle.digest_keeper.specs.declared.digested.KeptCase.{KeptCase}
use Rattle.desk_filing.specs.DigestOpeners.{DigestOpenerState}
use Rattle.desk_filing.specs.declared.map_digest_opener.MapDigestOpener.{MapDigestOpener}

-- under every path there is a database with this case alone, or none
abbrev pub memory_state : Option KeptCase → ℕ → DigestOpenerState
memory_state kept faults = record {
  tells = true;
  kept = λ path. option_map (λ case. case ∷ []) kept;
  faults = faults;
}

-- what is known of it
abbrev pub memory_opener_state : MapDigestOpener → DigestOpenerState
memory_opener_state opener = memory_state opener.kept opener.faults
