-- A keeper of cases with digests in memory.
use Rattle.std.specs.Prelude.{Some}
use Rattle.digest_keeper.specs.DigestKeepers.{DigestKeeperState}
use Rattle.digest_keeper.specs.declared.map_digest_keeper.MapDigestKeeper.{MapDigestKeeper}

-- its state: what it has on file is known
abbrev pub memory_keeper_state : MapDigestKeeper → DigestKeeperState
memory_keeper_state keeper = record { kept = Some keeper.kept.items; faults = keeper.faults }
