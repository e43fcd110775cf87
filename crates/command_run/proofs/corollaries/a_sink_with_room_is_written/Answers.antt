use Rattle.std.proofs.Common.{refl}
use Rattle.log_source.specs.MemorySinks.{memory_sink_state}
use Rattle.command_run.proofs.MemoryLemmas.{no_fails}
use Rattle.command_run.proofs.RoomLemmas.{never_full}
use Rattle.command_run.proofs.corollaries.a_sink_with_room_is_written.Goals as goal

pub returns : goal.returns
returns g c = λ asked r old new answer none fits stays runs.
    never_full g.P.Program.command g.P.Program.usage asked r (memory_sink_state old) (memory_sink_state new) old.bytes.items old.room answer refl (no_fails old.fails.items old.room none) stays fits runs
