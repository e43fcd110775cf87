use Rattle.std.proofs.Common.{refl}
use Rattle.log_source.specs.MemorySinks.{memory_sink_state}
use Rattle.command_run.proofs.MemoryLemmas.{in_room}
use Rattle.command_run.proofs.corollaries.a_held_answer_with_room_is_written.Goals as goal

pub returns : goal.returns
returns g c = λ asked limit old new sink_old sink_new answer none stays runs.
    in_room g.P.Program.command g.P.Program.usage limit asked old new (memory_sink_state sink_old) (memory_sink_state sink_new) sink_old.bytes.items sink_old.fails.items sink_old.room answer refl refl stays none runs
