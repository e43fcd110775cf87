use Rattle.std.proofs.Common.{◌∙◌, ap, Err}
use Rattle.std.specs.Prelude.{map}
use Rattle.std.specs.String.{string_bytes}
use Rattle.case_run.specs.Commands.{commands_of}
use Rattle.case_run.proofs.CaseLemmas.{case_memory, case_run, case_usage, some_command}
use Rattle.case_run.proofs.running.run_case_seeded.Goals as goal

pub returns-in-Ok-clause-run : goal.returns-in-Ok-clause-run
returns-in-Ok-clause-run g c =
    case_run g.F.Shelf (commands_of (map string_bytes c.args.words.now)) c.in-Ok.commands.items c.args.shelf.now c.run_commands.new.shelf _ _ _ _ c.run_commands.result.status
    c.in-Ok.ensures.commands c.run_commands.ensures.keeps (rw c.deref.ensures.value at c.run_commands.ensures.runs) c.run_commands.ensures.length

pub returns-in-Err-Usage-clause-run : goal.returns-in-Err-Usage-clause-run
returns-in-Err-Usage-clause-run g c =
    case_usage g.F.Shelf (commands_of (map string_bytes c.args.words.now)) c.args.shelf.now _ _ (g.B.Keeper.state c.args.book.now) c.write_text.result
    (c.read_commands.ensures.usage (c.in-Err-Usage.is ∙ ap Err c.in-Err-Usage.field-0-is)) c.write_text.ensures.stays (rw c.usage_text.ensures at c.write_text.ensures.writes)

pub returns-in-Err-Memory-clause-run : goal.returns-in-Err-Memory-clause-run
returns-in-Err-Memory-clause-run g c =
    case_memory g.F.Shelf (commands_of (map string_bytes c.args.words.now)) c.args.shelf.now (g.K.Sink.state c.args.out.now) (g.B.Keeper.state c.args.book.now) (some_command (map string_bytes c.args.words.now))
