use Rattle.std.proofs.Common.{take}
use Rattle.case_run.specs.Turns.{IsGoing}
use Rattle.case_run.proofs.running.run_commands.Given as goal

-- the commands done so far are Play's, and none of them ended the run
abbrev pub invariant-loop-command : goal.invariant-loop-command
invariant-loop-command g l =
    IsGoing g.F.Shelf (take l.command-index l.commands) l.fn.shelf l.shelf (g.K.Sink.state l.fn.out) (g.K.Sink.state l.out) (g.B.Keeper.state l.fn.book) (g.B.Keeper.state l.book) l.ran.status
