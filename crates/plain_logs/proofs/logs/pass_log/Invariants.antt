-- The feed has read what the slot gave since its start, and the text of that is written.
use Rattle.std.proofs.Common.{◌-◌}
use Rattle.plain_logs.proofs.PassLemmas.{Passing}
use Rattle.plain_logs.proofs.logs.pass_log.Given as goal

abbrev pub invariant-pieces : goal.invariant-pieces
invariant-pieces g l =
    Passing g.F.Shelf g.D.DayFeed.writes g.D.DayFeed.reads g.D.DayFeed.has_read l.fn.day.which l.fn.day.name.now l.fn.day.limit l.fn.shelf l.shelf l.feed (g.K.Sink.state l.fn.out) (g.K.Sink.state l.out) l.taken

abbrev pub decreases-pieces : goal.decreases-pieces
decreases-pieces g l = l.fn.day.limit - l.taken
