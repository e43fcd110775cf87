use Rattle.std.proofs.lemmas.Result.{on_ok_weaker}
use Rattle.plain_logs.proofs.ByLinesLemmas.{line-ended}
use Rattle.plain_logs.proofs.by_lines.DayByLines.end_line.Goals as goal

pub returns : goal.returns
returns g c =
    on_ok_weaker c.append_passed.result (λ passed.
    line-ended g.T.DayWriter.writes g.T.DayWriter.items_of g.S.SohGhost.text c.args.self.now _ c.in_ok-end.end c.args.out.now.items c.append_good.new.out.items c.append_passed.new.out.items (rw c.take_spare-spare.ensures at c.in_ok-end.ensures)
    (rw c.deref.ensures.value at c.in_ok-append_good.ensures) passed) c.append_passed.ensures
