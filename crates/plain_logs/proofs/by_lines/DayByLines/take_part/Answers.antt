use Rattle.std.proofs.Common.{ℕ, List, subst}
use Rattle.std.proofs.lemmas.Result.{on_ok_weaker}
use Rattle.plain_logs.specs.Writers.{AppendsGood}
use Rattle.plain_logs.proofs.ByLinesLemmas.{part-taken}
use Rattle.plain_logs.proofs.by_lines.DayByLines.take_part.Goals as goal

pub returns : goal.returns
returns g c =
    on_ok_weaker c.append_good.result (λ wrote.
    part-taken g.T.DayWriter.writes g.T.DayWriter.items_of g.S.SohGhost.text c.args.self.now _ c.args.part.now c.in_ok-self.field-0.items c.args.out.now.items c.append_good.new.out.items (rw c.take_spare-spare.ensures at c.in_ok-self.ensures)
    (subst (λ (t : List ℕ). AppendsGood g.T.DayWriter.writes g.T.DayWriter.items_of t c.args.out.now.items c.append_good.new.out.items) c.deref.ensures.value wrote)) c.append_good.ensures
