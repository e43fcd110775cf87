use Rattle.std.proofs.Common.{sym, ◌∙◌}
use Rattle.std.proofs.lemmas.Result.{on_ok_weaker}
use Rattle.record_verdict.specs.RecordVerdict.{as_verdict}
use Rattle.desk_filing.proofs.DayCaseLemmas.{day_passes, day_takes}
use Rattle.desk_filing.proofs.days.DayCasesVerdictList.take.Goals as goal

pub returns-then-is_some : goal.returns-then-is_some
returns-then-is_some c = day_passes c.args.self.now (sym c.is_some.ensures ∙ c.if-is_some.true) c.args.symbol.now (as_verdict c.args.judged.now)

pub returns : goal.returns
returns c =
    on_ok_weaker c.keep.result
    (day_takes c.args.self.now c.keep.new.self c.in_ok-label.label c.args.symbol.now (as_verdict c.args.judged.now) (sym c.is_some.ensures ∙ c.if-is_some.false) c.in_ok-label.ensures)
    c.keep.ensures
