use Rattle.std.proofs.Common.{subst}
use Rattle.std.proofs.lemmas.Result.{IfOk-weaker}
use Rattle.day_symbols.specs.Shares.{DayShare}
use Rattle.day_verdicts.specs.VerdictLists.{HasTakenShare}
use Rattle.desk_filing.specs.Days.{HasDayTaken, IsJudgedAs, JudgesDay}
use Rattle.desk_filing.proofs.DayCaseLemmas.{day_begins, day_judges}
use Rattle.desk_filing.proofs.days.judged_day.Goals as goal

pub hand_verdicts-requires-clause-fresh : goal.hand_verdicts-requires-clause-fresh
hand_verdicts-requires-clause-fresh c = day_begins c.args.label.now c.args.rule c.args.digests.now c.none-day.result c.none-day.ensures

pub returns : goal.returns
returns c =
    IfOk-weaker c.judged_cases.result (IsJudgedAs c.in_ok-day.day) (JudgesDay c.args.label.now c.args.rule c.args.digests.now c.args.ended)
    (day_judges c.args.label.now c.args.rule c.args.digests.now c.args.ended c.none-day.result c.in_ok-day.day c.none-day.ensures
    (subst (λ (s : DayShare). HasTakenShare (HasDayTaken c.none-day.result) c.args.rule s c.args.ended c.in_ok-day.day) c.whole.ensures c.in_ok-day.ensures))
    c.judged_cases.ensures
