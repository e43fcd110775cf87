use Rattle.desk_filing.proofs.DayLemmas.{ends_without_at, judges_digested, judges_without}
use Rattle.desk_filing.proofs.days.judge_day.Goals as goal

pub returns-in_ok-judged_logs-in-Ok-clause-judges : goal.returns-in_ok-judged_logs-in-Ok-clause-judges
returns-in_ok-judged_logs-in-Ok-clause-judges g c =
    judges_digested _ c.args.request.now c.args.orders.now c.args.trades.now c.requires.names c.args.rule c.requires.asked c.in-Ok.given _
    c.digest.ensures c.digest-in-Ok.ensures
    _ c.in_ok-judged_logs-in-Ok.ensures (rw (c.whole.ensures, c.of.ensures) at c.in-Ok.ensures.decides)

pub returns-in-Err-clause-judges : goal.returns-in-Err-clause-judges
returns-in-Err-clause-judges g c =
    judges_without _ c.args.request.now c.args.orders.now c.args.trades.now c.requires.names c.args.rule c.requires.asked c.in-Err.why c.judged_without.result c.judged_without.ensures c.in-Err.ensures.decides

pub returns-in_ok-judged_logs-in-Ok-clause-within : goal.returns-in_ok-judged_logs-in-Ok-clause-within
returns-in_ok-judged_logs-in-Ok-clause-within g c = c.in-Ok.ensures.within

pub returns-in-Err-clause-within : goal.returns-in-Err-clause-within
returns-in-Err-clause-within g c = ends_without_at c.args.orders.now _ _ _ c.in-Err.ensures.logs c.in-Err.why c.read_day.result c.judged_without.result c.in-Err.is c.read_day.ensures.within c.judged_without.ensures
