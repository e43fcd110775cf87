use Rattle.std.proofs.Common.{refl}
use Rattle.desk_filing.specs.declared.digested_verdicts.DigestedVerdict.{DigestedVerdict}
use Rattle.desk_filing.specs.declared.answers.FilingOutcome.{FilingOutcome}
use Rattle.desk_filing.proofs.JudgeLemmas.{judges_symbol}
use Rattle.desk_filing.proofs.LogLemmas.{stops_reading}
use Rattle.desk_filing.proofs.WritingLemmas.{ends_stopped}
use Rattle.desk_filing.proofs.judging.judge_symbol.Goals as goal

pub returns-in_ok-judged_verdict-in-Ok-clause-judges : goal.returns-in_ok-judged_verdict-in-Ok-clause-judges
returns-in_ok-judged_verdict-in-Ok-clause-judges g c =
    judges_symbol _ c.args.request.now c.args.orders.now c.args.trades.now c.requires.names c.args.question.now c.requires.table c.absent_symbols_have_nothing.ensures.found c.absent_symbols_have_nothing.ensures.sound c.requires.asked
    c.in-Ok.made c.in-Ok.ensures.decides c.in-Ok.ensures.digests _ c.in_ok-judged_verdict-in-Ok.ensures

pub returns-in-Err-clause-judges : goal.returns-in-Err-clause-judges
returns-in-Err-clause-judges g c =
    rw c.from.ensures (stops_reading _ c.args.request.now.logs c.args.orders.now c.args.trades.now c.requires.names c.args.request.now refl c.in-Err.stop c.in-Err.ensures.decides)

pub returns-in_ok-judged_verdict-in-Ok-clause-within : goal.returns-in_ok-judged_verdict-in-Ok-clause-within
returns-in_ok-judged_verdict-in-Ok-clause-within g c = c.in-Ok.ensures.within

pub returns-in-Err-clause-within : goal.returns-in-Err-clause-within
returns-in-Err-clause-within g c = rw c.from.ensures (ends_stopped DigestedVerdict FilingOutcome c.in-Err.stop c.in-Err.ensures.within)
