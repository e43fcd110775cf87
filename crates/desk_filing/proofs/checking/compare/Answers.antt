use Rattle.std.proofs.Common.{refl, false}
use Rattle.desk_filing.specs.declared.digested_verdicts.DigestedVerdict.{DigestedVerdict}
use Rattle.case_run.specs.declared.answers.CaseAnswer.{CaseAnswer}
use Rattle.desk_filing.proofs.JudgeLemmas.{compares_logs}
use Rattle.desk_filing.proofs.LogLemmas.{stops_reading}
use Rattle.desk_filing.proofs.WritingLemmas.{ends_stopped}
use Rattle.desk_filing.proofs.checking.compare.Goals as goal

pub returns-in_ok-compared-in-Ok-clause-compares : goal.returns-in_ok-compared-in-Ok-clause-compares
returns-in_ok-compared-in-Ok-clause-compares g c =
    compares_logs _ c.args.request.now c.args.orders.now c.args.trades.now c.requires.names (record { rule = c.args.filed.now.case.rule; symbol = c.args.filed.now.case.symbol; table = false }) refl
    c.requires.asked c.args.filed.now.case refl refl c.args.filed.now.digests c.in-Ok.made _ c.in-Ok.ensures.decides c.in-Ok.ensures.digests c.in_ok-compared-in-Ok.ensures

pub returns-in-Err-clause-compares : goal.returns-in-Err-clause-compares
returns-in-Err-clause-compares g c =
    rw c.from.ensures (stops_reading _ c.args.request.now.logs c.args.orders.now c.args.trades.now c.requires.names c.args.request.now refl c.in-Err.stop c.in-Err.ensures.decides)

pub returns-in_ok-compared-in-Ok-clause-within : goal.returns-in_ok-compared-in-Ok-clause-within
returns-in_ok-compared-in-Ok-clause-within g c = c.in-Ok.ensures.within

pub returns-in-Err-clause-within : goal.returns-in-Err-clause-within
returns-in-Err-clause-within g c = rw c.from.ensures (ends_stopped DigestedVerdict CaseAnswer c.in-Err.stop c.in-Err.ensures.within)
