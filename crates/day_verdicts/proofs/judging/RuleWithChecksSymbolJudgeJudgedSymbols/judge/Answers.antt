use Rattle.std.proofs.Common.{◌∙◌, ap}
use Rattle.std.proofs.lemmas.Result.{on_ok_weaker}
use Rattle.day_records.specs.KeptRecords.{times_if}
use Rattle.day_records.specs.SymbolDuringTrades.{scope_by}
use Rattle.further_checks.specs.FurtherRules.{asks_further}
use Rattle.record_verdict.specs.Scopes.{admission_of}
use Rattle.day_verdicts.specs.DayVerdicts.{told_of_symbol}
use Rattle.day_verdicts.proofs.CheckLemmas.{has-times}
use Rattle.day_verdicts.proofs.GivenRecords.{few-next, given-of}
use Rattle.day_verdicts.proofs.TellLemmas.{room-for-one}
use Rattle.day_verdicts.proofs.VerdictSteps.{judged-more}
use Rattle.day_verdicts.proofs.judging.RuleWithChecksSymbolJudgeJudgedSymbols.judge.Goals as goal

pub before_rule-requires : goal.before_rule-requires
before_rule-requires c = few-next c.requires

pub report_of-requires-clause-timed : goal.report_of-requires-clause-timed
report_of-requires-clause-timed c =
    let next = c.requires in
    let times = c.deref.ensures.value ∙ c.in_ok-times.ensures ∙ ap (λ asked. times_if asked c.args.records.records.trades.trades) c.any.ensures in
    let is = given-of (admission_of c.args.self.now.rule) (asks_further c.args.self.now.checks) c.args.symbol.now c.in_ok-given.ensures.gives times next.entries next.trades next.is in
    has-times c.args.self.now.checks (scope_by (admission_of c.args.self.now.rule) c.args.symbol.now) next.entries next.trades c.in_ok-given.given c.deref.result.now is.before is.times_are

pub add-requires : goal.add-requires
add-requires c =
    let next = c.requires in
    room-for-one (told_of_symbol c.args.self.now.checks next.entries next.trades) next.symbols next.has.verdicts c.args.judged.now next.has.verdicts_are.same_length next.has.tells next.few

pub returns : goal.returns
returns c =
    let times = c.deref.ensures.value ∙ c.in_ok-times.ensures ∙ ap (λ asked. times_if asked c.args.records.records.trades.trades) c.any.ensures in
    on_ok_weaker c.add.result
    (λ adds first entries trades symbols has.
    let is = given-of (admission_of c.args.self.now.rule) (asks_further c.args.self.now.checks) c.args.symbol.now c.in_ok-given.ensures.gives times entries trades has in
    judged-more c.args.self.now.rule entries trades symbols c.args.symbol.now c.in_ok-given.given c.nothing_is_found_unasked.ensures c.deref.result.now c.args.self.now.table c.args.self.now.checks c.in_ok-report.report c.args.judged.now c.add.new.self is c.in_ok-report.ensures adds)
    c.add.ensures
