use Rattle.std.proofs.Common.{◌∙◌, ap}
use Rattle.std.proofs.lemmas.Result.{on_ok_weaker}
use Rattle.day_records.specs.KeptRecords.{times_if}
use Rattle.day_sessions.specs.SymbolSessions.{session_told}
use Rattle.day_sessions.proofs.SessionSteps.{sessions-more}
use Rattle.day_verdicts.proofs.CheckLemmas.{has-times}
use Rattle.day_verdicts.proofs.GivenRecords.{few-next, given-of}
use Rattle.day_verdicts.proofs.TellLemmas.{room-for-one}
use Rattle.further_checks.specs.FurtherRules.{asks_further}
use Rattle.record_verdict.specs.declared.scopes.Admission.TheVariants as admission
use Rattle.record_verdict.specs.Scopes.{session_scope}
use Rattle.day_sessions.proofs.judged_sessions.SessionQuestionSymbolJudgeJudgedSymbols.judge.Goals as goal

pub before_rule-requires : goal.before_rule-requires
before_rule-requires c = few-next c.requires

pub session_report-requires-clause-phases : goal.session_report-requires-clause-phases
session_report-requires-clause-phases c = c.requires.has.0

pub session_report-requires-clause-timed : goal.session_report-requires-clause-timed
session_report-requires-clause-timed c =
    let next = c.requires in
    let times = c.deref.ensures.value ∙ c.in_ok-times.ensures ∙ ap (λ asked. times_if asked c.args.records.records.trades.trades) c.any.ensures in
    let is = given-of admission.All (asks_further c.args.self.now.checks) c.args.symbol.now c.in_ok-given.ensures.gives times next.entries next.trades next.is in
    has-times c.args.self.now.checks (session_scope c.args.symbol.now) next.entries next.trades c.in_ok-given.given c.deref.result.now is.before is.times_are

pub add-requires : goal.add-requires
add-requires c =
    let next = c.requires in
    let sessions = next.has.1 in
    room-for-one (session_told c.args.self.now.checks next.entries next.trades) next.symbols sessions.sessions c.args.judged.now sessions.sessions_are.same_length sessions.tells next.few

pub returns : goal.returns
returns c =
    let times = c.deref.ensures.value ∙ c.in_ok-times.ensures ∙ ap (λ asked. times_if asked c.args.records.records.trades.trades) c.any.ensures in
    on_ok_weaker c.add.result
    (λ adds first entries trades symbols has before.
    let is = given-of admission.All (asks_further c.args.self.now.checks) c.args.symbol.now c.in_ok-given.ensures.gives times entries trades has in
    (before.0, sessions-more c.nothing_is_found_unasked.ensures c.args.self.now.phases.now c.args.self.now.table c.args.self.now.checks entries trades symbols c.args.symbol.now c.in_ok-given.given c.deref.result.now c.in_ok-report.report c.args.judged.now c.add.new.self is c.in_ok-report.ensures adds before.1))
    c.add.ensures
