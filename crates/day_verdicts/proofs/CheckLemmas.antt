-- What is told of a symbol once the further checks have been looked at, by what its records give.
use Rattle.std.proofs.Common.{◌≡◌, ◌∙◌, ℕ, Bool, true, false, List, [], length, Option, Some, None, Ok, not, refl, sym, ap}
use Rattle.std.specs.Prelude.{slice_get, if◌then◌else◌}
use Rattle.std.proofs.lemmas.List.{length-map}
use Rattle.audit_base.specs.Moments.{Moment}
use Rattle.audit_base.specs.declared.findings.Finding.{Finding}
use Rattle.audit_base.specs.declared.orders.Deal.{Deal}
use Rattle.audit_base.specs.declared.orders.Order.{Order}
use Rattle.audit_base.specs.declared.records.OrderRecord.{OrderRecord}
use Rattle.audit_base.specs.declared.records.TradeRecord.{TradeRecord}
use Rattle.audit_base.specs.Histories.{order_list}
use Rattle.audit_base.specs.Trades.{deal_of_trade, deals_of_symbol, trades_of_symbol}
use Rattle.day_records.specs.KeptRecords.{times_if}
use Rattle.further_checks.specs.declared.findings.FurtherChecks.{FurtherChecks}
use Rattle.further_checks.specs.declared.findings.FurtherFinding.{FurtherFinding}
use Rattle.further_checks.specs.FurtherRules.{asks_further, first_finding_of_symbol, further_findings, further_findings_of_symbol, times_of_symbol}
use Rattle.further_checks.specs.Laws.{NothingIsFoundUnasked}
use Rattle.matching_core.specs.declared.deals_draft.ResolvedTrades.{ResolvedTrades}
use Rattle.record_verdict.specs.declared.before_rule.BeforeRule.{BeforeRule}
use Rattle.record_verdict.specs.declared.before_rule.BeforeRule.TheVariants as before_rule
use Rattle.record_verdict.specs.declared.questions.Question.{Question}
use Rattle.record_verdict.specs.declared.scopes.Scope.{Scope}
use Rattle.record_verdict.specs.BeforeRule.{IsBeforeRule, IsResolvedWithoutFinding}
use Rattle.record_verdict.specs.declared.verdicts.RecordVerdict.{RecordVerdict}
use Rattle.record_verdict.specs.RecordVerdict.{as_verdict}
use Rattle.record_verdict.specs.Stages.{IsVerdictAfterStages}
use Rattle.day_verdicts.specs.CheckedSymbols.{after_checks, after_finding, after_given, HasTimes, told_by_finding}
use Rattle.day_verdicts.specs.DayVerdicts.{is_acceptance}
use Rattle.day_verdicts.specs.Laws.{UncheckedSymbols}
use Rattle.day_verdicts.specs.SymbolAnswers.{SymbolAnswer}

-- what a test that is turned round says
pub false-of-not : (b : Bool) → not b ≡ true → b ≡ false
false-of-not true e = cc
false-of-not false e = refl

pub true-of-not : (b : Bool) → not b ≡ false → b ≡ true
true-of-not true e = refl
true-of-not false e = cc

-- a rejected symbol stays so
pub rejected-stays : (found : Option FurtherFinding) (told : SymbolAnswer) → told.accepted ≡ false → after_finding found told ≡ told
rejected-stays None told rejected = refl
rejected-stays (Some finding) told rejected = rw rejected refl

-- an accepted one is rejected by a finding
pub accepted-found : (found : Option FurtherFinding) (finding : FurtherFinding) (told : SymbolAnswer) → found ≡ Some finding → told.accepted ≡ true → after_finding found told ≡ told_by_finding finding
accepted-found found finding told is accepted = rw (is, accepted) refl

-- and stays where there is none
pub none-found : (found : Option FurtherFinding) (told : SymbolAnswer) → found ≡ None → after_finding found told ≡ told
none-found found told is = rw is refl

-- where no check is asked for, nothing is found
pub unasked-stays : NothingIsFoundUnasked → (checks : FurtherChecks) (orders : List Order) (deals : List Deal) (times : List Moment) (told : SymbolAnswer) → asks_further checks ≡ false
    → after_finding (slice_get (further_findings checks orders deals times) 0) told ≡ told
unasked-stays none checks orders deals times told unasked =
    ap (λ (found : List FurtherFinding). after_finding (slice_get found 0) told) (none checks orders deals times unasked)

-- as many times as deals
same-count : (orders : List Order) (symbol : List ℕ) (trades : List TradeRecord) → length (times_of_symbol symbol trades) ≡ length (deals_of_symbol orders symbol trades)
unfolding deals_of_symbol
same-count orders symbol trades = length-map (trades_of_symbol symbol trades) (λ e. e.1.time) ∙ sym (length-map (trades_of_symbol symbol trades) (deal_of_trade orders))

-- the times that are asked for
times-asked : (checks : FurtherChecks) (symbol : List ℕ) (trades : List TradeRecord) (times : List Moment) → times ≡ times_if (asks_further checks) (trades_of_symbol symbol trades) → asks_further checks ≡ true → times ≡ times_of_symbol symbol trades
times-asked checks symbol trades times times_are asked = times_are ∙ ap (λ (b : Bool). if b then times_of_symbol symbol trades else []) asked

-- there is a time for each deal of what is given
pub has-times : (checks : FurtherChecks) (scope : Scope) (entries : List OrderRecord) (trades : List TradeRecord) (given : BeforeRule) (times : List Moment) → IsBeforeRule scope entries (Ok trades) given
    → times ≡ times_if (asks_further checks) (trades_of_symbol scope.symbol trades) → HasTimes checks given times
has-times checks scope entries trades (before_rule.Found finding) times is times_are = tt
has-times checks scope entries trades (before_rule.Sound sound) times is times_are = λ asked.
    ap length (times-asked checks scope.symbol trades times times_are asked)
    ∙ same-count (order_list scope.symbol entries) scope.symbol trades
    ∙ ap length (sym is.deals)

-- the findings of what is given are those of the symbol
same-findings : NothingIsFoundUnasked → (checks : FurtherChecks) (scope : Scope) (entries : List OrderRecord) (trades : List TradeRecord) (sound : ResolvedTrades) (times : List Moment) → IsResolvedWithoutFinding scope entries (Ok trades) sound
    → times ≡ times_if (asks_further checks) (trades_of_symbol scope.symbol trades)
    → further_findings checks sound.history sound.deals.items times ≡ further_findings_of_symbol checks (order_list scope.symbol entries) scope.symbol trades
same-findings none checks scope entries trades sound times is times_are = by-asked (asks_further checks) refl
  where
    by-asked : (b : Bool) → asks_further checks ≡ b → further_findings checks sound.history sound.deals.items times ≡ further_findings_of_symbol checks (order_list scope.symbol entries) scope.symbol trades
    by-asked true asked =
        let same : times ≡ times_of_symbol scope.symbol trades = times-asked checks scope.symbol trades times times_are asked in
        λ i. further_findings checks (is.orders i) (is.deals i) (same i)
    by-asked false unasked =
        none checks sound.history sound.deals.items times unasked
        ∙ sym (none checks (order_list scope.symbol entries) (deals_of_symbol (order_list scope.symbol entries) scope.symbol trades) (times_of_symbol scope.symbol trades) unasked)

-- what is told after the checks of what is given is what is told after those of its records, where a
-- finding before the rule rejects
pub told-after : NothingIsFoundUnasked → (checks : FurtherChecks) (scope : Scope) (entries : List OrderRecord) (trades : List TradeRecord) (given : BeforeRule) (times : List Moment) (told : SymbolAnswer)
    → IsBeforeRule scope entries (Ok trades) given → times ≡ times_if (asks_further checks) (trades_of_symbol scope.symbol trades) → ((finding : Finding) → given ≡ before_rule.Found finding → told.accepted ≡ false)
    → after_given checks given times told ≡ after_checks checks entries trades scope.symbol told
told-after none checks scope entries trades (before_rule.Found finding) times told is times_are rejects =
    sym (rejected-stays (first_finding_of_symbol checks (order_list scope.symbol entries) scope.symbol trades) told (rejects finding refl))
told-after none checks scope entries trades (before_rule.Sound sound) times told is times_are rejects =
    ap (λ (found : List FurtherFinding). after_finding (slice_get found 0) told) (same-findings none checks scope entries trades sound times is times_are)

-- a verdict after a finding before the rule rejects
pub verdict-rejects : (q : Question) (given : BeforeRule) (v : RecordVerdict) → IsVerdictAfterStages q given v → (finding : Finding) → given ≡ before_rule.Found finding → is_acceptance (as_verdict v) ≡ false
verdict-rejects q given v stages finding found = ap (λ (j : RecordVerdict). is_acceptance (as_verdict j)) (stages.of_finding finding found)

-- where no check is asked for, what is told stays
pub unchecked : NothingIsFoundUnasked → UncheckedSymbols
unchecked none checks entries trades symbol told unasked =
    unasked-stays none checks (order_list symbol entries) (deals_of_symbol (order_list symbol entries) symbol trades) (times_of_symbol symbol trades) told unasked
