-- What is told of a symbol once the further checks that are asked for have been looked at: where
-- its rule accepts it, the first finding of these rejects it.
use Rattle.std.specs.Prelude.{◌≡◌, ℕ, true, false, List, Option, None, Some, length, slice_get, if◌then◌else◌}
use Rattle.audit_base.specs.Moments.{Moment}
use Rattle.audit_base.specs.declared.records.OrderRecord.{OrderRecord}
use Rattle.audit_base.specs.declared.records.TradeRecord.{TradeRecord}
use Rattle.audit_base.specs.Histories.{order_list}
use Rattle.further_checks.specs.declared.findings.FurtherChecks.{FurtherChecks}
use Rattle.further_checks.specs.declared.findings.FurtherFinding.{FurtherFinding}
use Rattle.further_checks.specs.FurtherRules.{asks_further, first_finding_of_symbol, further_findings}
use Rattle.further_checks.specs.FurtherTexts.{further_text}
use Rattle.record_verdict.specs.declared.before_rule.BeforeRule.{BeforeRule}
use Rattle.record_verdict.specs.declared.before_rule.BeforeRule.TheVariants as before_rule
use Rattle.day_verdicts.specs.SymbolAnswers.{SymbolAnswer}

-- what is told of a symbol that is rejected with this finding
abbrev pub told_by_finding : FurtherFinding → SymbolAnswer
told_by_finding finding = record { accepted = false; text = further_text finding }

-- what is told of a symbol of which this was told: an accepted one is rejected by the finding of a
-- further check, if there is one
abbrev pub after_finding : Option FurtherFinding → SymbolAnswer → SymbolAnswer
after_finding None told = told
after_finding (Some finding) told = if told.accepted then told_by_finding finding else told

-- the same of a symbol of these records: its first finding, as `offences` tells it
abbrev pub after_checks : FurtherChecks → List OrderRecord → List TradeRecord → List ℕ
    → SymbolAnswer → SymbolAnswer
after_checks checks entries trades symbol told =
    after_finding (first_finding_of_symbol checks (order_list symbol entries) symbol trades) told

-- What functions pass on.

-- the same of what records give before the rule is looked at, with the times of the trades
abbrev pub after_given : FurtherChecks → BeforeRule → List Moment → SymbolAnswer → SymbolAnswer
after_given checks (before_rule.Found finding) times told = told
after_given checks (before_rule.Sound sound) times told =
    after_finding (slice_get (further_findings checks sound.history sound.deals.items times) 0) told

-- where a further check is asked for, there is a time for each deal
abbrev pub HasTimes : FurtherChecks → BeforeRule → List Moment → Type 0
HasTimes checks (before_rule.Found finding) times = Unit {0}
HasTimes checks (before_rule.Sound sound) times =
    asks_further checks ≡ true → length times ≡ length sound.deals.items
