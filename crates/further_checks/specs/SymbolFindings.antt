-- The parts of a finding about a symbol, whether its rule or a further check tells it.
use Rattle.std.specs.Prelude.{ℕ, List, Option, None, Some}
use Rattle.audit_base.specs.Words.{property_word}
use Rattle.audit_base.specs.declared.findings.Shown.{Shown}
use Rattle.audit_base.specs.declared.findings.Shown.TheVariants as shown
use Rattle.audit_base.specs.declared.terms.Which.{Which}
use Rattle.audit_base.specs.declared.terms.Which.TheVariants as which
use Rattle.further_checks.specs.declared.findings.FurtherFinding.{FurtherFinding}
use Rattle.further_checks.specs.declared.findings.FurtherFinding.TheVariants.{RestingPrice, TradeTime}
use Rattle.further_checks.specs.declared.symbol_findings.SymbolFinding.{SymbolFinding}
use Rattle.further_checks.specs.declared.symbol_findings.SymbolFinding.TheVariants.{Further, Rule}
use Rattle.further_checks.specs.FurtherTexts.{further_first, further_place, further_word}

-- the word of the property
abbrev pub finding_word : SymbolFinding → List ℕ
finding_word (Rule f) = property_word f.property
finding_word (Further failure) = further_word failure

-- the log of the offending record: a further check looks at trades
abbrev pub finding_log : SymbolFinding → Which
finding_log (Rule f) = f.log
finding_log (Further failure) = which.Trades

-- the place of the offending record
abbrev pub finding_place : SymbolFinding → ℕ
finding_place (Rule f) = f.place
finding_place (Further failure) = further_place failure

-- what is shown first
abbrev pub shown_first : SymbolFinding → Option Shown
shown_first (Rule f) = f.first
shown_first (Further failure) = Some (shown.Order (further_first failure))

-- what is shown second
abbrev pub shown_second : SymbolFinding → Option Shown
shown_second (Rule f) = f.second
shown_second (Further (RestingPrice place resting incoming)) = Some (shown.Order incoming)
shown_second (Further (TradeTime place order)) = None
