-- What the numbers of a trade report may be, and, as a statement,
-- that the trades of reports keep it.
use Rattle.std.specs.Prelude.{IfOk, All, List}
use Rattle.audit_base.specs.Numbers.{AreInRange}
use Rattle.audit_base.specs.Trades.{TradesInRange}
use Rattle.trade_reports.specs.declared.reports.Report.{Report}
use Rattle.trade_reports.specs.Pairings.{pairing}

-- each report has a quantity from 1 to 10^12, and a price from 0 to 10^18 - 1
abbrev pub ReportsInRange : List Report → Type 0
ReportsInRange reports = All (λ report. AreInRange report.quantity report.price) reports

-- so have the trades that such reports pair into
abbrev pub PairedTradesAreInRange : Type 0
PairedTradesAreInRange = (reports : List Report) → ReportsInRange reports
    → IfOk (pairing reports) TradesInRange
