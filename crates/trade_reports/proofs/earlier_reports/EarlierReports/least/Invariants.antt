use Rattle.trade_reports.specs.Drafts.{IsEarliestHeld}
use Rattle.trade_reports.proofs.earlier_reports.EarlierReports.least.Given as goal

abbrev pub invariant-loop-i : goal.invariant-loop-i
invariant-loop-i l = IsEarliestHeld l.fn.self l.i l.least
