use Rattle.std.proofs.Common.{take}
use Rattle.trade_reports.specs.Drafts.{IsPairingDraft}
use Rattle.trade_reports.proofs.pairing.pair_by.Given as goal

abbrev pub invariant-loop-report : goal.invariant-loop-report
invariant-loop-report g l = IsPairingDraft g.K.Collector.has_taken l.draft (take l.report-index l.reports)
