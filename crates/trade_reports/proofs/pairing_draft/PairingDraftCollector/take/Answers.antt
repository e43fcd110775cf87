use Rattle.std.proofs.Common.{refl}
use Rattle.trade_reports.proofs.PairLemmas.{takes-report, trades-place}
use Rattle.trade_reports.proofs.pairing_draft.PairingDraftCollector.take.Goals as goal

pub take_report-requires : goal.take_report-requires
take_report-requires g c = trades-place g.K.Collector.has_taken c.args.self.now c.requires

pub returns : goal.returns
returns g c = λ reports is.
    let next = takes-report g.K.Collector.has_taken c.args.self.now c.take_report.new.firsts c.take_report.new.trades c.take_report.new.lone c.args.report _ refl c.in_ok-take_report.ensures reports is in
    record { count = next.0; known = next.1 }
