-- Reports with numbers in range pair into trades with numbers in range.
use Rattle.std.proofs.Common.{◌+◌, Option, Some, None, List, [], ◌∷◌, length, reverse, subst, sym}
use Rattle.std.specs.Prelude.{IfOk}
use Rattle.std.specs.List.{All}
use Rattle.std.proofs.lemmas.Grind.{reverse_onto}
use Rattle.std.proofs.lemmas.List.Elements.{All-append, All-cons, All-head, All-nil, All-tail}
use Rattle.audit_base.specs.declared.records.TradeRecord.{TradeRecord}
use Rattle.audit_base.specs.Numbers.{AreInRange}
use Rattle.audit_base.specs.Trades.{TradesInRange, TradeInRange}
use Rattle.trade_reports.specs.declared.reports.UnpairedReport.{UnpairedReport}
use Rattle.trade_reports.specs.declared.reports.PlacedReport.{PlacedReport}
use Rattle.trade_reports.specs.declared.reports.Report.{Report}
use Rattle.trade_reports.specs.Pairings.{ReportPair, unpaired_report_newest_first, pair_with, pairing, report_pairs_newest_first, trade_of_reports, trades_of_pairs, trades_unless_unpaired, waiting_report_newest_first}
use Rattle.trade_reports.specs.Ranges.{PairedTradesAreInRange}

abbrev IsReport : Report → Type 0
IsReport report = AreInRange report.quantity report.price

reversed : (reports : List Report) → All IsReport reports → All IsReport (reverse reports)
reversed [] are = All-nil IsReport
reversed (report ∷ reports) are =
    subst (All IsReport) (sym (reverse_onto reports report []))
    (All-append IsReport (reverse reports) (report ∷ []) (reversed reports (All-tail IsReport report reports are)) (All-cons IsReport report [] (All-head IsReport report reports are) (All-nil IsReport)))

-- a trade has the numbers of its second report
abbrev IsPair : ReportPair → Type 0
IsPair pair = IsReport pair.second.report

paired-with : (second : PlacedReport) (first : Option PlacedReport) → IsReport second.report → All IsPair (pair_with second first)
paired-with second None is = All-nil IsPair
paired-with second (Some first) is = All-cons IsPair (record { first = first; second = second }) [] is (All-nil IsPair)

all-pairs : (all : List Report) → All IsReport all → All IsPair (report_pairs_newest_first all)
all-pairs [] are = All-nil IsPair
all-pairs (report ∷ before) are =
    All-append IsPair (report_pairs_newest_first before) (pair_with (record { place = length before + 1; report = report }) (waiting_report_newest_first report.trade before)) (all-pairs before (All-tail IsReport report before are))
    (paired-with (record { place = length before + 1; report = report }) (waiting_report_newest_first report.trade before) (All-head IsReport report before are))

all-trades : (listed : List ReportPair) → All IsPair listed → TradesInRange (trades_of_pairs listed)
all-trades [] are = All-nil TradeInRange
all-trades (pair ∷ listed) are =
    let is = All-head IsPair pair listed are in
    All-cons TradeInRange (trade_of_reports pair.first.report pair.second.report) (trades_of_pairs listed) is (all-trades listed (All-tail IsPair pair listed are))

unless-lone : (lone : Option UnpairedReport) (trades : List TradeRecord) → TradesInRange trades → IfOk (trades_unless_unpaired lone trades) TradesInRange
unless-lone None trades are = are
unless-lone (Some lone) trades are = tt

pub paired-range : PairedTradesAreInRange
unfolding pairing
paired-range reports are = let all = reverse reports in unless-lone (unpaired_report_newest_first all) (trades_of_pairs (report_pairs_newest_first all)) (all-trades (report_pairs_newest_first all) (all-pairs all (reversed reports are)))
