-- How the reports of a trade log are paired into trades, and finding 4. The reports of one trade
-- id (tag 527), in log order, are taken two by two. Lists of reports named `all` and `before` have
-- the latest first, so that the place of a report is one more than the number of those before it.
use Rattle.std.specs.Prelude.{◌≡◌, ℕ, Bool, false, not, ◌&&◌, ◌+◌, ◌==◌, Option, Some, None, Result, Ok, Err, MatchResult, List, [], ◌∷◌, ◌++◌, length, map, option_map, reverse, if◌then◌else◌}
use Rattle.std.specs.List.{find}
use Rattle.std.specs.Option.{option_or}
use Rattle.audit_base.specs.Orders.{same_name, same_side}
use Rattle.audit_base.specs.declared.findings.Finding.{Finding}
use Rattle.audit_base.specs.Flaws.{finding_of}
use Rattle.audit_base.specs.declared.flaws.Evidence.TheVariants.{Unpaired}
use Rattle.audit_base.specs.declared.names.Key.{Key}
use Rattle.audit_base.specs.declared.records.TradeRecord.{TradeRecord}
use Rattle.audit_base.specs.declared.terms.Side.{Side}
use Rattle.audit_base.specs.declared.terms.Side.TheVariants as side
use Rattle.trade_reports.specs.declared.reports.Report.{Report}
use Rattle.trade_reports.specs.declared.reports.PlacedReport.{PlacedReport}
use Rattle.trade_reports.specs.declared.reports.UnpairedReport.{UnpairedReport}
use Rattle.trade_reports.specs.declared.pairing.Paired.{Paired}
use Rattle.trade_reports.specs.declared.pairing.Paired.TheVariants.{Trades, Alone}

-- a report, unless it is the second of the pair that this one is the first of
abbrev pub first_unless_waiting : PlacedReport → Option PlacedReport → Option PlacedReport
first_unless_waiting report None = Some report
first_unless_waiting report (Some first) = None

-- the report that waits for a second one with this id: the latest report with the id,
-- unless one was waiting for that
abbrev pub waiting_report_newest_first : List ℕ → List Report → Option PlacedReport
waiting_report_newest_first id [] = None
waiting_report_newest_first id (report ∷ before) =
    if same_name id report.trade
    then first_unless_waiting (record { place = length before + 1; report = report })
    (waiting_report_newest_first id before)
    else waiting_report_newest_first id before

-- the first and the second report of a pair
pub record ReportPair : Type 0 where
  pub first : PlacedReport
  pub second : PlacedReport

-- the pair of a second report with the first one that waits for it, or no pair
abbrev pub pair_with : PlacedReport → Option PlacedReport → List ReportPair
pair_with second None = []
pair_with second (Some first) = record { first = first; second = second } ∷ []

-- the pairs, in the order of their second reports
abbrev pub report_pairs_newest_first : List Report → List ReportPair
report_pairs_newest_first [] = []
report_pairs_newest_first (report ∷ before) =
    report_pairs_newest_first before
    ++ pair_with (record { place = length before + 1; report = report })
    (waiting_report_newest_first report.trade before)

-- two reports agree: one is of the buy side and the other of the sell side, and quantity,
-- price and symbol are equal
abbrev pub reports_agree : Report → Report → Bool
reports_agree first second =
    not (same_side first.side second.side) && first.quantity == second.quantity
    && first.price == second.price
    && same_name first.symbol second.symbol

-- the two reports of a pair do not agree
abbrev pub pair_disagrees : ReportPair → Bool
pair_disagrees pair = not (reports_agree pair.first.report pair.second.report)

-- the key of the buyer, and of the seller
abbrev pub buy_key : Side → Key → Key → Key
buy_key side.Buy first second = first
buy_key side.Sell first second = second

abbrev pub sell_key : Side → Key → Key → Key
sell_key side.Buy first second = second
sell_key side.Sell first second = first

-- the trade of a pair: its id, the keys of the two reports, and the time of the second one
abbrev pub trade_of_reports : Report → Report → TradeRecord
trade_of_reports first second = record {
  trade = second.trade;
  time = second.time;
  symbol = second.symbol;
  buy = buy_key first.side first.key second.key;
  sell = sell_key first.side first.key second.key;
  quantity = second.quantity;
  price = second.price;
}

-- the trade of each pair
abbrev pub trades_of_pairs : List ReportPair → List TradeRecord
trades_of_pairs listed = map (λ pair. trade_of_reports pair.first.report pair.second.report) listed

-- the reports with their places, in log order
abbrev pub placed_reports_newest_first : List Report → List PlacedReport
placed_reports_newest_first [] = []
placed_reports_newest_first (report ∷ before) =
    placed_reports_newest_first before ++ record { place = length before + 1; report = report } ∷ []

-- there is a report, and it has this place
abbrev pub is_report_at : ℕ → Option PlacedReport → Bool
is_report_at place None = false
is_report_at place (Some first) = first.place == place

-- the least report that is first and has no second
abbrev pub least_waiting_newest_first : List Report → Option PlacedReport
least_waiting_newest_first all =
    find (λ report. is_report_at report.place (waiting_report_newest_first report.report.trade all))
    (placed_reports_newest_first all)

-- a pair that disagrees: the second report, with the first one shown
abbrev pub disagreement_of : ReportPair → UnpairedReport
disagreement_of pair = record { place = pair.second.place; first = Some pair.first.place }

-- the least disagreement
abbrev pub disagreement_newest_first : List Report → Option UnpairedReport
disagreement_newest_first all =
    option_map disagreement_of (find pair_disagrees (report_pairs_newest_first all))

-- a report that is first and has no second
abbrev pub unpaired_without_second : PlacedReport → UnpairedReport
unpaired_without_second report = record { place = report.place; first = None }

-- the least second report that disagrees with its first; where there is none, the least first
-- report that has no second
abbrev pub unpaired_report_newest_first : List Report → Option UnpairedReport
unpaired_report_newest_first all =
    option_or (disagreement_newest_first all)
    (option_map unpaired_without_second (least_waiting_newest_first all))

-- finding 4 at a report
abbrev pub unpaired_finding : UnpairedReport → Finding
unpaired_finding lone =
    finding_of [] (record { place = lone.place; evidence = Unpaired lone.first })

-- the trades, or finding 4 in their place
abbrev pub trades_unless_unpaired : Option UnpairedReport → List TradeRecord
    → Result (List TradeRecord) Finding
trades_unless_unpaired None trades = Ok trades
trades_unless_unpaired (Some lone) trades = Err (unpaired_finding lone)

-- the trades of these reports, given newest first, or finding 4 in their place
abbrev pub pairing_newest_first : List Report → Result (List TradeRecord) Finding
pairing_newest_first all =
    trades_unless_unpaired (unpaired_report_newest_first all)
    (trades_of_pairs (report_pairs_newest_first all))

-- The trades of these reports, in the order of their second reports, or finding 4 in their place.
unfoldable pub pairing : List Report → Result (List TradeRecord) Finding
pairing reports = pairing_newest_first (reverse reports)

-- what a trade log that has been read gives: its trades, or that its reports do not pair
abbrev pub result_of_paired : Paired → Result (List TradeRecord) Finding
result_of_paired (Trades trades) = Ok trades
result_of_paired (Alone finding) = Err finding

-- some trades were handed on, and they are all that the reports pair into
pub record HasTrades (has_taken : List TradeRecord → Type 0)
    (trades : Result (List TradeRecord) Finding) : Type 0 where
  pub entries : List TradeRecord
  pub has : has_taken entries
  pub paired : trades ≡ Ok entries

-- what reports pair into is answered: a collector that was handed their trades, or finding 4
abbrev pub IsPairedAs : {K : Type 0} → (K → List TradeRecord → Type 0)
    → Result (List TradeRecord) Finding
    → Result K Finding → Type 0
IsPairedAs has_taken paired result =
    MatchResult result (λ trades. HasTrades (has_taken trades) paired)
    (λ finding. paired ≡ Err finding)
