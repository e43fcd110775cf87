-- The reports of trades pair into these trades.
use Rattle.std.proofs.Common.{◌≡◌, ℕ, ◌+◌, Bool, true, false, Option, None, List, [], ◌∷◌, ◌++◌, length, reverse, refl, sym, ap, ◌∙◌, inl, inr, Ok}
use Rattle.std.specs.List.{find, flat_map}
use Rattle.std.specs.Option.{option_or}
use Rattle.std.specs.Prelude.{option_map}
use Rattle.std.proofs.lemmas.Bool.{cases_Bool, eq-eqb}
use Rattle.std.proofs.lemmas.List.{append-nil, map-append, reverse-append, reverse-reverse}
use Rattle.std.proofs.lemmas.List.Folds.{find-append}
use Rattle.audit_base.specs.Orders.{same_name}
use Rattle.audit_base.specs.declared.records.TradeRecord.{TradeRecord}
use Rattle.audit_base.specs.declared.terms.Side.TheVariants as side
use Rattle.trade_reports.specs.declared.reports.PlacedReport.{PlacedReport}
use Rattle.trade_reports.specs.declared.reports.Report.{Report}
use Rattle.trade_reports.specs.Pairings.{ReportPair, reports_agree, disagreement_of, pair_disagrees, is_report_at, least_waiting_newest_first, pairing, pairing_newest_first, report_pairs_newest_first, placed_reports_newest_first, trade_of_reports, trades_of_pairs, trades_unless_unpaired, waiting_report_newest_first, unpaired_without_second}
use Rattle.trade_reports.specs.Reports.{report_to, reports_of}
use Rattle.trade_reports.proofs.FirstLemmas.{same_name-itself}

-- the reports of trades, the latest first
abbrev listed : List TradeRecord → List Report
listed [] = []
listed (trade ∷ earlier) = report_to side.Sell trade ∷ report_to side.Buy trade ∷ listed earlier

listed-append : (xs ys : List TradeRecord) → listed (xs ++ ys) ≡ listed xs ++ listed ys
listed-append [] ys = refl
listed-append (x ∷ xs) ys = ap (λ (l : List Report). report_to side.Sell x ∷ report_to side.Buy x ∷ l) (listed-append xs ys)

turned : (trades : List TradeRecord) → reverse (flat_map reports_of trades) ≡ listed (reverse trades)
turned [] = refl
turned (trade ∷ trades) =
    reverse-append (reports_of trade) (flat_map reports_of trades)
    ∙ ap (λ (l : List Report). l ++ listed (trade ∷ [])) (turned trades)
    ∙ sym (listed-append (reverse trades) (trade ∷ []))
    ∙ ap listed (sym (reverse-append (trade ∷ []) trades))

none-waits : (id : List ℕ) (trades : List TradeRecord) → waiting_report_newest_first id (listed trades) ≡ None
none-waits id [] = refl
none-waits id (trade ∷ earlier) =
    let none = none-waits id earlier in elim (cases_Bool (same_name id trade.trade)) [
      | inl same ↦ rw (same, none) refl
      | inr other ↦ rw (other, none) refl
    ]

abbrev the_pair : TradeRecord → List TradeRecord → ReportPair
the_pair trade earlier = record {
  first = record { place = length (listed earlier) + 1; report = report_to side.Buy trade };
  second = record { place = length (report_to side.Buy trade ∷ listed earlier) + 1; report = report_to side.Sell trade };
}

pairs-more : (trade : TradeRecord) (earlier : List TradeRecord) → report_pairs_newest_first (listed (trade ∷ earlier)) ≡ report_pairs_newest_first (listed earlier) ++ the_pair trade earlier ∷ []
pairs-more trade earlier =
    rw (same_name-itself trade.trade, none-waits trade.trade earlier)
    (ap (λ (l : List ReportPair). l ++ the_pair trade earlier ∷ []) (append-nil (report_pairs_newest_first (listed earlier))))

agree-again : (trade : TradeRecord) → reports_agree (report_to side.Buy trade) (report_to side.Sell trade) ≡ true
agree-again trade = rw (eq-eqb trade.quantity trade.quantity refl, eq-eqb trade.price trade.price refl, same_name-itself trade.symbol) refl

none-disagrees : (trades : List TradeRecord) → find pair_disagrees (report_pairs_newest_first (listed trades)) ≡ None
none-disagrees [] = refl
none-disagrees (trade ∷ earlier) =
    let none = none-disagrees earlier in
    ap (find pair_disagrees) (pairs-more trade earlier) ∙ find-append pair_disagrees (report_pairs_newest_first (listed earlier)) (the_pair trade earlier ∷ [])
    ∙ rw (none, agree-again trade) refl

trades-paired : (trades : List TradeRecord) → trades_of_pairs (report_pairs_newest_first (listed trades)) ≡ reverse trades
trades-paired [] = refl
trades-paired (trade ∷ earlier) =
    ap trades_of_pairs (pairs-more trade earlier) ∙ map-append (λ (pair : ReportPair). trade_of_reports pair.first.report pair.second.report) (report_pairs_newest_first (listed earlier)) (the_pair trade earlier ∷ [])
    ∙ ap (λ (l : List TradeRecord). l ++ trade ∷ []) (trades-paired earlier)
    ∙ sym (reverse-append (trade ∷ []) earlier)

find-nothing : {T : Type 0} (p : T → Bool) (xs : List T) → ((x : T) → p x ≡ false) → find p xs ≡ None
find-nothing p [] fails = refl
find-nothing p (x ∷ xs) fails = rw (fails x) (find-nothing p xs fails)

none-least : (trades : List TradeRecord) → least_waiting_newest_first (listed trades) ≡ None
none-least trades =
    find-nothing (λ report. is_report_at report.place (waiting_report_newest_first report.report.trade (listed trades))) (placed_reports_newest_first (listed trades)) (λ report. ap (is_report_at report.place) (none-waits report.report.trade trades))

pub pairs-again : (trades : List TradeRecord) → pairing (flat_map reports_of trades) ≡ Ok trades
unfolding pairing
pairs-again trades =
    let back = reverse trades in
    ap pairing_newest_first (turned trades)
    ∙ ap (λ (pair : Option ReportPair). trades_unless_unpaired (option_or (option_map disagreement_of pair) (option_map unpaired_without_second (least_waiting_newest_first (listed back)))) (trades_of_pairs (report_pairs_newest_first (listed back)))) (none-disagrees back)
    ∙ ap (λ (report : Option PlacedReport). trades_unless_unpaired (option_map unpaired_without_second report) (trades_of_pairs (report_pairs_newest_first (listed back)))) (none-least back)
    ∙ ap Ok (trades-paired back ∙ reverse-reverse trades)
