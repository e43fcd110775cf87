-- What a pairing draft has been handed.
use Rattle.std.specs.Prelude.{◌≡◌, ℕ, ◌<◌, ◌≤◌, Bool, false, nat_le, IfSome, IsSomeAnd, MatchBool, slice_get, Option, Some, None, List, [], ◌∷◌, length, reverse, if◌then◌else◌}
use Rattle.std.specs.HashMap.{get}
use Rattle.audit_base.specs.Orders.{same_name}
use Rattle.audit_base.specs.declared.records.TradeRecord.{TradeRecord}
use Rattle.trade_reports.specs.declared.reports.Report.{Report}
use Rattle.trade_reports.specs.declared.reports.UnpairedReport.{UnpairedReport}
use Rattle.trade_reports.specs.declared.reports.PlacedReport.{PlacedReport}
use Rattle.trade_reports.specs.declared.first_reports.FirstReports.{FirstReports}
use Rattle.trade_reports.specs.declared.earlier_reports.EarlierReports.{EarlierReports}
use Rattle.trade_reports.specs.declared.pairing_draft.PairingDraft.{PairingDraft}
use Rattle.trade_reports.specs.Pairings.{reports_agree, disagreement_of, disagreement_newest_first, report_pairs_newest_first, trade_of_reports, trades_of_pairs, waiting_report_newest_first}
use Rattle.log_source.specs.Handing.{HandsOnMore}

-- a report at a place
abbrev pub report_at : ℕ → Report → PlacedReport
report_at place report = record { place = place; report = report }

-- the report with an id, as a map holds it
abbrev pub report_held_in : EarlierReports → List ℕ → Option PlacedReport
report_held_in reports id = get same_name reports.map id

-- whether there is a report, and it has the id
abbrev pub latest_has_id : Option PlacedReport → List ℕ → Bool
latest_has_id None id = false
latest_has_id (Some latest) id = same_name latest.report.trade id

-- the report that came last, where it still waits
abbrev pub latest_waiting : FirstReports → Option PlacedReport
latest_waiting reports = if reports.waits then reports.latest else None

-- the latest report where it has the id, else what is found among the earlier ones
abbrev pub latest_or_earlier : Option PlacedReport → List ℕ → Option PlacedReport
    → Option PlacedReport
latest_or_earlier latest id found = if latest_has_id latest id then latest else found

-- the report with an id that waits for a second one
abbrev pub first_report_in : FirstReports → List ℕ → Option PlacedReport
first_report_in reports id =
    latest_or_earlier (latest_waiting reports) id (report_held_in reports.earlier id)

-- Of some reports, the latest first: which wait for a second one, the least disagreement,
-- and where there is none that their trades were handed on.
pub record IsKnownOfReports {K : Type 0} (has_taken : K → List TradeRecord → Type 0)
    (firsts : FirstReports)
    (lone : Option UnpairedReport) (trades : K) (all : List Report)
    : Type 0 where
  pub waits : (id : List ℕ) → first_report_in firsts id ≡ waiting_report_newest_first id all
  pub disagreement : lone ≡ disagreement_newest_first all
  pub handed : lone ≡ None → has_taken trades (trades_of_pairs (report_pairs_newest_first all))

-- the draft has been handed exactly these reports
pub record IsPairingDraft {K : Type 0} (has_taken : K → List TradeRecord → Type 0)
    (draft : PairingDraft K)
    (reports : List Report)
    : Type 0 where
  pub count : draft.count ≡ length reports
  pub known : IsKnownOfReports has_taken draft.firsts draft.lone draft.trades (reverse reports)

-- the earlier of two reports
abbrev pub earlier_report : Option PlacedReport → PlacedReport → PlacedReport
earlier_report None first = first
earlier_report (Some found) first = if nat_le found.place first.place then found else first

-- A pair was taken: its trade was handed on, unless it or a pair before it disagrees.
abbrev pub TakesPair : {K : Type 0} → (K → List TradeRecord → Type 0) → Option UnpairedReport
    → PlacedReport → PlacedReport
    → K → K → Option UnpairedReport → Type 0
TakesPair has_taken (Some found) first second old new lone = lone ≡ Some found
TakesPair has_taken None first second old new lone =
    MatchBool (reports_agree first.report second.report)
    ((lone ≡ None) × HandsOnMore (has_taken old) (has_taken new)
    (trade_of_reports first.report second.report ∷ []))
    (lone ≡ Some (disagreement_of (record { first = first; second = second })))

-- the first of the entries up to an index that came first, if there are any
pub record IsEarliestHeld (held : EarlierReports) (count : ℕ) (least : Option PlacedReport)
    : Type 0 where
  pub among : IfSome least (λ first. (id : List ℕ) × (report_held_in held id ≡ Some first))
  pub below : (k : ℕ) (entry : List ℕ × PlacedReport) → k < count
      → slice_get held.map.entries k ≡ Some entry
      → IsSomeAnd least (λ first. first.place ≤ entry.1.place)
