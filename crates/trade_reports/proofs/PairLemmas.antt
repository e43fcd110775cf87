-- Pairing one report after another.
use Rattle.std.proofs.Common.{◌≡◌, ℕ, zero, suc, ◌+◌, ◌-◌, ◌≤◌, ◌<◌, ◌^◌, Bool, true, false, cond, not, Option, Some, None, Result, Ok, Err, List, [], ◌∷◌, ◌++◌, length, reverse, slice_get, refl, sym, subst, ap, ◌∙◌, inl, inr, arith}
use Rattle.std.specs.Prelude.{IfOk, IfNone, IfSome, MatchBool, nat_le, option_map, ◌⊎◌}
use Rattle.std.specs.List.{find}
use Rattle.std.specs.Option.{option_or}
use Rattle.std.specs.Map.{lookup}
use Rattle.std.proofs.lemmas.Bool.Decides.{nat_tests}
use Rattle.std.proofs.lemmas.Bool.{cases_Bool, cases_lt, eqb-true, eq-eqb}
use Rattle.std.proofs.lemmas.List.{append-nil, length-append, length-map, length-reverse, map-append, reverse-append}
use Rattle.std.proofs.lemmas.List.Folds.{find-append}
use Rattle.audit_base.specs.Orders.{same_name}
use Rattle.audit_base.specs.declared.records.TradeRecord.{TradeRecord}
use Rattle.log_source.specs.Collectors.{HasPlace}
use Rattle.trade_reports.specs.declared.reports.Report.{Report}
use Rattle.trade_reports.specs.declared.pairing_draft.PairingDraft.{PairingDraft}
use Rattle.trade_reports.specs.declared.reports.UnpairedReport.{UnpairedReport}
use Rattle.trade_reports.specs.declared.reports.PlacedReport.{PlacedReport}
use Rattle.trade_reports.specs.declared.first_reports.FirstReports.{FirstReports}
use Rattle.trade_reports.specs.declared.earlier_reports.EarlierReports.{EarlierReports}
use Rattle.trade_reports.specs.Drafts.{IsKnownOfReports, IsEarliestHeld, IsPairingDraft, TakesPair, earlier_report, first_report_in, report_held_in}
use Rattle.trade_reports.specs.Pairings.{HasTrades, ReportPair, reports_agree, disagreement_of, pair_disagrees, disagreement_newest_first, unpaired_report_newest_first, first_unless_waiting, is_report_at, least_waiting_newest_first, unpaired_finding, pair_with, pairing, report_pairs_newest_first, placed_reports_newest_first, trade_of_reports, trades_of_pairs, trades_unless_unpaired, waiting_report_newest_first, unpaired_without_second}
use Rattle.log_source.specs.Handing.{HandsOnMore}
use Rattle.trade_reports.proofs.FirstLemmas.{same_name-is, same_name-itself}

-- a name is the same the other way round
same_name-turned : (a b : List ℕ) → same_name a b ≡ same_name b a
same_name-turned a b = elim (cases_Bool (same_name a b)) [
  | inl same ↦ same ∙ sym (same_name-itself b) ∙ ap (λ (x : List ℕ). same_name b x) (sym (same_name-is a b same))
  | inr other ↦ elim (cases_Bool (same_name b a)) [
    | inl turned ↦
        let is : b ≡ a = same_name-is b a turned in
        let itself : same_name a b ≡ true = ap (same_name a) is ∙ same_name-itself a in absurd (cc (other, itself))
    | inr not_turned ↦ other ∙ sym not_turned
  ]
]

-- the latest report
abbrev placed_report : Report → List Report → PlacedReport
placed_report report before = record { place = length before + 1; report = report }

waits-first : (id : List ℕ) (report : Report) (before : List Report) (then_in in_old : Option PlacedReport) → waiting_report_newest_first report.trade before ≡ None → in_old ≡ waiting_report_newest_first id before
    → then_in ≡ cond (same_name report.trade id) (Some (placed_report report before)) (cond {A = Option PlacedReport} (same_name report.trade id) None in_old) → then_in ≡ waiting_report_newest_first id (report ∷ before)
waits-first id report before then_in in_old none old new = elim (cases_Bool (same_name report.trade id)) [
  | inl same ↦
      let is : report.trade ≡ id = same_name-is report.trade id same in
      let turned : same_name id report.trade ≡ true = sym (same_name-turned report.trade id) ∙ same in
      let nothing : waiting_report_newest_first id before ≡ None = ap (λ (x : List ℕ). waiting_report_newest_first x before) (sym is) ∙ none in
      rw (turned, nothing) (rw same at new)
  | inr other ↦
      let turned : same_name id report.trade ≡ false = sym (same_name-turned report.trade id) ∙ other in
      rw turned ((rw other at new) ∙ old)
]

waits-second : (id : List ℕ) (report : Report) (before : List Report) (first : PlacedReport) (then_in in_old : Option PlacedReport) → waiting_report_newest_first report.trade before ≡ Some first → in_old ≡ waiting_report_newest_first id before
    → then_in ≡ cond {A = Option PlacedReport} (same_name report.trade id) None in_old → then_in ≡ waiting_report_newest_first id (report ∷ before)
waits-second id report before first then_in in_old some old new = elim (cases_Bool (same_name report.trade id)) [
  | inl same ↦
      let is : report.trade ≡ id = same_name-is report.trade id same in
      let turned : same_name id report.trade ≡ true = sym (same_name-turned report.trade id) ∙ same in
      let there : waiting_report_newest_first id before ≡ Some first = ap (λ (x : List ℕ). waiting_report_newest_first x before) (sym is) ∙ some in
      rw (turned, there) (rw same at new)
  | inr other ↦
      let turned : same_name id report.trade ≡ false = sym (same_name-turned report.trade id) ∙ other in
      rw turned ((rw other at new) ∙ old)
]

-- the pairs with the latest report
pairs-first : (report : Report) (before : List Report) → waiting_report_newest_first report.trade before ≡ None → report_pairs_newest_first (report ∷ before) ≡ report_pairs_newest_first before
pairs-first report before none = ap (λ (o : Option PlacedReport). report_pairs_newest_first before ++ pair_with (placed_report report before) o) none ∙ append-nil (report_pairs_newest_first before)

pairs-second : (report : Report) (before : List Report) (first : PlacedReport) → waiting_report_newest_first report.trade before ≡ Some first
    → report_pairs_newest_first (report ∷ before) ≡ report_pairs_newest_first before ++ record { first = first; second = placed_report report before } ∷ []
pairs-second report before first some = ap (λ (o : Option PlacedReport). report_pairs_newest_first before ++ pair_with (placed_report report before) o) some

-- what a pair that disagrees gives, if there is one
abbrev disagreement : Option ReportPair → Option UnpairedReport
disagreement pair = option_map disagreement_of pair

-- a disagreement stays, and else it is that of the latest pair
found-stays : (xs : List ReportPair) (pair : ReportPair) (lone : UnpairedReport) → disagreement (find pair_disagrees xs) ≡ Some lone → disagreement (find pair_disagrees (xs ++ pair ∷ [])) ≡ Some lone
found-stays xs pair lone h = ap disagreement (find-append pair_disagrees xs (pair ∷ [])) ∙ by (find pair_disagrees xs) h
  where
    by : (o : Option ReportPair) → disagreement o ≡ Some lone → disagreement (option_or o (find pair_disagrees (pair ∷ []))) ≡ Some lone
    by None h = absurd (cc h)
    by (Some found) h = h

found-last : (xs : List ReportPair) (pair : ReportPair) → None ≡ disagreement (find pair_disagrees xs) → disagreement (find pair_disagrees (xs ++ pair ∷ [])) ≡ cond (pair_disagrees pair) (Some (disagreement_of pair)) None
found-last xs pair h = ap disagreement (find-append pair_disagrees xs (pair ∷ [])) ∙ by (find pair_disagrees xs) h ∙ last (pair_disagrees pair)
  where
    by : (o : Option ReportPair) → None ≡ disagreement o → disagreement (option_or o (find pair_disagrees (pair ∷ []))) ≡ disagreement (find pair_disagrees (pair ∷ []))
    by None h = refl
    by (Some found) h = absurd (cc h)

    last : (b : Bool) → disagreement (cond b (Some pair) None) ≡ cond b (Some (disagreement_of pair)) None
    last true = refl
    last false = refl

module _ {K : Type 0} (has_taken : K → List TradeRecord → Type 0) where
  pub known-first : (firsts after : FirstReports) (lone : Option UnpairedReport) (trades : K) (report : Report) (all : List Report)
      → waiting_report_newest_first report.trade all ≡ None → IsKnownOfReports has_taken firsts lone trades all
      → ((q : List ℕ) → first_report_in after q ≡ cond (same_name report.trade q) (Some (placed_report report all)) (cond {A = Option PlacedReport} (same_name report.trade q) None (first_report_in firsts q)))
      → IsKnownOfReports has_taken after lone trades (report ∷ all)
  known-first firsts after lone trades report all none known new =
      let same = pairs-first report all none in
      record {
        waits = λ id. waits-first id report all (first_report_in after id) (first_report_in firsts id) none (known.waits id) (new id);
        disagreement = known.disagreement ∙ ap (λ (l : List ReportPair). disagreement (find pair_disagrees l)) (sym same);
        handed = λ good. subst (λ (l : List ReportPair). has_taken trades (trades_of_pairs l)) (sym same) (known.handed good);
      }

  second-lone : (lone found : Option UnpairedReport) (first : PlacedReport) (report : Report) (all : List Report) (trades after : K) → waiting_report_newest_first report.trade all ≡ Some first → lone ≡ disagreement_newest_first all
      → TakesPair has_taken lone first (placed_report report all) trades after found → found ≡ disagreement_newest_first (report ∷ all)
  second-lone (Some old) found first report all trades after some is takes =
      takes ∙ sym (ap (λ (l : List ReportPair). disagreement (find pair_disagrees l)) (pairs-second report all first some) ∙ found-stays (report_pairs_newest_first all) (record { first = first; second = placed_report report all }) old (sym is))
  second-lone None found first report all trades after some is takes =
      let pair : ReportPair = record { first = first; second = placed_report report all } in
      by (reports_agree first.report report) takes ∙ sym (ap (λ (l : List ReportPair). disagreement (find pair_disagrees l)) (pairs-second report all first some) ∙ found-last (report_pairs_newest_first all) pair is)
    where
      by : (b : Bool) → MatchBool b ((found ≡ None) × HandsOnMore (has_taken trades) (has_taken after) (trade_of_reports first.report report ∷ [])) (found ≡ Some (disagreement_of (record { first = first; second = placed_report report all })))
          → found ≡ cond (not b) (Some (disagreement_of (record { first = first; second = placed_report report all }))) None
      by true t = t.0
      by false t = t

  second-handed : (lone found : Option UnpairedReport) (first : PlacedReport) (report : Report) (all : List Report) (trades after : K) → waiting_report_newest_first report.trade all ≡ Some first
      → (lone ≡ None → has_taken trades (trades_of_pairs (report_pairs_newest_first all))) → TakesPair has_taken lone first (placed_report report all) trades after found → found ≡ None → has_taken after (trades_of_pairs (report_pairs_newest_first (report ∷ all)))
  second-handed (Some old) found first report all trades after some handed takes good = absurd (cc (takes, good))
  second-handed None found first report all trades after some handed takes good =
      let pair : ReportPair = record { first = first; second = placed_report report all } in
      let shown : trades_of_pairs (report_pairs_newest_first (report ∷ all)) ≡ trades_of_pairs (report_pairs_newest_first all) ++ trade_of_reports first.report report ∷ [] =
      ap trades_of_pairs (pairs-second report all first some) ∙ map-append (λ (p : ReportPair). trade_of_reports p.first.report p.second.report) (report_pairs_newest_first all) (pair ∷ []) in
      subst (has_taken after) (sym shown) (by (reports_agree first.report report) takes)
    where
      by : (b : Bool) → MatchBool b ((found ≡ None) × HandsOnMore (has_taken trades) (has_taken after) (trade_of_reports first.report report ∷ [])) (found ≡ Some (disagreement_of (record { first = first; second = placed_report report all })))
          → has_taken after (trades_of_pairs (report_pairs_newest_first all) ++ trade_of_reports first.report report ∷ [])
      by true t = t.1 (trades_of_pairs (report_pairs_newest_first all)) (handed refl)
      by false t = absurd (cc (t, good))

  pub known-second : (firsts after : FirstReports) (lone found : Option UnpairedReport) (trades then_trades : K) (first : PlacedReport) (report : Report) (all : List Report)
      → waiting_report_newest_first report.trade all ≡ Some first → IsKnownOfReports has_taken firsts lone trades all
      → ((q : List ℕ) → first_report_in after q ≡ cond {A = Option PlacedReport} (same_name report.trade q) None (first_report_in firsts q))
      → TakesPair has_taken lone first (placed_report report all) trades then_trades found → IsKnownOfReports has_taken after found then_trades (report ∷ all)
  known-second firsts after lone found trades then_trades first report all some known new takes = record {
    waits = λ id. waits-second id report all first (first_report_in after id) (first_report_in firsts id) some (known.waits id) (new id);
    disagreement = second-lone lone found first report all trades then_trades some known.disagreement takes;
    handed = second-handed lone found first report all trades then_trades some known.handed takes;
  }

-- no more trades than reports
pairs-count : (all : List Report) → length (report_pairs_newest_first all) ≤ length all
pairs-count [] = omega arith
pairs-count (report ∷ all) =
    let rest = pairs-count all in
    let both = length-append (report_pairs_newest_first all) (pair_with (placed_report report all) (waiting_report_newest_first report.trade all)) in
    let one = few (placed_report report all) (waiting_report_newest_first report.trade all) in omega (arith, rest, both, one)
  where
    few : (second : PlacedReport) (o : Option PlacedReport) → length (pair_with second o) ≤ 1
    few second None = omega arith
    few second (Some first) = omega arith

trades-count : (all : List Report) → length (trades_of_pairs (report_pairs_newest_first all)) ≤ length all
trades-count all =
    let shown = length-map (report_pairs_newest_first all) (λ (p : ReportPair). trade_of_reports p.first.report p.second.report) in omega (arith, shown, pairs-count all)

-- reports that pair have the trades of their pairs
pairing-trades : (reports : List Report) (entries : List TradeRecord) → pairing reports ≡ Ok entries → trades_of_pairs (report_pairs_newest_first (reverse reports)) ≡ entries
unfolding pairing
pairing-trades reports entries is = by (unpaired_report_newest_first (reverse reports)) is
  where
    by : (lone : Option UnpairedReport) → trades_unless_unpaired lone (trades_of_pairs (report_pairs_newest_first (reverse reports))) ≡ Ok entries → trades_of_pairs (report_pairs_newest_first (reverse reports)) ≡ entries
    by None e = cc e
    by (Some lone) e = absurd (cc e)

module _ {K : Type 0} (has_taken : K → List TradeRecord → Type 0) where
  -- a collector of trades has a place for the trade of the next report
  pub trades-place : (draft : PairingDraft K) → HasPlace (IsPairingDraft has_taken) draft → draft.lone ≡ None → HasPlace has_taken draft.trades
  trades-place draft place good =
      let known = place.has.known in
      let few = trades-count (reverse place.entries) in
      record { entries = trades_of_pairs (report_pairs_newest_first (reverse place.entries)); has = known.handed good; fits_places = omega (arith, few, length-reverse place.entries, place.fits_places) }

  -- and where all reports pair, one for another trade
  pub trades-few : (trades : K) (reports : List Report) → length reports < 2 ^ 32 - 1 → HasTrades (has_taken trades) (pairing reports) → HasPlace has_taken trades
  trades-few trades reports few is =
      let sizes = ap length (pairing-trades reports is.entries is.paired) in
      record { entries = is.entries; has = is.has; fits_places = omega (arith, few, sizes, trades-count (reverse reports), length-reverse reports) }

  pub takes-report : (draft : PairingDraft K) (firsts : FirstReports) (trades : K) (found : Option UnpairedReport) (report : Report) (place : ℕ) → place ≡ draft.count + 1
      → ((all : List Report) → place ≡ length all + 1 → IsKnownOfReports has_taken draft.firsts draft.lone draft.trades all → IsKnownOfReports has_taken firsts found trades (report ∷ all))
      → (reports : List Report) → IsPairingDraft has_taken draft reports → (place ≡ length (reports ++ report ∷ [])) × IsKnownOfReports has_taken firsts found trades (reverse (reports ++ report ∷ []))
  takes-report draft firsts trades found report place at takes reports is =
      let turned : reverse (reports ++ report ∷ []) ≡ report ∷ reverse reports = reverse-append reports (report ∷ []) in
      let sizes = length-reverse reports in
      let count = is.count in
      let next = takes (reverse reports) (omega (arith, at, count, sizes)) is.known in
      (omega (arith, at, count, length-append reports (report ∷ [])), subst (IsKnownOfReports has_taken firsts found trades) (sym turned) next)

-- what a call that succeeds says, weaker
pub ok-map : {T E : Type 0} (result : Result T E) (P Q : T → Type 0) → ((value : T) → P value → Q value) → IfOk result P → IfOk result Q
ok-map (Ok value) P Q weaker holds = weaker value holds
ok-map (Err why) P Q weaker holds = tt

-- what is at a place of a list
get-left : {X : Type 0} (xs ys : List X) (k : ℕ) (x : X) → slice_get xs k ≡ Some x → slice_get (xs ++ ys) k ≡ Some x
get-left [] ys k x h = absurd (cc h)
get-left (y ∷ xs) ys zero x h = h
get-left (y ∷ xs) ys (suc k) x h = get-left xs ys k x h

get-end : {X : Type 0} (xs : List X) (y : X) → slice_get (xs ++ y ∷ []) (length xs) ≡ Some y
get-end [] y = refl
get-end (x ∷ xs) y = get-end xs y

get-split : {X : Type 0} (xs : List X) (y : X) (k : ℕ) (x : X) → slice_get (xs ++ y ∷ []) k ≡ Some x → (slice_get xs k ≡ Some x) ⊎ ((k ≡ length xs) × (x ≡ y))
get-split [] y zero x h = inr (refl, sym (cc h))
get-split [] y (suc k) x h = absurd (cc h)
get-split (z ∷ xs) y zero x h = inl h
get-split (z ∷ xs) y (suc k) x h = by (get-split xs y k x h)
  where
    by : (slice_get xs k ≡ Some x) ⊎ ((k ≡ length xs) × (x ≡ y)) → (slice_get (z ∷ xs) (suc k) ≡ Some x) ⊎ ((suc k ≡ length (z ∷ xs)) × (x ≡ y))
    by (inl there) = inl there
    by (inr last) = inr (ap suc last.0, last.1)

-- the first element that passes a test
find-at : {X : Type 0} (p : X → Bool) (xs : List X) (i : ℕ) (x : X) → slice_get xs i ≡ Some x → p x ≡ true → ((k : ℕ) (y : X) → k < i → slice_get xs k ≡ Some y → p y ≡ false) → find p xs ≡ Some x
find-at p [] i x h passes before = absurd (cc h)
find-at p (y ∷ xs) zero x h passes before =
    let is : y ≡ x = cc h in
    let here : p y ≡ true = ap p is ∙ passes in rw here h
find-at p (y ∷ xs) (suc i) x h passes before =
    let fails : p y ≡ false = before 0 y (omega arith) refl in
    rw fails (find-at p xs i x h passes (λ k z less there. before (suc k) z (omega (arith, less)) there))

find-none : {X : Type 0} (p : X → Bool) (xs : List X) → ((x : X) → p x ≡ false) → find p xs ≡ None
find-none p [] fails = refl
find-none p (x ∷ xs) fails = rw (fails x) (find-none p xs fails)

length-placed : (all : List Report) → length (placed_reports_newest_first all) ≡ length all
length-placed [] = refl
length-placed (report ∷ before) =
    let rest = length-placed before in
    let both = length-append (placed_reports_newest_first before) (placed_report report before ∷ []) in omega (arith, rest, both)

-- the report at an index has the place after it
placed-at : (all : List Report) (k : ℕ) (found : PlacedReport) → slice_get (placed_reports_newest_first all) k ≡ Some found → found.place ≡ k + 1
placed-at [] k found h = absurd (cc h)
placed-at (report ∷ before) k found h = by (placed-at before k found) (get-split (placed_reports_newest_first before) (placed_report report before) k found h)
  where
    by : (slice_get (placed_reports_newest_first before) k ≡ Some found → found.place ≡ k + 1) → (slice_get (placed_reports_newest_first before) k ≡ Some found) ⊎ ((k ≡ length (placed_reports_newest_first before)) × (found ≡ placed_report report before)) → found.place ≡ k + 1
    by rest (inl there) = rest there
    by rest (inr last) =
        let place : found.place ≡ length before + 1 = ap (λ (p : PlacedReport). p.place) last.1 in
        omega (arith, place, last.0, length-placed before)

-- a report that waits is at its place, under its id
record Stands (id : List ℕ) (all : List Report) (first : PlacedReport) : Type 0 where
  index : ℕ
  place : first.place ≡ index + 1
  there : slice_get (placed_reports_newest_first all) index ≡ Some first
  named : id ≡ first.report.trade

waiting-stands : (id : List ℕ) (all : List Report) (first : PlacedReport) → waiting_report_newest_first id all ≡ Some first → Stands id all first
waiting-stands id [] first h = absurd (cc h)
waiting-stands id (report ∷ before) first h = elim (cases_Bool (same_name id report.trade)) [
  | inl same ↦ latest (waiting_report_newest_first id before) (rw same at h) same
  | inr other ↦ earlier_one (waiting-stands id before first (rw other at h))
]
  where
    latest : (o : Option PlacedReport) → first_unless_waiting (placed_report report before) o ≡ Some first → same_name id report.trade ≡ true → Stands id (report ∷ before) first
    latest None e same =
        let is : placed_report report before ≡ first = cc e in
        subst (Stands id (report ∷ before)) is (record {
          index = length before;
          place = refl;
          there = ap (λ (k : ℕ). slice_get (placed_reports_newest_first before ++ placed_report report before ∷ []) k) (sym (length-placed before)) ∙ get-end (placed_reports_newest_first before) (placed_report report before);
          named = same_name-is id report.trade same;
        })
    latest (Some other) e same = absurd (cc e)

    earlier_one : Stands id before first → Stands id (report ∷ before) first
    earlier_one s = record { index = s.index; place = s.place; there = get-left (placed_reports_newest_first before) (placed_report report before ∷ []) s.index first s.there; named = s.named }

-- no report waits: none is the least
none-waits : (all : List Report) → ((id : List ℕ) → waiting_report_newest_first id all ≡ None) → least_waiting_newest_first all ≡ None
none-waits all none = find-none (λ report. is_report_at report.place (waiting_report_newest_first report.report.trade all)) (placed_reports_newest_first all) (λ report. ap (is_report_at report.place) (none report.report.trade))

at-place : (place : ℕ) (o : Option PlacedReport) → is_report_at place o ≡ true → (first : PlacedReport) × (o ≡ Some first) × (first.place ≡ place)
at-place place None h = absurd (cc h)
at-place place (Some first) h = (first, refl, eqb-true first.place place h)

-- the report that waits with the least place is the one that is found
least-waits : (all : List Report) (id : List ℕ) (first : PlacedReport) → waiting_report_newest_first id all ≡ Some first → ((id : List ℕ) (other : PlacedReport) → waiting_report_newest_first id all ≡ Some other → first.place ≤ other.place)
    → least_waiting_newest_first all ≡ Some first
least-waits all id first some least =
    let s = waiting-stands id all first some in
    let own : waiting_report_newest_first first.report.trade all ≡ Some first = ap (λ (x : List ℕ). waiting_report_newest_first x all) (sym s.named) ∙ some in
    find-at (λ report. is_report_at report.place (waiting_report_newest_first report.report.trade all)) (placed_reports_newest_first all) s.index first s.there (ap (is_report_at first.place) own ∙ eq-eqb first.place first.place refl)
    (λ k other less there. elim (cases_Bool (is_report_at other.place (waiting_report_newest_first other.report.trade all))) [
      | inl waits ↦
          let found = at-place other.place (waiting_report_newest_first other.report.trade all) waits in
          let place = placed-at all k other there in
          let low = least other.report.trade found.0 found.1 in absurd (omega (arith, less, place, low, found.2, s.place))
      | inr other_place ↦ other_place
    ])

module _ {K : Type 0} (has_taken : K → List TradeRecord → Type 0) (draft : PairingDraft K) (reports : List Report) (is : IsPairingDraft has_taken draft reports) where
  pub ends-disagreement : (lone : UnpairedReport) → draft.lone ≡ Some lone → pairing reports ≡ Err (unpaired_finding lone)
  unfolding pairing
  ends-disagreement lone some =
      ap (λ (o : Option UnpairedReport). trades_unless_unpaired (option_or o (option_map unpaired_without_second (least_waiting_newest_first (reverse reports)))) (trades_of_pairs (report_pairs_newest_first (reverse reports)))) (sym is.known.disagreement ∙ some)

  pub ends-lone : (id : List ℕ) (first : PlacedReport) → draft.lone ≡ None → first_report_in draft.firsts id ≡ Some first
      → ((id : List ℕ) (other : PlacedReport) → first_report_in draft.firsts id ≡ Some other → first.place ≤ other.place) → pairing reports ≡ Err (unpaired_finding (unpaired_without_second first))
  unfolding pairing
  ends-lone id first none some least =
      let waits = is.known.waits in
      let found = least-waits (reverse reports) id first (sym (waits id) ∙ some) (λ other_id other there. least other_id other (waits other_id ∙ there)) in
      ap (λ (o : Option UnpairedReport). trades_unless_unpaired (option_or o (option_map unpaired_without_second (least_waiting_newest_first (reverse reports)))) (trades_of_pairs (report_pairs_newest_first (reverse reports)))) (sym is.known.disagreement ∙ none)
      ∙ ap (λ (o : Option PlacedReport). trades_unless_unpaired (option_map unpaired_without_second o) (trades_of_pairs (report_pairs_newest_first (reverse reports)))) found

  pub ends-paired : draft.lone ≡ None → ((id : List ℕ) → first_report_in draft.firsts id ≡ None) → HasTrades (has_taken draft.trades) (pairing reports)
  unfolding pairing
  ends-paired none alone =
      let found = none-waits (reverse reports) (λ id. sym (is.known.waits id) ∙ alone id) in
      record {
        entries = trades_of_pairs (report_pairs_newest_first (reverse reports));
        has = is.known.handed none;
        paired =
            ap (λ (o : Option UnpairedReport). trades_unless_unpaired (option_or o (option_map unpaired_without_second (least_waiting_newest_first (reverse reports)))) (trades_of_pairs (report_pairs_newest_first (reverse reports)))) (sym is.known.disagreement ∙ none)
            ∙ ap (λ (o : Option PlacedReport). trades_unless_unpaired (option_map unpaired_without_second o) (trades_of_pairs (report_pairs_newest_first (reverse reports)))) found;
      }

-- an entry that is looked up is somewhere
lookup-place : (test : List ℕ → Bool) (es : List (List ℕ × PlacedReport)) (value : PlacedReport) → lookup test es ≡ Some value
    → (k : ℕ) × (key : List ℕ) × (k < length es) × (slice_get es k ≡ Some (key, value))
lookup-place test [] value h = absurd (cc h)
lookup-place test (e ∷ es) value h = elim (cases_Bool (test e.0)) [
  | inl same ↦
      let is : Some e.1 ≡ Some value = rw same at h in
      let at : e.1 ≡ value = cc is in
      (0, e.0, omega arith, ap (λ (v : PlacedReport). Some (e.0, v)) at)
  | inr other ↦
      let later = lookup-place test es value (rw other at h) in
      (suc later.0, later.1, omega (arith, later.2), later.3)
]

-- one entry more
module _ (held : EarlierReports) where
  pub least-more : (i : ℕ) (least : Option PlacedReport) (id : List ℕ) (first : PlacedReport) → IsEarliestHeld held i least → report_held_in held id ≡ Some first
      → Some (id, first) ≡ slice_get held.map.entries i → IsEarliestHeld held (i + 1) (Some (earlier_report least first))
  least-more i None id first is known at = record {
    among = (id, known);
    below = λ k entry less there. elim (cases_lt k i) [
      | inl before ↦ absurd (is.below k entry before there)
      | inr after ↦
          let same : k ≡ i = omega (arith, less, after) in
          let found : Some entry ≡ Some (id, first) = sym there ∙ ap (slice_get held.map.entries) same ∙ sym at in
          let here : entry ≡ (id, first) = cc found in let place : entry.1.place ≡ first.place = ap (λ (e : List ℕ × PlacedReport). e.1.place) here in omega (arith, place)
    ];
  }
  least-more i (Some found) id first is known at = elim (cases_Bool (nat_le found.place first.place)) [
    | inl low ↦
        let lower : found.place ≤ first.place = grind (arith, nat_tests, low) in
        rw low (record {
          among = is.among;
          below = λ k entry less there. elim (cases_lt k i) [
            | inl before ↦ is.below k entry before there
            | inr after ↦
                let same : k ≡ i = omega (arith, less, after) in
                let seen : Some entry ≡ Some (id, first) = sym there ∙ ap (slice_get held.map.entries) same ∙ sym at in
                let here : entry ≡ (id, first) = cc seen in let place : entry.1.place ≡ first.place = ap (λ (e : List ℕ × PlacedReport). e.1.place) here in omega (arith, place, lower)
          ];
        })
    | inr high ↦
        let higher : first.place ≤ found.place = grind (arith, nat_tests, high) in
        rw high (record {
          among = (id, known);
          below = λ k entry less there. elim (cases_lt k i) [
            | inl before ↦ let lower : found.place ≤ entry.1.place = is.below k entry before there in omega (arith, lower, higher)
            | inr after ↦
                let same : k ≡ i = omega (arith, less, after) in
                let seen : Some entry ≡ Some (id, first) = sym there ∙ ap (slice_get held.map.entries) same ∙ sym at in
                let here : entry ≡ (id, first) = cc seen in let place : entry.1.place ≡ first.place = ap (λ (e : List ℕ × PlacedReport). e.1.place) here in omega (arith, place)
          ];
        })
  ]

  pub least-none : (i : ℕ) (least : Option PlacedReport) → IsEarliestHeld held i least → length held.map.entries ≤ i → IfNone least ((id : List ℕ) → report_held_in held id ≡ None)
  least-none i None is all = λ id. by id (report_held_in held id) refl
    where
      by : (id : List ℕ) (o : Option PlacedReport) → report_held_in held id ≡ o → o ≡ None
      by id None e = refl
      by id (Some found) e =
          let place = lookup-place (same_name id) held.map.entries found e in
          absurd (is.below place.0 (place.1, found) (omega (arith, place.2, all)) place.3)
  least-none i (Some found) is all = tt

  pub least-some : (i : ℕ) (least : Option PlacedReport) → IsEarliestHeld held i least → length held.map.entries ≤ i
      → IfSome least (λ first. (id : List ℕ) (other : PlacedReport) → report_held_in held id ≡ Some other → first.place ≤ other.place)
  least-some i None is all = tt
  least-some i (Some found) is all = λ id other there.
      let place = lookup-place (same_name id) held.map.entries other there in
      is.below place.0 (place.1, other) (omega (arith, place.2, all)) place.3
