-- The walk along two lists of lots: one more pair, and that all are found at the end.
use Rattle.std.proofs.Common.{◌≡◌, ◌≤◌, ◌<◌, ◌+◌, ◌-◌, ◌^◌, ◌⊎◌, ℕ, zero, suc, List, [], ◌∷◌, ◌++◌, length, map, refl, sym, ap, ◌∙◌, arith, inl, inr, sum_by, All, AllPairs, subst, add-one}
use Rattle.std.specs.Prelude.{min, Contains}
use Rattle.std.proofs.lemmas.Bool.{cases_eq, cases_lt, cases_order}
use Rattle.std.proofs.lemmas.List.{length_push, map_push, take_all}
use Rattle.std.proofs.lemmas.List.Elements.{All-nil, All-push, All-weaker, Contains-append_left, Contains-push}
use Rattle.std.proofs.lemmas.List.Quantifiers.{all_pairs_push}
use Rattle.std.proofs.lemmas.List.Sums.{sum_by_more}
use Rattle.unit_pairs.specs.declared.lots.Lot.{Lot}
use Rattle.unit_pairs.specs.declared.meeting.UnitPair.{UnitPair}
use Rattle.unit_pairs.specs.declared.meeting.Progress.{Progress}
use Rattle.unit_pairs.specs.Lots.{lot_past_end, lot_at, lots_before, lots_total, AreLots}
use Rattle.unit_pairs.specs.Meeting.{overlap_from, overlap, unit_pair_orders, IsUnitPair, AreUnitPairs, UnitPairsDiffer, units_met, IsProgress}

-- Lots and the quantity before them.

pub before-more : (lots : List Lot) (k : ℕ) → k < length lots → lots_before lots (k + 1) ≡ lots_before lots k + (lot_at lots k).quantity
before-more lots k lt = sum_by_more (λ (l : Lot). l.quantity) lots k lot_past_end lt

pub before-rises : (lots : List Lot) (k n : ℕ) → k ≤ n → n ≤ length lots → lots_before lots k ≤ lots_before lots n
before-rises lots k zero le top = let e : k ≡ 0 = omega arith in rw e (omega arith)
before-rises lots k (suc n) le top = elim (cases_eq k (suc n)) [
  | inl e ↦ rw e (omega arith)
  | inr ne ↦ rw (← add-one n) (omega (arith, before-rises lots k n (omega (arith, ne)) (omega arith), before-more lots n (omega arith)))
]

pub before-all : (lots : List Lot) → lots_before lots (length lots) ≡ lots_total lots
before-all lots = ap (sum_by (λ (l : Lot). l.quantity)) (take_all (length lots) lots (omega arith))

-- each unit is in one lot
one-lot : (lots : List Lot) (i k n : ℕ) → i < length lots → k < length lots → lots_before lots i ≤ n → n < lots_before lots (i + 1) → lots_before lots k ≤ n → n < lots_before lots (k + 1) → i ≡ k
one-lot lots i k n hi hk a b c d = elim (cases_order i k) [
  | inl e ↦ e
  | inr (inl lt) ↦ absurd (omega (arith, before-rises lots (i + 1) k (omega arith) (omega arith)))
  | inr (inr gt) ↦ absurd (omega (arith, before-rises lots (k + 1) i (omega arith) (omega arith)))
]

-- The walk.

-- a pair that is found, of units that begin below n
pub record IsEarly (bids asks : List Lot) (n : ℕ) (p : UnitPair) : Type 0 where
  pub pair : IsUnitPair bids asks p
  pub early : overlap_from bids asks pair.bid_lot pair.ask_lot < n

-- what is found where n units of each side have met
pub record ArePairsBelow (bids asks : List Lot) (n : ℕ) (pairs : List UnitPair) : Type 0 where
  pub each : All (IsEarly bids asks n) pairs
  pub differ : AllPairs UnitPairsDiffer pairs
  pub complete : (k l : ℕ) → k < length bids → l < length asks → 0 < overlap bids asks k l → overlap_from bids asks k l < n
      → Contains (map unit_pair_orders pairs) ((lot_at bids k).order, (lot_at asks l).order)

-- the walk so far: both sides have met as far, at least one of them up to the end of a lot
pub record HaveMet (bids asks : List Lot) (bid ask : Progress) (pairs : List UnitPair) : Type 0 where
  pub bid_progress : IsProgress bids bid
  pub ask_progress : IsProgress asks ask
  pub same : units_met bids bid ≡ units_met asks ask
  pub one_fresh : (bid.met ≡ 0) ⊎ (ask.met ≡ 0)
  pub few : length pairs ≤ bid.lot + ask.lot
  pub found : ArePairsBelow bids asks (units_met bids bid) pairs

-- Progress of a side.

progress-order : (lots : List Lot) (p q : Progress) → IsProgress lots p → IsProgress lots q → units_met lots p ≤ units_met lots q → p.lot ≤ q.lot
progress-order lots p q a b le = elim (cases_lt q.lot p.lot) [
  | inr from ↦ from
  | inl lt ↦
      let top = a.inside in
      let within = b.within (omega arith) in
      absurd (omega (arith, before-more lots q.lot (omega arith), before-rises lots (q.lot + 1) p.lot (omega arith) top))
]

-- where a lot has just met whole, the next lot is a later one, of which nothing has met
progress-past : (lots : List Lot) → AreLots lots → (p q : Progress) → p.lot < length lots → IsProgress lots q → units_met lots q ≡ lots_before lots (p.lot + 1) → (p.lot < q.lot) × (q.met ≡ 0)
progress-past lots are p q lt b met =
    let next : Progress = record { lot = p.lot + 1; met = 0 } in
    let some : p.lot + 1 < length lots → 0 < (lot_at lots (p.lot + 1)).quantity = λ h. (are.each (p.lot + 1) lot_past_end h).positive in
    let le : p.lot + 1 ≤ q.lot = progress-order lots next q (record { inside = omega arith; within = some }) b (omega arith) in
    (omega arith, omega (arith, before-rises lots (p.lot + 1) q.lot le b.inside))

-- two lots of one order are one
same-lot : (lots : List Lot) → AreLots lots → (i k : ℕ) → i < length lots → k < length lots → (lot_at lots i).order ≡ (lot_at lots k).order → i ≡ k
same-lot lots are i k hi hk e = elim (cases_order i k) [
  | inl e' ↦ e'
  | inr (inl lt) ↦ absurd (are.apart i k lot_past_end lt hk e)
  | inr (inr gt) ↦ absurd (are.apart k i lot_past_end gt hi (sym e))
]

module _ (bids asks : List Lot) where
  pub none-met : AreLots bids → AreLots asks → HaveMet bids asks (record { lot = 0; met = 0 }) (record { lot = 0; met = 0 }) []
  none-met b a = record {
    bid_progress = record { inside = omega arith; within = λ lt. (b.each 0 lot_past_end lt).positive };
    ask_progress = record { inside = omega arith; within = λ lt. (a.each 0 lot_past_end lt).positive };
    same = refl;
    one_fresh = inl refl;
    few = omega arith;
    found = record { each = All-nil (IsEarly bids asks 0); differ = λ i j d lt below. absurd (omega arith); complete = λ k l hk hl some early. absurd (omega arith) };
  }

  -- the pair of the next lots of both sides
  abbrev pub pair_of : Progress → Progress → ℕ → UnitPair
  pair_of bid ask quantity = record { bid = (lot_at bids bid.lot).order; ask = (lot_at asks ask.lot).order; quantity = quantity }

  found-more : (n quantity i j : ℕ) (pairs : List UnitPair) → AreLots bids → AreLots asks → i < length bids → j < length asks
      → 0 < quantity → quantity ≤ 10 ^ 12 → overlap_from bids asks i j ≡ n → n + quantity ≡ min (lots_before bids (i + 1)) (lots_before asks (j + 1))
      → ArePairsBelow bids asks n pairs → ArePairsBelow bids asks (n + quantity) (pairs ++ record { bid = (lot_at bids i).order; ask = (lot_at asks j).order; quantity = quantity } ∷ [])
  found-more n quantity i j pairs b a hi hj some most from to f =
      let p : UnitPair = record { bid = (lot_at bids i).order; ask = (lot_at asks j).order; quantity = quantity } in
      let push : map unit_pair_orders (pairs ++ p ∷ []) ≡ map unit_pair_orders pairs ++ unit_pair_orders p ∷ [] = map_push unit_pair_orders pairs p in
      record {
        each = All-push (IsEarly bids asks (n + quantity)) pairs p
            (All-weaker (IsEarly bids asks n) (IsEarly bids asks (n + quantity)) (λ q e. let early = e.early in record { pair = e.pair; early = omega arith }) pairs f.each)
            (record {
              pair = record { bid_lot = i; ask_lot = j; bid_inside = hi; ask_inside = hj; bid_is = refl; ask_is = refl; positive = some; bounded = most; is = omega arith };
              early = omega arith;
            });
        differ = all_pairs_push UnitPairsDiffer pairs p f.differ (λ k d lt bid_same ask_same.
            let e = f.each k d lt in
            let q = e.pair in
            let early = e.early in
            let one : q.bid_lot ≡ i = same-lot bids b q.bid_lot i q.bid_inside hi (sym q.bid_is ∙ bid_same) in
            let two : q.ask_lot ≡ j = same-lot asks a q.ask_lot j q.ask_inside hj (sym q.ask_is ∙ ask_same) in
            let same : overlap_from bids asks q.bid_lot q.ask_lot ≡ n = ap (λ k. overlap_from bids asks k q.ask_lot) one ∙ ap (overlap_from bids asks i) two ∙ from in
            omega arith);
        complete = λ k l hk hl some early. elim (cases_lt (overlap_from bids asks k l) n) [
          | inl lt ↦ subst (λ xs. Contains xs ((lot_at bids k).order, (lot_at asks l).order)) (sym push)
              (Contains-append_left (map unit_pair_orders pairs) (unit_pair_orders p ∷ []) ((lot_at bids k).order, (lot_at asks l).order) (f.complete k l hk hl some lt))
          | inr le ↦
              let m = overlap_from bids asks k l in
              let one : i ≡ k = one-lot bids i k m hi hk (omega arith) (omega arith) (omega arith) (omega arith) in
              let two : j ≡ l = one-lot asks j l m hj hl (omega arith) (omega arith) (omega arith) (omega arith) in
              subst (λ xs. Contains xs ((lot_at bids k).order, (lot_at asks l).order)) (sym push)
              (subst (λ k. Contains (map unit_pair_orders pairs ++ unit_pair_orders p ∷ []) ((lot_at bids k).order, (lot_at asks l).order)) one
              (subst (λ l. Contains (map unit_pair_orders pairs ++ unit_pair_orders p ∷ []) ((lot_at bids i).order, (lot_at asks l).order)) two
              (Contains-push (map unit_pair_orders pairs) (unit_pair_orders p))))
        ];
      }

  -- one step of the walk
  pub one-met : (bid ask bid' ask' : Progress) (quantity : ℕ) (pairs : List UnitPair) → AreLots bids → AreLots asks → bid.lot < length bids → ask.lot < length asks
      → HaveMet bids asks bid ask pairs → quantity ≡ min ((lot_at bids bid.lot).quantity - bid.met) ((lot_at asks ask.lot).quantity - ask.met)
      → IsProgress bids bid' → units_met bids bid' ≡ units_met bids bid + quantity → IsProgress asks ask' → units_met asks ask' ≡ units_met asks ask + quantity
      → HaveMet bids asks bid' ask' (pairs ++ pair_of bid ask quantity ∷ [])
  one-met bid ask bid' ask' quantity pairs b a hi hj h is pb mb pa ma =
      let n = units_met bids bid in
      let same = h.same in
      let few = h.few in
      let bid_in : bid.met < (lot_at bids bid.lot).quantity = h.bid_progress.within hi in
      let ask_in : ask.met < (lot_at asks ask.lot).quantity = h.ask_progress.within hj in
      let most : (lot_at bids bid.lot).quantity ≤ 10 ^ 12 = (b.each bid.lot lot_past_end hi).bounded in
      let bid_end = before-more bids bid.lot hi in
      let ask_end = before-more asks ask.lot hj in
      let from : overlap_from bids asks bid.lot ask.lot ≡ n = elim h.one_fresh [ inl z ↦ omega arith | inr z ↦ omega arith ] in
      let to : n + quantity ≡ min (lots_before bids (bid.lot + 1)) (lots_before asks (ask.lot + 1)) = omega arith in
      let bid_on : bid.lot ≤ bid'.lot = progress-order bids bid bid' h.bid_progress pb (omega arith) in
      let ask_on : ask.lot ≤ ask'.lot = progress-order asks ask ask' h.ask_progress pa (omega arith) in
      let moved : ((bid.lot < bid'.lot) × (bid'.met ≡ 0)) ⊎ ((ask.lot < ask'.lot) × (ask'.met ≡ 0)) = elim (cases_lt (lots_before asks (ask.lot + 1)) (lots_before bids (bid.lot + 1))) [
        | inr le ↦ inl (progress-past bids b bid bid' hi pb (omega arith))
        | inl lt ↦ inr (progress-past asks a ask ask' hj pa (omega arith))
      ] in
      record {
        bid_progress = pb;
        ask_progress = pa;
        same = omega arith;
        one_fresh = elim moved [ inl m ↦ inl m.1 | inr m ↦ inr m.1 ];
        few = elim moved [ inl m ↦ let lt = m.0 in omega (arith, length_push pairs (pair_of bid ask quantity)) | inr m ↦ let lt = m.0 in omega (arith, length_push pairs (pair_of bid ask quantity)) ];
        found = subst (λ n. ArePairsBelow bids asks n (pairs ++ pair_of bid ask quantity ∷ [])) (sym mb) (found-more n quantity bid.lot ask.lot pairs b a hi hj (omega arith) (omega arith) from to h.found);
      }

  -- at the end of the walk all pairs are found
  pub all-met : (bid ask : Progress) (pairs : List UnitPair) → lots_total bids ≡ lots_total asks → HaveMet bids asks bid ask pairs → (length bids ≤ bid.lot) ⊎ (length asks ≤ ask.lot) → AreUnitPairs bids asks pairs
  all-met bid ask pairs totals h over =
      let n = units_met bids bid in
      let same = h.same in
      let whole : lots_total bids ≤ n = elim over [
        | inl le ↦ omega (arith, before-rises bids (length bids) bid.lot le h.bid_progress.inside, before-all bids)
        | inr le ↦ omega (arith, before-rises asks (length asks) ask.lot le h.ask_progress.inside, before-all asks)
      ] in
      record {
        each = All-weaker (IsEarly bids asks n) (IsUnitPair bids asks) (λ p e. e.pair) pairs h.found.each;
        complete = λ k l hk hl some. h.found.complete k l hk hl some (omega (arith, before-rises bids (k + 1) (length bids) (omega arith) (omega arith), before-all bids));
      }

  -- each step brings the walk nearer to its end
  pub nearer : (bid ask bid' : Progress) (quantity : ℕ) (pairs : List UnitPair) → bid.lot < length bids → ask.lot < length asks → HaveMet bids asks bid ask pairs
      → quantity ≡ min ((lot_at bids bid.lot).quantity - bid.met) ((lot_at asks ask.lot).quantity - ask.met) → units_met bids bid' ≡ units_met bids bid + quantity
      → lots_total bids - units_met bids bid' < lots_total bids - units_met bids bid
  nearer bid ask bid' quantity pairs hi hj h is mb =
      let bid_in : bid.met < (lot_at bids bid.lot).quantity = h.bid_progress.within hi in
      let ask_in : ask.met < (lot_at asks ask.lot).quantity = h.ask_progress.within hj in
      omega (arith, before-more bids bid.lot hi, before-rises bids (bid.lot + 1) (length bids) (omega arith) (omega arith), before-all bids)
