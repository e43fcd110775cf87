-- The deals of a phase are a list of deals over its order list.
use Rattle.std.proofs.Common.{◌≡◌, ◌<◌, ◌≤◌, ℕ, List, length, Bool, true, ◌∙◌, arith, All, AllPairs}
use Rattle.std.specs.Prelude.{nat_le}
use Rattle.std.proofs.lemmas.Bool.{and_parts, leb-true}
use Rattle.std.proofs.lemmas.List.Elements.{All-filter, All-weaker, filter_passes}
use Rattle.std.proofs.lemmas.List.Kept.{AllPairs-filter}
use Rattle.std.proofs.lemmas.List.Sums.{length-filter, count_by-le-length}
use Rattle.audit_base.specs.declared.orders.Order.{Order}
use Rattle.audit_base.specs.declared.orders.Deal.{Deal}
use Rattle.audit_base.specs.Deals.{NamesOrders, IsDealList}
use Rattle.audit_base.specs.Continuous.{cause}
use Rattle.session_audit.specs.declared.phases.Phase.{Phase}
use Rattle.session_audit.specs.Phases.{first_place, end_place, is_in_phase, phase_deals}
use Rattle.session_audit.specs.PhaseOrders.{phase_list_at, left_after_phases, chain_before_phase}
use Rattle.session_audit.proofs.PhaseListLemmas.{Rises, phase-below, phase-side, phase-place}

module _ (phases : List Phase) (orders : List Order) (rises : Rises orders) (deals : List Deal) (k : ℕ) where
  abbrev place_test : Deal → Bool
  place_test d = is_in_phase phases k (cause orders d)

  abbrev pub the_orders : List Order
  the_orders = phase_list_at phases orders deals k

  abbrev pub the_deals : List Deal
  the_deals = phase_deals phases orders deals k

  -- a property of all deals is one of the deals of the phase, with the phase in which their
  -- cause lies
  pub of-phase : (P : Deal → Type 0) → All P deals → All (λ d. P d × (place_test d ≡ true)) the_deals
  unfolding phase_deals
  of-phase P all i d lt = (All-filter place_test P deals all i d lt, filter_passes place_test deals i d lt)

  upto : (d : Deal) → place_test d ≡ true → cause orders d ≤ end_place phases k
  upto d t = leb-true _ _ (and_parts (nat_le (first_place phases k) (cause orders d)) (nat_le (cause orders d) (end_place phases k)) t).1

  named-here : (d : Deal) → NamesOrders orders d × (place_test d ≡ true) → NamesOrders the_orders d
  named-here d p =
      let n = p.0 in
      let le = upto d p.1 in
      let bid = phase-below orders (end_place phases k) (first_place phases k) (left_after_phases phases orders deals k) (chain_before_phase phases orders deals k) rises d.bid n.bid_inside (omega arith) in
      let ask = phase-below orders (end_place phases k) (first_place phases k) (left_after_phases phases orders deals k) (chain_before_phase phases orders deals k) rises d.ask n.ask_inside (omega arith) in
      record {
        bid_inside = bid;
        ask_inside = ask;
        buys = phase-side orders (end_place phases k) (first_place phases k) (left_after_phases phases orders deals k) (chain_before_phase phases orders deals k) d.bid bid ∙ n.buys;
        sells = phase-side orders (end_place phases k) (first_place phases k) (left_after_phases phases orders deals k) (chain_before_phase phases orders deals k) d.ask ask ∙ n.sells;
      }

  pub deals-named : All (NamesOrders orders) deals → All (NamesOrders the_orders) the_deals
  deals-named named = All-weaker _ (NamesOrders the_orders) named-here the_deals (of-phase (NamesOrders orders) named)

  few-deals : length the_deals ≤ length deals
  unfolding phase_deals
  few-deals = let e = length-filter place_test deals in let m = count_by-le-length place_test deals in omega arith

  rising-deals : AllPairs (λ (d e : Deal). d.place < e.place) deals → AllPairs (λ (d e : Deal). d.place < e.place) the_deals
  unfolding phase_deals
  rising-deals r = AllPairs-filter (λ (d e : Deal). d.place < e.place) place_test deals r

  pub deals-list : IsDealList orders deals → IsDealList the_orders the_deals
  deals-list l = record {
    named = deals-named l.named;
    rising = rising-deals l.rising;
    fits_indices = let f = l.fits_indices in let m = few-deals in omega arith;
  }

  -- no cause is after the last place of the phase
  pub causes-upto : All (NamesOrders orders) deals → All (λ d. cause the_orders d ≤ end_place phases k) the_deals
  causes-upto named = All-weaker (λ d. NamesOrders orders d × (place_test d ≡ true)) (λ d. cause the_orders d ≤ end_place phases k) (λ d p.
      let n = named-here d p in
      let le = upto d p.1 in
      let b = phase-place orders (end_place phases k) (first_place phases k) (left_after_phases phases orders deals k) (chain_before_phase phases orders deals k) d.bid n.bid_inside in
      let a = phase-place orders (end_place phases k) (first_place phases k) (left_after_phases phases orders deals k) (chain_before_phase phases orders deals k) d.ask n.ask_inside in
      omega arith) the_deals (of-phase (NamesOrders orders) named)
