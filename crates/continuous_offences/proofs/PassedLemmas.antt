-- The deals of an order, one after another: the first that passes over the best order that waits.
use Rattle.std.proofs.Common.{◌≡◌, ◌≢◌, ◌<◌, ◌≤◌, ◌+◌, ℕ, suc, List, length, Bool, true, false, Option, None, Some, option_map, refl, sym, ap, ◌∙◌, arith, inl, inr, subst, get_or}
use Rattle.std.specs.Prelude.{◌==◌, nat_lt}
use Rattle.std.proofs.lemmas.Bool.{cases_eq, and_left, cond_both, ne_eqb}
use Rattle.audit_base.specs.declared.findings.Finding.{Finding}
use Rattle.audit_base.specs.declared.orders.Order.{Order}
use Rattle.audit_base.specs.declared.orders.Deal.{Deal}
use Rattle.audit_base.specs.Continuous.{cause, resting_order}
use Rattle.audit_base.specs.ContinuousOffences.{resting_priority_finding, waits_ahead}
use Rattle.audit_base.specs.Deals.{deal_at, deal_past_end, NamesOrders}
use Rattle.audit_base.specs.Least.{any_below, least_answer, only_if}
use Rattle.audit_base.specs.Orders.{order_at, place_at, side_at}
use Rattle.audit_base.specs.Priority.{better}
use Rattle.audit_base.proofs.OffenceLemmas.{get_or-default, none-only}
use Rattle.audit_base.proofs.PriorityLemmas.{IsBest, best-is}
use Rattle.call_offences.specs.Inside.{IsOffenceInside}
use Rattle.continuous_audit.specs.declared.incoming_deals.IncomingDeal.{IncomingDeal}
use Rattle.continuous_audit.specs.Scans.{deal_index_at, incoming_deal_past_end, incoming_order_at}
use Rattle.continuous_audit.proofs.IncomingLemmas.{incoming-cause}
use Rattle.continuous_audit.proofs.RecordLemmas.{ends}
use Rattle.offence_list.specs.declared.offences.ListedOffence.{ListedOffence}
use Rattle.offence_list.specs.declared.offences.ListedOffence.TheVariants.{Priority}
use Rattle.offence_list.specs.ListedOffences.{finding_of_offence}
use Rattle.continuous_offences.specs.declared.state_after_deals.StateAfterDeals.{StateAfterDeals}
use Rattle.continuous_offences.specs.Books.{waits_on}
use Rattle.continuous_offences.specs.DealFacts.{IsOffenceOf}
use Rattle.continuous_offences.specs.StateAfterDeals.{IsDealt, deals_of, orders_of, place_of, shown_after}
use Rattle.continuous_offences.specs.Passing.{AreDealsOf, best_waiting, passed_over, side_against}
use Rattle.continuous_offences.specs.Scanning.{AreClean}
use Rattle.continuous_offences.proofs.FoundLemmas.{found-least}
use Rattle.continuous_offences.proofs.PassingLemmas.{priority-is, priority-none, test-side}

map-only : {A B : Type 0} (f : A → B) (b : Bool) (x : A) → option_map f (only_if b x) ≡ only_if b (f x)
map-only f true x = refl
map-only f false x = refl

only-inside : (orders : List Order) (b : Bool) (x o : ListedOffence) → IsOffenceInside orders x → only_if b x ≡ Some o → IsOffenceInside orders o
only-inside orders true x o h e = let same : x ≡ o = cc in subst (IsOffenceInside orders) same h
only-inside orders false x o h e = absurd (cc)

module _ (d : StateAfterDeals) (is : IsDealt d) (start end : ℕ) (span : AreDealsOf d start end) where
  abbrev orders : List Order
  orders = orders_of d

  abbrev deals : List Deal
  deals = deals_of d

  abbrev incoming_deals : List IncomingDeal
  incoming_deals = d.market.now.incoming_deals.now

  abbrev finding : ℕ → Option Finding
  finding = resting_priority_finding orders deals (place_of d)

  away : (j : ℕ) → cause orders (deal_at deals j) ≢ place_of d → finding j ≡ None
  unfolding resting_priority_finding
  away j ne = none-only _ _ (and_left (cause orders (deal_at deals j) == place_of d) (any_below (waits_ahead orders deals (place_of d) (resting_order orders (deal_at deals j))) (length orders)) (ne_eqb _ _ ne))

  order-here : (at : ℕ) → start ≤ at → at < end → incoming_order_at incoming_deals at ≡ d.order
  order-here at from lt =
      let w = span.within in
      let low = span.split.late at from (omega arith) in
      let high = span.later.early at lt (omega arith) in
      omega arith

  inside-here : (at : ℕ) → at < end → deal_index_at incoming_deals at < length deals
  inside-here at lt = let w = span.within in (is.market.incoming_deals.only at incoming_deal_past_end (omega arith)).0

  named-here : (at : ℕ) → at < end → NamesOrders orders (deal_at deals (deal_index_at incoming_deals at))
  named-here at lt = is.market.deal_list.named (deal_index_at incoming_deals at) deal_past_end (inside-here at lt)

  cause-here : (at : ℕ) → start ≤ at → at < end → cause orders (deal_at deals (deal_index_at incoming_deals at)) ≡ place_of d
  cause-here at from lt =
      let w = span.within in
      let own = (is.market.incoming_deals.only at incoming_deal_past_end (omega arith)).1 in
      sym (incoming-cause orders (deal_at deals (deal_index_at incoming_deals at))) ∙ ap (place_at orders) (sym (ap (λ (c : IncomingDeal). c.order) own) ∙ order-here at from lt)

  pub side-here : (at : ℕ) → start ≤ at → at < end → side_at orders (resting_order orders (deal_at deals (deal_index_at incoming_deals at))) ≡ side_against d
  side-here at from lt =
      let e = ends orders is.market.order_list deals is.market.deal_list.named d.order is.order (deal_at deals (deal_index_at incoming_deals at)) (named-here at lt) (cause-here at from lt) in
      ap (side_at orders) e.1.resting_is ∙ e.1.of_side

  stop : end < length incoming_deals → incoming_order_at incoming_deals end ≢ d.order
  stop lt e = let high = span.later.late end (omega arith) lt in omega arith

  -- where none waits, no deal passes over one
  pub none-waits : best_waiting d (side_against d) (place_of d) ≡ None → least_answer finding (length deals) ≡ None
  none-waits none =
      let f = span.from in
      sym (found-least orders is.market.order_list deals is.market.deal_list incoming_deals is.market.incoming_deals d.order is.order finding away start span.split end f span.within stop None
      (λ i from lt. priority-none orders is.market.order_list deals d.order is.order (side_against d) (deal_index_at incoming_deals i) (cause-here i from lt) (side-here i from lt) none))

  module _ (best : ℕ) (best_is : best_waiting d (side_against d) (place_of d) ≡ Some best) where
    best-here : IsBest orders (waits_on orders deals (side_against d) d.order (place_of d) (suc (place_of d))) best
    best-here = best-is orders (waits_on orders deals (side_against d) d.order (place_of d) (suc (place_of d))) best best_is

    pub best-inside : best < length orders
    best-inside = best-here.inside

    -- the best order that waits is of the side of the deal's resting order
    pub passed-side : (at : ℕ) → start ≤ at → at < end → (deal : Deal) → deal ≡ get_or deals (deal_index_at incoming_deals at) deal → side_at orders best ≡ side_at orders (resting_order orders deal)
    passed-side at from lt deal read =
        let deal_is : deal ≡ deal_at deals (deal_index_at incoming_deals at) = read ∙ get_or-default deals (deal_index_at incoming_deals at) deal deal_past_end (inside-here at lt) in
        test-side orders is.market.order_list deals d.order is.order (side_against d) best best-inside best-here.passes ∙ sym (ap (λ (x : Deal). side_at orders (resting_order orders x)) deal_is ∙ side-here at from lt)

    pub passed-is : (at : ℕ) → start ≤ at → at < end → option_map (finding_of_offence orders) (passed_over d best (deal_at deals (deal_index_at incoming_deals at))) ≡ finding (deal_index_at incoming_deals at)
    passed-is at from lt =
        let deal = deal_at deals (deal_index_at incoming_deals at) in
        let r = resting_order orders deal in
        map-only (finding_of_offence orders) (better (order_at orders best) (order_at orders r)) (Priority deal.place (side_at orders r) (shown_after d best) (shown_after d r))
        ∙ sym (priority-is orders is.market.order_list deals d.order is.order (side_against d) (deal_index_at incoming_deals at) (cause-here at from lt) (side-here at from lt) best best_is)

    rest-inside : (deal : Deal) → NamesOrders orders deal → resting_order orders deal < length orders
    rest-inside deal named = cond_both (nat_lt (place_at orders deal.bid) (place_at orders deal.ask)) deal.bid deal.ask (λ x. x < length orders) (λ t. named.bid_inside) (λ t. named.ask_inside)

    passed-inside : (deal : Deal) → NamesOrders orders deal → (o : ListedOffence) → passed_over d best deal ≡ Some o → IsOffenceInside orders o
    passed-inside deal named o e =
        let r = resting_order orders deal in
        only-inside orders (better (order_at orders best) (order_at orders r)) (Priority deal.place (side_at orders r) (shown_after d best) (shown_after d r)) o (best-inside, rest-inside deal named) e

    -- the first offence of the deals from the start on
    pub passed-all : AreClean finding incoming_deals start end → IsOffenceOf orders None (least_answer finding (length deals))
    passed-all clean = let f = span.from in record {
      inside = tt;
      same = found-least orders is.market.order_list deals is.market.deal_list incoming_deals is.market.incoming_deals d.order is.order finding away start span.split end f span.within stop None clean;
    }

    pub passed-at : (at : ℕ) → start ≤ at → at < end → AreClean finding incoming_deals start at → (deal : Deal) → deal ≡ get_or deals (deal_index_at incoming_deals at) deal → (o : ListedOffence) → passed_over d best deal ≡ Some o
        → IsOffenceOf orders (Some o) (least_answer finding (length deals))
    passed-at at from lt clean deal read o e =
        let deal_is : deal ≡ deal_at deals (deal_index_at incoming_deals at) = read ∙ get_or-default deals (deal_index_at incoming_deals at) deal deal_past_end (inside-here at lt) in
        let made : Some (finding_of_offence orders o) ≡ finding (deal_index_at incoming_deals at) = sym (ap (option_map (finding_of_offence orders)) e) ∙ ap (λ (x : Deal). option_map (finding_of_offence orders) (passed_over d best x)) deal_is ∙ passed-is at from lt in
        let f = span.from in
        record {
          inside = passed-inside deal (subst (NamesOrders orders) (sym deal_is) (named-here at lt)) o e;
          same = found-least orders is.market.order_list deals is.market.deal_list incoming_deals is.market.incoming_deals d.order is.order finding away start span.split end f span.within stop (Some (finding_of_offence orders o)) (at, from, lt, order-here at from lt, sym made, clean);
        }

    pub passed-clean : (at : ℕ) → start ≤ at → at < end → AreClean finding incoming_deals start at → (deal : Deal) → deal ≡ get_or deals (deal_index_at incoming_deals at) deal → passed_over d best deal ≡ None → AreClean finding incoming_deals start (at + 1)
    passed-clean at from lt clean deal read e i from_i below = elim (cases_eq i at) [
      | inl same ↦ subst (λ (k : ℕ). finding (deal_index_at incoming_deals k) ≡ None) (sym same)
          (let deal_is : deal ≡ deal_at deals (deal_index_at incoming_deals at) = read ∙ get_or-default deals (deal_index_at incoming_deals at) deal deal_past_end (inside-here at lt) in
          sym (passed-is at from lt) ∙ sym (ap (λ (x : Deal). option_map (finding_of_offence orders) (passed_over d best x)) deal_is) ∙ ap (option_map (finding_of_offence orders)) e)
      | inr ne ↦ clean i from_i (omega (arith, ne))
    ]
