-- The deals of one order, one after another: the first that has an offence by itself.
use Rattle.std.proofs.Common.{◌≡◌, ◌≢◌, ◌<◌, ◌≤◌, ◌+◌, ◌^◌, ℕ, List, [], ◌∷◌, length, option_map, Bool, true, false, cond, Option, None, Some, IfSome, refl, sym, ap, ◌∙◌, arith, subst, get_or, take, add-one}
use Rattle.std.specs.Prelude.{nat_lt, not, ◌==◌, slice_set}
use Rattle.std.specs.Option.{option_or}
use Rattle.std.proofs.lemmas.Bool.{eq-eqb, ne_eqb, cond-true, cond-false}
use Rattle.std.proofs.lemmas.List.{length-set, get_or-set_same, get_or-set_other}
use Rattle.audit_base.specs.declared.orders.Order.{Order}
use Rattle.audit_base.specs.declared.orders.Deal.{Deal}
use Rattle.audit_base.specs.declared.findings.Finding.{Finding}
use Rattle.audit_base.specs.declared.flaws.TradedOrder.{TradedOrder}
use Rattle.audit_base.specs.declared.terms.Side.TheVariants.{Buy, Sell}
use Rattle.audit_base.specs.CallOffences.{keeps_limits}
use Rattle.audit_base.specs.Continuous.{cause, resting_order, incoming_order, traded_before, traded_at, has_entered, size_of_order, rests_before_in_ledger}
use Rattle.audit_base.specs.ContinuousOffences.{continuous_inactive_finding, continuous_limit_finding, size_finding, traded_upto, traded_shown_upto, conservation_finding}
use Rattle.audit_base.specs.Deals.{deal_at, deal_past_end, NamesOrders, IsDealList, number_at}
use Rattle.audit_base.specs.Least.{first_answer, only_if}
use Rattle.audit_base.specs.Orders.{place_at, side_at, IsOrderList}
use Rattle.audit_base.proofs.OffenceLemmas.{get_or-default}
use Rattle.audit_base.proofs.OrderLemmas.{not_both_sides}
use Rattle.call_offences.specs.Inside.{IsOffenceInside}
use Rattle.continuous_audit.specs.declared.incoming_deals.IncomingDeal.{IncomingDeal}
use Rattle.continuous_audit.specs.IncomingDeals.{AreIncomingDeals, running_total}
use Rattle.continuous_audit.specs.Scans.{AreRunningTotals, deal_index_at, incoming_deal_past_end, incoming_order_at}
use Rattle.continuous_audit.proofs.IncomingLemmas.{incoming-cause, running-upto}
use Rattle.continuous_audit.proofs.RecordLemmas.{ends}
use Rattle.continuous_audit.proofs.ScanLemmas.{running-read}
use Rattle.offence_list.specs.declared.offences.ListedOffence.{ListedOffence}
use Rattle.offence_list.specs.declared.offences.ListedOffence.TheVariants.{Inactive, Limit, Quantity}
use Rattle.offence_list.specs.ListedOffences.{finding_of_offence}
use Rattle.order_arrivals.specs.declared.arrivals.Arrivals.{Arrivals}
use Rattle.order_arrivals.specs.Arrivals.{AreArrivals, flag_at}
use Rattle.continuous_offences.specs.DealFacts.{deal_offence, facts_with, is_over_size, incoming_shown, resting_shown}
use Rattle.continuous_offences.specs.Scanning.{IsFirstFound}
use Rattle.order_arrivals.proofs.ArrivalLemmas.{rests-is}
use Rattle.continuous_offences.proofs.FoundLemmas.{found-more}

-- the first of what is wrong with a deal, and its finding
abbrev first_broken : ℕ → TradedOrder → TradedOrder → TradedOrder → TradedOrder → Bool → Bool → Bool → Bool → Bool → Option ListedOffence
first_broken place rest come bid ask r e w b a = first_answer (only_if (not r) (Inactive place rest) ∷ only_if (not e) (Inactive place come) ∷ only_if (not w) (Limit place bid ask) ∷ only_if b (Quantity place Buy bid) ∷ only_if a (Quantity place Sell ask) ∷ [])

first-made : (f : ListedOffence → Finding) (place : ℕ) (rest come bid ask : TradedOrder) (r e w b a : Bool)
    → first_answer (first_answer (only_if (not r) (f (Inactive place rest)) ∷ only_if (not e) (f (Inactive place come)) ∷ []) ∷ only_if (not w) (f (Limit place bid ask)) ∷ only_if b (f (Quantity place Buy bid)) ∷ only_if a (f (Quantity place Sell ask)) ∷ [])
    ≡ option_map f (first_broken place rest come bid ask r e w b a)
first-made f place rest come bid ask false e w b a = refl
first-made f place rest come bid ask true false w b a = refl
first-made f place rest come bid ask true true false b a = refl
first-made f place rest come bid ask true true true true a = refl
first-made f place rest come bid ask true true true false true = refl
first-made f place rest come bid ask true true true false false = refl

broken-inside : (orders : List Order) (place : ℕ) (rest come bid ask : TradedOrder) (r e w b a : Bool) → rest.index < length orders → come.index < length orders → bid.index < length orders → ask.index < length orders
    → IfSome (first_broken place rest come bid ask r e w b a) (IsOffenceInside orders)
broken-inside orders place rest come bid ask false e w b a x y u v = x
broken-inside orders place rest come bid ask true false w b a x y u v = y
broken-inside orders place rest come bid ask true true false b a x y u v = (u, v)
broken-inside orders place rest come bid ask true true true true a x y u v = u
broken-inside orders place rest come bid ask true true true false true x y u v = v
broken-inside orders place rest come bid ask true true true false false x y u v = tt

picked : (t : Bool) (x y : TradedOrder) (f : ℕ → TradedOrder) (i j : ℕ) → x ≡ f i → y ≡ f j → cond t x y ≡ f (cond t i j)
picked true x y f i j a b = a
picked false x y f i j a b = b

picked-inside : (n : ℕ) (t : Bool) (x y : TradedOrder) → x.index < n → y.index < n → (cond t x y).index < n
picked-inside n true x y a b = a
picked-inside n false x y a b = b

module _ (orders : List Order) (list : IsOrderList orders) (deals : List Deal) (deal_list : IsDealList orders deals) (incoming_deals : List IncomingDeal) (are : AreIncomingDeals orders deals incoming_deals) (n : ℕ) (n_inside : n < length orders) where
  abbrev p : ℕ
  p = place_at orders n

  abbrev past : ℕ → ℕ → ℕ
  past = traded_before orders deals

  -- an order as an offence at a deal shows it
  abbrev shown_at : ℕ → ℕ → TradedOrder
  shown_at k x = record { index = x; traded = traded_shown_upto orders deals p k x }

  finding-is : (k : ℕ) → cause orders (deal_at deals k) ≡ p → conservation_finding orders deals p k
      ≡ option_map (finding_of_offence orders) (first_broken (deal_at deals k).place (shown_at k (resting_order orders (deal_at deals k))) (shown_at k (incoming_order orders (deal_at deals k))) (shown_at k (deal_at deals k).bid) (shown_at k (deal_at deals k).ask)
      (rests_before_in_ledger orders past p (resting_order orders (deal_at deals k))) (has_entered orders deals (incoming_order orders (deal_at deals k))) (keeps_limits orders (deal_at deals k))
      (nat_lt (size_of_order orders deals (deal_at deals k).bid) (traded_upto orders deals p k (deal_at deals k).bid)) (nat_lt (size_of_order orders deals (deal_at deals k).ask) (traded_upto orders deals p k (deal_at deals k).ask)))
  unfolding continuous_inactive_finding continuous_limit_finding size_finding
  finding-is k at = cond-true (cause orders (deal_at deals k) == p) _ None (eq-eqb _ _ at)
      ∙ first-made (finding_of_offence orders) (deal_at deals k).place (shown_at k (resting_order orders (deal_at deals k))) (shown_at k (incoming_order orders (deal_at deals k))) (shown_at k (deal_at deals k).bid) (shown_at k (deal_at deals k).ask)
      (rests_before_in_ledger orders past p (resting_order orders (deal_at deals k))) (has_entered orders deals (incoming_order orders (deal_at deals k))) (keeps_limits orders (deal_at deals k))
      (nat_lt (size_of_order orders deals (deal_at deals k).bid) (traded_upto orders deals p k (deal_at deals k).bid)) (nat_lt (size_of_order orders deals (deal_at deals k).ask) (traded_upto orders deals p k (deal_at deals k).ask))

  module _ (a : Arrivals) (known : AreArrivals orders deals (length orders) a) (before : List ℕ) (traded_is : (x : ℕ) → x < length orders → number_at before x ≡ past p x) (at : ℕ) (lt : at < length incoming_deals) (of : incoming_order_at incoming_deals at ≡ n) where
    abbrev k : ℕ
    k = deal_index_at incoming_deals at

    abbrev d : Deal
    d = deal_at deals k

    k_inside : k < length deals
    k_inside = (are.only at incoming_deal_past_end lt).0

    named_here : NamesOrders orders d
    named_here = deal_list.named k deal_past_end k_inside

    incoming_here : incoming_order orders d ≡ n
    incoming_here = sym (ap (λ (c : IncomingDeal). c.order) (are.only at incoming_deal_past_end lt).1) ∙ of

    cause_here : cause orders d ≡ p
    cause_here = sym (incoming-cause orders d) ∙ ap (place_at orders) incoming_here

    running_here : (x : ℕ) → running_total deals incoming_deals (at + 1) x ≡ traded_upto orders deals p k x
    running_here x = ap (λ (m : ℕ). running_total deals incoming_deals m x) (add-one at) ∙ running-upto orders list deals deal_list.named incoming_deals are at incoming_deal_past_end lt x
        ∙ ap (λ (m : ℕ). traded_before orders deals (place_at orders m) x + traded_at orders (take (k + 1) deals) (place_at orders m) x) of

    rests-here : rests_before_in_ledger orders past p (resting_order orders d) ≡ (facts_with orders a before n d 0 0).rests
    rests-here =
        let e = ends orders list deals deal_list.named n n_inside d named_here cause_here in
        let r = resting_order orders d in
        let inside : r < length orders = subst (λ (x : ℕ). x < length orders) (sym e.1.resting_is) e.1.inside in
        let earlier : place_at orders r < p = subst (λ (x : ℕ). place_at orders x < p) (sym e.1.resting_is) e.1.earlier in
        sym (rests-is orders past p r (number_at a.sizes.items r) (number_at before r) earlier (known.sizes r inside) (traded_is r inside))

    checked : (bt at' : ℕ) → bt ≡ running_total deals incoming_deals (at + 1) d.bid → at' ≡ running_total deals incoming_deals (at + 1) d.ask
        → option_map (finding_of_offence orders) (deal_offence d (facts_with orders a before n d bt at')) ≡ conservation_finding orders deals p k
    checked bt at' bt_is at_is =
        let facts = facts_with orders a before n d bt at' in
        let tb : bt ≡ traded_upto orders deals p k d.bid = bt_is ∙ running_here d.bid in
        let ta : at' ≡ traded_upto orders deals p k d.ask = at_is ∙ running_here d.ask in
        let zb = known.sizes d.bid named_here.bid_inside in
        let za = known.sizes d.ask named_here.ask_inside in
        let cb = known.chain_traded d.bid named_here.bid_inside in
        let ca = known.chain_traded d.ask named_here.ask_inside in
        let bid : facts.bid.shown ≡ shown_at k d.bid = λ i. record { index = d.bid; traded = tb i + cb i } in
        let ask : facts.ask.shown ≡ shown_at k d.ask = λ i. record { index = d.ask; traded = ta i + ca i } in
        let earlier = nat_lt (place_at orders d.bid) (place_at orders d.ask) in
        let rest : resting_shown facts ≡ shown_at k (resting_order orders d) = picked earlier facts.bid.shown facts.ask.shown (shown_at k) d.bid d.ask bid ask in
        let come : incoming_shown facts ≡ shown_at k (incoming_order orders d) = picked earlier facts.ask.shown facts.bid.shown (shown_at k) d.ask d.bid ask bid in
        let entered : flag_at a.entered.items n ≡ has_entered orders deals (incoming_order orders d) = known.entered n n_inside ∙ ap (has_entered orders deals) (sym incoming_here) in
        sym (finding-is k cause_here
        ∙ sym (λ i. option_map (finding_of_offence orders) (first_broken d.place (rest i) (come i) (bid i) (ask i) (sym rests-here i) (entered i) (keeps_limits orders d) (nat_lt (zb i) (tb i)) (nat_lt (za i) (ta i)))))

    inside-here : (bt at' : ℕ) → IfSome (deal_offence d (facts_with orders a before n d bt at')) (IsOffenceInside orders)
    inside-here bt at' =
        let facts = facts_with orders a before n d bt at' in
        let earlier = nat_lt (place_at orders d.bid) (place_at orders d.ask) in
        broken-inside orders d.place (resting_shown facts) (incoming_shown facts) facts.bid.shown facts.ask.shown facts.rests facts.entered facts.is_within (is_over_size facts.bid) (is_over_size facts.ask)
        (picked-inside (length orders) earlier facts.bid.shown facts.ask.shown named_here.bid_inside named_here.ask_inside) (picked-inside (length orders) earlier facts.ask.shown facts.bid.shown named_here.ask_inside named_here.bid_inside)
        named_here.bid_inside named_here.ask_inside

pub map-or : {A B : Type 0} (f : A → B) (a b : Option A) → option_map f (option_or a b) ≡ option_or (option_map f a) (option_map f b)
map-or f None b = refl
map-or f (Some x) b = refl

pub or-inside : (orders : List Order) (a b : Option ListedOffence) → IfSome a (IsOffenceInside orders) → IfSome b (IsOffenceInside orders) → IfSome (option_or a b) (IsOffenceInside orders)
or-inside orders None b x y = y
or-inside orders (Some o) b x y = x

-- the same, in the words of the code: the deal that it reads, and what its orders have traded
module _ (orders : List Order) (list : IsOrderList orders) (deals : List Deal) (deal_list : IsDealList orders deals) (incoming_deals : List IncomingDeal) (are : AreIncomingDeals orders deals incoming_deals) (n : ℕ) (n_inside : n < length orders)
    (a : Arrivals) (known : AreArrivals orders deals (length orders) a) (before : List ℕ) (traded_is : (x : ℕ) → x < length orders → number_at before x ≡ traded_before orders deals (place_at orders n) x)
    (at : ℕ) (lt : at < length incoming_deals) (of : incoming_order_at incoming_deals at ≡ n) (xs : List ℕ) (run : AreRunningTotals orders deals incoming_deals at xs)
    (d : Deal) (d_read : d ≡ get_or deals (deal_index_at incoming_deals at) d) (q : ℕ) (q_is : q ≡ d.quantity) (q_most : d.quantity ≤ 10 ^ 12) where
  abbrev e : Deal
  e = deal_at deals (deal_index_at incoming_deals at)

  pub d-is : d ≡ e
  d-is = d_read ∙ get_or-default deals (deal_index_at incoming_deals at) d deal_past_end (are.only at incoming_deal_past_end lt).0

  pub named-read : NamesOrders orders d
  named-read = subst (NamesOrders orders) (sym d-is) (deal_list.named (deal_index_at incoming_deals at) deal_past_end (are.only at incoming_deal_past_end lt).0)

  apart : d.bid ≢ d.ask
  apart same = not_both_sides (sym named-read.buys ∙ ap (side_at orders) same ∙ named-read.sells)

  abbrev ys : List ℕ
  ys = slice_set (slice_set xs d.bid (get_or xs d.bid 0 + q)) d.ask (get_or xs d.ask 0 + q)

  more : AreRunningTotals orders deals incoming_deals (at + 1) ys
  more = running-read orders list deals deal_list incoming_deals are n n_inside at lt xs run d d_read q q_is q_most ys refl

  bid-now : get_or xs d.bid 0 + q ≡ running_total deals incoming_deals (at + 1) d.bid
  bid-now =
      let b = named-read.bid_inside in
      let c = run.count in
      sym (get_or-set_other {A = ℕ} (slice_set xs d.bid (get_or xs d.bid 0 + q)) d.ask d.bid (get_or xs d.ask 0 + q) 0 apart ∙ get_or-set_same {A = ℕ} xs d.bid (get_or xs d.bid 0 + q) 0 (omega arith)) ∙ more.sums d.bid b

  ask-now : get_or xs d.ask 0 + q ≡ running_total deals incoming_deals (at + 1) d.ask
  ask-now =
      let a' = named-read.ask_inside in
      let c = run.count in
      let long = length-set {A = ℕ} xs d.bid (get_or xs d.bid 0 + q) in
      sym (get_or-set_same {A = ℕ} (slice_set xs d.bid (get_or xs d.bid 0 + q)) d.ask (get_or xs d.ask 0 + q) 0 (omega arith)) ∙ more.sums d.ask a'

  pub offence-read : (bt at' : ℕ) → bt ≡ get_or xs d.bid 0 + q → at' ≡ get_or xs d.ask 0 + q
      → (option_map (finding_of_offence orders) (deal_offence d (facts_with orders a before n d bt at')) ≡ conservation_finding orders deals (place_at orders n) (deal_index_at incoming_deals at))
      × IfSome (deal_offence d (facts_with orders a before n d bt at')) (IsOffenceInside orders)
  offence-read bt at' bt_is at_is =
      let tb = bt_is ∙ bid-now ∙ ap (λ (x : Deal). running_total deals incoming_deals (at + 1) x.bid) d-is in
      let ta = at_is ∙ ask-now ∙ ap (λ (x : Deal). running_total deals incoming_deals (at + 1) x.ask) d-is in (
        ap (λ (x : Deal). option_map (finding_of_offence orders) (deal_offence x (facts_with orders a before n x bt at'))) d-is ∙ checked orders list deals deal_list incoming_deals are n n_inside a known before traded_is at lt of bt at' tb ta,
        subst (λ (x : Deal). IfSome (deal_offence x (facts_with orders a before n x bt at')) (IsOffenceInside orders)) (sym d-is) (inside-here orders list deals deal_list incoming_deals are n n_inside a known before traded_is at lt of bt at'),
      )

  -- the first offence so far, and this deal's
  pub first-read : (start : ℕ) → start ≤ at → (first later : Option ListedOffence) (bt at' : ℕ) → bt ≡ get_or xs d.bid 0 + q → at' ≡ get_or xs d.ask 0 + q → later ≡ option_or first (deal_offence d (facts_with orders a before n d bt at'))
      → IsFirstFound (conservation_finding orders deals (place_at orders n)) incoming_deals n start at (option_map (finding_of_offence orders) first) → IfSome first (IsOffenceInside orders)
      → IsFirstFound (conservation_finding orders deals (place_at orders n)) incoming_deals n start (at + 1) (option_map (finding_of_offence orders) later) × IfSome later (IsOffenceInside orders)
  first-read start from first later bt at' bt_is at_is later_is found inside =
      let read = offence-read bt at' bt_is at_is in
      let mine = deal_offence d (facts_with orders a before n d bt at') in (
        subst (IsFirstFound (conservation_finding orders deals (place_at orders n)) incoming_deals n start (at + 1)) (sym (ap (option_map (finding_of_offence orders)) later_is ∙ map-or (finding_of_offence orders) first mine))
            (found-more (conservation_finding orders deals (place_at orders n)) incoming_deals n start at from of (option_map (finding_of_offence orders) first) (option_map (finding_of_offence orders) mine) found read.0),
        subst (λ (o : Option ListedOffence). IfSome o (IsOffenceInside orders)) (sym later_is) (or-inside orders first mine inside read.1),
      )

-- a deal of another cause has no finding here
pub conservation-away : (orders : List Order) (deals : List Deal) (p j : ℕ) → cause orders (deal_at deals j) ≢ p → conservation_finding orders deals p j ≡ None
conservation-away orders deals p j ne = cond-false (cause orders (deal_at deals j) == p) _ None (ne_eqb _ _ ne)
