-- The deals of one record, one after another.
use Rattle.std.proofs.Common.{◌≡◌, ◌≢◌, ◌<◌, ◌≤◌, ◌+◌, ◌-◌, ◌^◌, ◌⊎◌, ℕ, List, [], ◌∷◌, length, option_map, Bool, true, false, cond, Option, Some, None, IfSome, refl, sym, ap, ◌∙◌, arith, inl, inr, subst, get_or, take, add-one}
use Rattle.std.specs.Prelude.{nat_lt, not, ◌==◌, ◌&&◌, slice_set}
use Rattle.std.proofs.lemmas.List.{length-set, get_or-set_same, get_or-set_other}
use Rattle.std.proofs.lemmas.List.Sums.{sum_by_more}
use Rattle.std.proofs.lemmas.Bool.{cases_eq, cases_lt, lt-ltb, le-ltb, eq-eqb, ne_eqb, or_left, or_right, or_from, cond-true, cond-false}
use Rattle.std.proofs.lemmas.Bool.Decides.{nat_tests}
use Rattle.audit_base.specs.declared.orders.Order.{Order}
use Rattle.audit_base.specs.declared.orders.Deal.{Deal}
use Rattle.audit_base.specs.declared.findings.Finding.{Finding}
use Rattle.audit_base.specs.declared.flaws.TradedOrder.{TradedOrder}
use Rattle.audit_base.specs.declared.flaws.Evidence.{Evidence}
use Rattle.audit_base.specs.declared.flaws.Evidence.TheVariants.{Inactive, Limit, Quantity}
use Rattle.audit_base.specs.declared.terms.Side.TheVariants.{Buy, Sell}
use Rattle.audit_base.specs.Least.{least_answer, first_answer, only_if}
use Rattle.audit_base.specs.Orders.{order_at, place_at, side_at, may_rest, IsOrderList}
use Rattle.audit_base.specs.Deals.{is_price_within, names_order, deal_at, deal_past_end, quantity_traded_by, NamesOrders, IsDealList, number_at}
use Rattle.audit_base.specs.Continuous.{cause, resting_order, incoming_order, traded_before, traded_at, has_entered, size_of_order, rests_before_in_ledger, size_in_ledger, uncancelled_before}
use Rattle.audit_base.specs.CallOffences.{keeps_limits}
use Rattle.audit_base.specs.Flaws.{IsEvidenceInside, finding_of}
use Rattle.audit_base.specs.ContinuousOffences.{continuous_inactive_finding, continuous_limit_finding, size_finding, traded_upto, traded_shown_upto, conservation_finding}
use Rattle.audit_base.proofs.OrderLemmas.{not_both_sides}
use Rattle.audit_base.proofs.LeastLemmas.{least-none, least-at}
use Rattle.audit_base.proofs.OffenceLemmas.{get_or-default}
use Rattle.continuous_audit.specs.declared.incoming_deals.IncomingDeal.{IncomingDeal}
use Rattle.continuous_audit.specs.declared.checking.Account.{Account}
use Rattle.continuous_audit.specs.declared.checking.Accounts.{Accounts}
use Rattle.continuous_audit.specs.declared.checking.RecordOfDeal.{RecordOfDeal}
use Rattle.continuous_audit.specs.declared.order_numbers.OrderNumbers.{OrderNumbers}
use Rattle.continuous_audit.specs.IncomingDeals.{AreIncomingDeals, incoming_deal_of, running_total}
use Rattle.continuous_audit.specs.Flaws.{order_with_shown}
use Rattle.continuous_audit.specs.Records.{IsKnownBeforeDeals}
use Rattle.continuous_audit.specs.Scans.{AreRunningTotals, AreWithinGreatestSize, IsSplitAt, deal_index_at, incoming_deal_past_end, incoming_order_at}
use Rattle.continuous_audit.specs.DealFindings as by_deal
use Rattle.continuous_audit.proofs.FlawLemmas.{IsDealUpto, upto-n, deal-upto}
use Rattle.continuous_audit.proofs.IncomingLemmas.{incoming-cause, running-upto}
use Rattle.continuous_audit.proofs.RecordLemmas.{ends}

-- an order that rests before p, from what is left of it
wait-bools : (l u : Bool) (s a : ℕ) → ((l && u) && nat_lt 0 (s - a)) ≡ ((l && true) && (u && nat_lt a s))
wait-bools true true s a = grind (arith, nat_tests)
wait-bools true false s a = refl
wait-bools false true s a = refl
wait-bools false false s a = refl

pub waits-is : (orders : List Order) (past : ℕ → ℕ → ℕ) (p r left : ℕ) → place_at orders r < p → left ≡ size_in_ledger orders past r - past p r → by_deal.waits (order_at orders r) p left ≡ rests_before_in_ledger orders past p r
unfolding rests_before_in_ledger size_in_ledger
waits-is orders past p r left earlier e =
    let now : nat_lt (place_at orders r) p ≡ true = lt-ltb _ _ earlier in
    rw (e, now) (wait-bools (may_rest (order_at orders r).life) (uncancelled_before (order_at orders r).cancelled p) (size_in_ledger orders past r) (past p r))

-- the first property that a deal does not keep, and its finding
abbrev first_broken : TradedOrder → TradedOrder → TradedOrder → TradedOrder → Bool → Bool → Bool → Bool → Bool → Option Evidence
first_broken resting_order incoming_order bid ask r e w b a = first_answer (only_if (not r) (Inactive resting_order) ∷ only_if (not e) (Inactive incoming_order) ∷ only_if (not w) (Limit bid ask) ∷ only_if b (Quantity Buy bid) ∷ only_if a (Quantity Sell ask) ∷ [])

first-broken : (f : Evidence → Finding) (resting_order incoming_order bid ask : TradedOrder) (r e w b a : Bool)
    → first_answer (first_answer (only_if (not r) (f (Inactive resting_order)) ∷ only_if (not e) (f (Inactive incoming_order)) ∷ []) ∷ only_if (not w) (f (Limit bid ask)) ∷ only_if b (f (Quantity Buy bid)) ∷ only_if a (f (Quantity Sell ask)) ∷ [])
    ≡ option_map f (first_broken resting_order incoming_order bid ask r e w b a)
first-broken f resting_order incoming_order bid ask false e w b a = refl
first-broken f resting_order incoming_order bid ask true false w b a = refl
first-broken f resting_order incoming_order bid ask true true false b a = refl
first-broken f resting_order incoming_order bid ask true true true true a = refl
first-broken f resting_order incoming_order bid ask true true true false true = refl
first-broken f resting_order incoming_order bid ask true true true false false = refl

-- where there is none, neither order trades more than its Size
none-broken : (resting_order incoming_order bid ask : TradedOrder) (r e w b a : Bool) → first_broken resting_order incoming_order bid ask r e w b a ≡ None → (b ≡ false) × (a ≡ false)
none-broken resting_order incoming_order bid ask false e w b a none = absurd (cc)
none-broken resting_order incoming_order bid ask true false w b a none = absurd (cc)
none-broken resting_order incoming_order bid ask true true false b a none = absurd (cc)
none-broken resting_order incoming_order bid ask true true true true a none = absurd (cc)
none-broken resting_order incoming_order bid ask true true true false true none = absurd (cc)
none-broken resting_order incoming_order bid ask true true true false false none = (refl, refl)

within-size : (x : Account) → by_deal.is_over_size x ≡ false → x.traded ≤ x.size
within-size x off = elim (cases_lt x.size x.traded) [
  | inl over ↦ let on = lt-ltb _ _ over in absurd (cc)
  | inr within ↦ within
]

no-evidence : (d : Deal) (bid ask : Order) (deal_record : RecordOfDeal) (known : Accounts) → by_deal.deal_evidence d bid ask deal_record known ≡ None → (known.bid.traded ≤ known.bid.size) × (known.ask.traded ≤ known.ask.size)
no-evidence d bid ask deal_record known none =
    let off = none-broken (by_deal.resting_account bid ask known).shown (by_deal.incoming_account bid ask known).shown known.bid.shown known.ask.shown (by_deal.resting_waits bid ask deal_record.place known) deal_record.entered (is_price_within bid ask d) (by_deal.is_over_size known.bid) (by_deal.is_over_size known.ask) none in
    (within-size known.bid off.0, within-size known.ask off.1)

-- of two accounts that are shown as two orders, that which a test picks is shown as
-- the one that it picks
shown-picked : (shown : ℕ → ℕ) (t : Bool) (x y : Account) (i j : ℕ) → x.shown ≡ order_with_shown shown i → y.shown ≡ order_with_shown shown j → (cond t x y).shown ≡ order_with_shown shown (cond t i j)
shown-picked shown true x y i j first second = first
shown-picked shown false x y i j first second = second

-- the orders are in the list that the first property shows which a deal does not keep
broken-inside : (orders : List Order) (resting_order incoming_order bid ask : TradedOrder) (r e w b a : Bool) → resting_order.index < length orders → incoming_order.index < length orders → bid.index < length orders → ask.index < length orders
    → IfSome (first_broken resting_order incoming_order bid ask r e w b a) (IsEvidenceInside orders)
broken-inside orders resting_order incoming_order bid ask false e w b a rest come buys sells = rest
broken-inside orders resting_order incoming_order bid ask true false w b a rest come buys sells = come
broken-inside orders resting_order incoming_order bid ask true true false b a rest come buys sells = (buys, sells)
broken-inside orders resting_order incoming_order bid ask true true true true a rest come buys sells = buys
broken-inside orders resting_order incoming_order bid ask true true true false true rest come buys sells = sells
broken-inside orders resting_order incoming_order bid ask true true true false false rest come buys sells = tt

picked-inside : (n : ℕ) (t : Bool) (x y : Account) → x.shown.index < n → y.shown.index < n → (cond t x y).shown.index < n
picked-inside n true x y first second = first
picked-inside n false x y first second = second

evidence-inside : (orders : List Order) (d : Deal) (bid ask : Order) (deal_record : RecordOfDeal) (known : Accounts) → known.bid.shown.index < length orders → known.ask.shown.index < length orders → IfSome (by_deal.deal_evidence d bid ask deal_record known) (IsEvidenceInside orders)
evidence-inside orders d bid ask deal_record known buys sells =
    let earlier = nat_lt bid.place ask.place in
    broken-inside orders (by_deal.resting_account bid ask known).shown (by_deal.incoming_account bid ask known).shown known.bid.shown known.ask.shown (by_deal.resting_waits bid ask deal_record.place known) deal_record.entered (is_price_within bid ask d) (by_deal.is_over_size known.bid) (by_deal.is_over_size known.ask)
    (picked-inside (length orders) earlier known.bid known.ask buys sells) (picked-inside (length orders) earlier known.ask known.bid sells buys) buys sells

module _ (orders : List Order) (list : IsOrderList orders) (deals : List Deal) (deal_list : IsDealList orders deals) (incoming_deals : List IncomingDeal) (are : AreIncomingDeals orders deals incoming_deals) (n : ℕ) (n_inside : n < length orders) where
  abbrev p : ℕ
  p = place_at orders n

  abbrev past : ℕ → ℕ → ℕ
  past = traded_before orders deals

  -- the finding that evidence at a deal is
  abbrev pub finding_by : Deal → Evidence → Finding
  finding_by d e = finding_of orders (record { place = d.place; evidence = e })

  -- the finding at a deal of this cause, by the first property that it does not keep
  finding-is : (k : ℕ) → cause orders (deal_at deals k) ≡ p → conservation_finding orders deals p k
      ≡ option_map (finding_by (deal_at deals k)) (first_broken (order_with_shown (traded_shown_upto orders deals p k) (resting_order orders (deal_at deals k))) (order_with_shown (traded_shown_upto orders deals p k) (incoming_order orders (deal_at deals k)))
      (order_with_shown (traded_shown_upto orders deals p k) (deal_at deals k).bid) (order_with_shown (traded_shown_upto orders deals p k) (deal_at deals k).ask)
      (rests_before_in_ledger orders past p (resting_order orders (deal_at deals k))) (has_entered orders deals (incoming_order orders (deal_at deals k))) (keeps_limits orders (deal_at deals k))
      (nat_lt (size_of_order orders deals (deal_at deals k).bid) (traded_upto orders deals p k (deal_at deals k).bid)) (nat_lt (size_of_order orders deals (deal_at deals k).ask) (traded_upto orders deals p k (deal_at deals k).ask)))
  unfolding continuous_inactive_finding continuous_limit_finding size_finding
  finding-is k at = cond-true (cause orders (deal_at deals k) == p) _ None (eq-eqb _ _ at)
      ∙ first-broken (finding_by (deal_at deals k)) (order_with_shown (traded_shown_upto orders deals p k) (resting_order orders (deal_at deals k))) (order_with_shown (traded_shown_upto orders deals p k) (incoming_order orders (deal_at deals k)))
      (order_with_shown (traded_shown_upto orders deals p k) (deal_at deals k).bid) (order_with_shown (traded_shown_upto orders deals p k) (deal_at deals k).ask)
      (rests_before_in_ledger orders past p (resting_order orders (deal_at deals k))) (has_entered orders deals (incoming_order orders (deal_at deals k))) (keeps_limits orders (deal_at deals k))
      (nat_lt (size_of_order orders deals (deal_at deals k).bid) (traded_upto orders deals p k (deal_at deals k).bid)) (nat_lt (size_of_order orders deals (deal_at deals k).ask) (traded_upto orders deals p k (deal_at deals k).ask))

  module _ (entered : Bool) (order_numbers : OrderNumbers) (known : IsKnownBeforeDeals orders deals n entered order_numbers) (at : ℕ) (lt : at < length incoming_deals) (of : incoming_order_at incoming_deals at ≡ n) where
    abbrev k : ℕ
    k = deal_index_at incoming_deals at

    abbrev d : Deal
    d = deal_at deals k

    k_inside : k < length deals
    k_inside = (are.only at incoming_deal_past_end lt).0

    named_here : NamesOrders orders d
    named_here = deal_list.named k deal_past_end k_inside

    incoming_here : incoming_order orders d ≡ n
    incoming_here = sym (ap (λ (c : IncomingDeal). c.order) (are.only at incoming_deal_past_end lt).1) ∙ of

    cause_here : cause orders d ≡ p
    cause_here = sym (incoming-cause orders d) ∙ ap (place_at orders) incoming_here

    running_here : (x : ℕ) → running_total deals incoming_deals (at + 1) x ≡ traded_upto orders deals p k x
    running_here x = ap (λ (m : ℕ). running_total deals incoming_deals m x) (add-one at) ∙ running-upto orders list deals deal_list.named incoming_deals are at incoming_deal_past_end lt x
        ∙ ap (λ (m : ℕ). traded_before orders deals (place_at orders m) x + traded_at orders (take (k + 1) deals) (place_at orders m) x) of

    below-n : (x : ℕ) → x < length orders → place_at orders x < p → x < n
    below-n x inside less = elim (cases_eq x n) [
      | inl e ↦ let same : place_at orders x ≡ p = ap (place_at orders) e in absurd (omega arith)
      | inr ne ↦ let le = upto-n orders list n n_inside x inside (omega arith) in omega (arith, ne)
    ]

    pub here-upto : IsDealUpto deals n k
    here-upto = deal-upto orders list deals deal_list n n_inside k k_inside cause_here

    -- what is known of its orders
    abbrev accounts : ℕ → ℕ → Accounts
    accounts bt at' = record { bid = by_deal.account_of order_numbers d.bid bt; ask = by_deal.account_of order_numbers d.ask at' }

    -- whether its resting order rests
    waits-here : (bt at' : ℕ) → by_deal.resting_waits (order_at orders d.bid) (order_at orders d.ask) p (accounts bt at') ≡ rests_before_in_ledger orders past p (resting_order orders d)
    waits-here bt at' =
        let e = ends orders list deals deal_list.named n n_inside d named_here cause_here in
        elim (cases_lt (place_at orders d.bid) (place_at orders d.ask)) [
          | inl less ↦
              let t : nat_lt (place_at orders d.bid) (place_at orders d.ask) ≡ true = lt-ltb _ _ less in
              let r_is : d.bid ≡ resting_order orders d = sym (cond-true _ d.bid d.ask t) in
              let earlier : place_at orders d.bid < p = omega (arith, cause_here) in
              cond-true _ _ _ t ∙ waits-is orders past p d.bid (number_at order_numbers.left.items d.bid) earlier (known.left.is d.bid (below-n d.bid named_here.bid_inside earlier)) ∙ ap (rests_before_in_ledger orders past p) r_is
          | inr le ↦
              let f : nat_lt (place_at orders d.bid) (place_at orders d.ask) ≡ false = le-ltb _ _ le in
              let r_is : d.ask ≡ resting_order orders d = sym (cond-false _ d.bid d.ask f) in
              let earlier : place_at orders d.ask < p = subst (λ x. place_at orders x < p) (sym (r_is ∙ e.1.resting_is)) e.1.earlier in
              cond-false _ _ _ f ∙ waits-is orders past p d.ask (number_at order_numbers.left.items d.ask) earlier (known.left.is d.ask (below-n d.ask named_here.ask_inside earlier)) ∙ ap (rests_before_in_ledger orders past p) r_is
        ]

    checked : (bt at' : ℕ) → bt ≡ running_total deals incoming_deals (at + 1) d.bid → at' ≡ running_total deals incoming_deals (at + 1) d.ask
        → conservation_finding orders deals p k ≡ option_map (finding_by d)
        (by_deal.deal_evidence d (order_at orders d.bid) (order_at orders d.ask) (record { place = p; entered = entered }) (accounts bt at'))
    checked bt at' bt_is at_is =
        let shown = traded_shown_upto orders deals p k in
        let tb : bt ≡ traded_upto orders deals p k d.bid = bt_is ∙ running_here d.bid in
        let ta : at' ≡ traded_upto orders deals p k d.ask = at_is ∙ running_here d.ask in
        let zb = known.sizes.is d.bid (let le = here-upto.bid_upto in omega arith) in
        let za = known.sizes.is d.ask (let le = here-upto.ask_upto in omega arith) in
        let before_bid = known.chain_traded.is d.bid (let le = here-upto.bid_upto in omega arith) in
        let before_ask = known.chain_traded.is d.ask (let le = here-upto.ask_upto in omega arith) in
        let bid : (accounts bt at').bid.shown ≡ order_with_shown shown d.bid = λ i. record { index = d.bid; traded = tb i + before_bid i } in
        let ask : (accounts bt at').ask.shown ≡ order_with_shown shown d.ask = λ i. record { index = d.ask; traded = ta i + before_ask i } in
        let earlier = nat_lt (place_at orders d.bid) (place_at orders d.ask) in
        let rest = shown-picked shown earlier (accounts bt at').bid (accounts bt at').ask d.bid d.ask bid ask in
        let come = shown-picked shown earlier (accounts bt at').ask (accounts bt at').bid d.ask d.bid ask bid in
        let a : entered ≡ has_entered orders deals (incoming_order orders d) = known.arrived ∙ ap (has_entered orders deals) (sym incoming_here) in
        finding-is k cause_here
        ∙ sym (λ i. option_map (finding_by d) (first_broken (rest i) (come i) (bid i) (ask i) (waits-here bt at' i) (a i) (keeps_limits orders d) (nat_lt (zb i) (tb i)) (nat_lt (za i) (ta i))))

  -- deals of other causes have no finding, and those of this one are among the incoming deals
  module _ (start at : ℕ) (split : IsSplitAt incoming_deals n start) (clean : (i : ℕ) → start ≤ i → i < at → conservation_finding orders deals p (deal_index_at incoming_deals i) ≡ None) where
    -- a deal with a finding is this incoming deal or a later one
    later-cause : (j : ℕ) → j < length deals → (conservation_finding orders deals p j ≡ None) ⊎ ((i : ℕ) × (at ≤ i) × (i < length incoming_deals) × (incoming_order_at incoming_deals i ≡ n) × (deal_index_at incoming_deals i ≡ j))
    later-cause j lt = elim (cases_eq (cause orders (deal_at deals j)) p) [
      | inr away ↦ inl (cond-false (cause orders (deal_at deals j) == p) _ None (ne_eqb _ _ away))
      | inl here ↦
          let has = are.each j lt in
          let i = has.0 in
          let is : get_or incoming_deals i incoming_deal_past_end ≡ incoming_deal_of orders deals j = get_or-default incoming_deals i incoming_deal_past_end (incoming_deal_of orders deals j) has.1 ∙ has.2 in
          let deal_is : deal_index_at incoming_deals i ≡ j = ap (λ (c : IncomingDeal). c.deal) is in
          let named_j = deal_list.named j deal_past_end lt in
          let e = ends orders list deals deal_list.named n n_inside (deal_at deals j) named_j here in
          let order_is : incoming_order_at incoming_deals i ≡ n = ap (λ (c : IncomingDeal). c.order) is ∙ e.1.incoming_is in
          let from : start ≤ i = elim (cases_lt i start) [ inr ok ↦ ok | inl early ↦ let l = split.early i early has.1 in absurd (omega arith) ] in
          elim (cases_lt i at) [
            | inl done ↦ inl (subst (λ m. conservation_finding orders deals p m ≡ None) deal_is (clean i from done))
            | inr left ↦ inr (i, left, has.1, order_is, deal_is)
          ]
    ]

    pub all-clean : (at < length incoming_deals → incoming_order_at incoming_deals at ≢ n) → start ≤ at → least_answer (conservation_finding orders deals p) (length deals) ≡ None
    all-clean stop from = least-none (conservation_finding orders deals p) (length deals) (λ j lt. elim (later-cause j lt) [
      | inl none ↦ none
      | inr found ↦
          let i = found.0 in
          let inside : at < length incoming_deals = omega (arith, found.1, found.2) in
          let low = split.late at from inside in
          elim (cases_eq i at) [
            | inl e ↦ absurd (stop inside (ap (incoming_order_at incoming_deals) (sym e) ∙ found.3))
            | inr ne ↦ elim (are.rising at i incoming_deal_past_end (omega (arith, ne, found.1)) found.2) [
              | inl less ↦ let same = found.3 in absurd (omega arith)
              | inr tie ↦ absurd (stop inside (tie.0 ∙ found.3))
            ]
          ]
    ])

    pub first-finding : (f : Finding) → at < length incoming_deals → incoming_order_at incoming_deals at ≡ n → conservation_finding orders deals p (deal_index_at incoming_deals at) ≡ Some f → least_answer (conservation_finding orders deals p) (length deals) ≡ Some f
    first-finding f inside of e =
        let k = deal_index_at incoming_deals at in
        let k_in : k < length deals = (are.only at incoming_deal_past_end inside).0 in
        least-at (conservation_finding orders deals p) (length deals) k f k_in (least-none (conservation_finding orders deals p) k (λ j lt. elim (later-cause j (omega arith)) [
          | inl none ↦ none
          | inr found ↦
              let i = found.0 in
              elim (cases_eq i at) [
                | inl same ↦ let d : k ≡ j = ap (deal_index_at incoming_deals) (sym same) ∙ found.4 in absurd (omega arith)
                | inr ne ↦ elim (are.rising at i incoming_deal_past_end (omega (arith, ne, found.1)) found.2) [
                  | inl less ↦ let o = found.3 in absurd (omega arith)
                  | inr tie ↦ let d = found.4 in let l = tie.1 in absurd (omega arith)
                ]
              ]
        ])) e

-- One deal more is added.

module _ (orders : List Order) (deals : List Deal) (incoming_deals : List IncomingDeal) (at : ℕ) (lt : at < length incoming_deals) (xs : List ℕ) (is : AreRunningTotals orders deals incoming_deals at xs)
    (d : Deal) (d_is : d ≡ deal_at deals (deal_index_at incoming_deals at)) (named : NamesOrders orders d) (q : ℕ) (q_is : q ≡ d.quantity) (q_most : q ≤ 10 ^ 12) where
  abbrev ys : List ℕ
  ys = slice_set (slice_set xs d.bid (get_or xs d.bid 0 + q)) d.ask (get_or xs d.ask 0 + q)

  apart : d.bid ≢ d.ask
  apart same = not_both_sides (sym named.buys ∙ ap (side_at orders) same ∙ named.sells)

  within_bid : d.bid < length xs
  within_bid = omega (arith, is.count, named.bid_inside)

  within_ask : d.ask < length xs
  within_ask = omega (arith, is.count, named.ask_inside)

  at_ask : get_or ys d.ask 0 ≡ get_or xs d.ask 0 + q
  at_ask = get_or-set_same {A = ℕ} (slice_set xs d.bid (get_or xs d.bid 0 + q)) d.ask (get_or xs d.ask 0 + q) 0 (omega (arith, length-set {A = ℕ} xs d.bid (get_or xs d.bid 0 + q), within_ask))

  at_bid : get_or ys d.bid 0 ≡ get_or xs d.bid 0 + q
  at_bid = get_or-set_other {A = ℕ} (slice_set xs d.bid (get_or xs d.bid 0 + q)) d.ask d.bid (get_or xs d.ask 0 + q) 0 apart ∙ get_or-set_same {A = ℕ} xs d.bid (get_or xs d.bid 0 + q) 0 within_bid

  at_other : (i : ℕ) → i ≢ d.bid → i ≢ d.ask → get_or ys i 0 ≡ get_or xs i 0
  at_other i not_bid not_ask =
      get_or-set_other {A = ℕ} (slice_set xs d.bid (get_or xs d.bid 0 + q)) d.ask i (get_or xs d.ask 0 + q) 0 not_ask ∙ get_or-set_other {A = ℕ} xs d.bid i (get_or xs d.bid 0 + q) 0 not_bid

  added-at : (x : ℕ) → (get_or ys x 0 ≡ get_or xs x 0 + quantity_traded_by x d) × (quantity_traded_by x d ≤ 10 ^ 12)
  added-at x = elim (cases_eq x d.bid) [
    | inl e ↦
        let on : quantity_traded_by x d ≡ d.quantity = cond-true (names_order x d) d.quantity 0 (or_left _ _ (eq-eqb d.bid x (sym e))) in
        (subst (λ (y : ℕ). get_or ys y 0 ≡ get_or xs y 0 + quantity_traded_by x d) (sym e) (omega (arith, at_bid)), omega arith)
    | inr not_bid ↦ elim (cases_eq x d.ask) [
      | inl e ↦
          let on : quantity_traded_by x d ≡ d.quantity = cond-true (names_order x d) d.quantity 0 (or_right (d.bid == x) _ (eq-eqb d.ask x (sym e))) in
          (subst (λ (y : ℕ). get_or ys y 0 ≡ get_or xs y 0 + quantity_traded_by x d) (sym e) (omega (arith, at_ask)), omega arith)
      | inr not_ask ↦
          let off : quantity_traded_by x d ≡ 0 = cond-false (names_order x d) d.quantity 0 (or_from _ _ (ne_eqb d.bid x (λ e. not_bid (sym e))) (ne_eqb d.ask x (λ e. not_ask (sym e)))) in
          (omega (arith, at_other x not_bid not_ask), omega arith)
    ]
  ]

  more : (x : ℕ) → running_total deals incoming_deals (at + 1) x ≡ running_total deals incoming_deals at x + quantity_traded_by x d
  more x = sum_by_more (λ (c : IncomingDeal). quantity_traded_by x (deal_at deals c.deal)) incoming_deals at incoming_deal_past_end lt ∙ ap (λ (e : Deal). running_total deals incoming_deals at x + quantity_traded_by x e) (sym d_is)

  bid-now : get_or xs d.bid 0 + q ≡ running_total deals incoming_deals (at + 1) d.bid
  bid-now = sym at_bid ∙ (added-at d.bid).0 ∙ ap (λ (m : ℕ). m + quantity_traded_by d.bid d) (is.sums d.bid named.bid_inside) ∙ sym (more d.bid)

  ask-now : get_or xs d.ask 0 + q ≡ running_total deals incoming_deals (at + 1) d.ask
  ask-now = sym at_ask ∙ (added-at d.ask).0 ∙ ap (λ (m : ℕ). m + quantity_traded_by d.ask d) (is.sums d.ask named.ask_inside) ∙ sym (more d.ask)

  running-after : (zs : List ℕ) → zs ≡ ys → AreRunningTotals orders deals incoming_deals (at + 1) zs
  running-after zs same = subst (AreRunningTotals orders deals incoming_deals (at + 1)) (sym same) (record {
    inside = omega arith;
    count = length-set {A = ℕ} (slice_set xs d.bid (get_or xs d.bid 0 + q)) d.ask (get_or xs d.ask 0 + q) ∙ length-set {A = ℕ} xs d.bid (get_or xs d.bid 0 + q) ∙ is.count;
    sums = λ x inside. (added-at x).0 ∙ ap (λ (m : ℕ). m + quantity_traded_by x d) (is.sums x inside) ∙ sym (more x);
    fits = λ x inside. let a = added-at x in let f = is.fits x inside in omega (arith, a.0, a.1);
  })

-- the same, in the words of the code: the deal and the orders that it reads, and what it adds
module _ (orders : List Order) (list : IsOrderList orders) (deals : List Deal) (deal_list : IsDealList orders deals) (incoming_deals : List IncomingDeal) (are : AreIncomingDeals orders deals incoming_deals) (n : ℕ) (n_inside : n < length orders)
    (at : ℕ) (lt : at < length incoming_deals) (xs : List ℕ) (run : AreRunningTotals orders deals incoming_deals at xs)
    (d : Deal) (d_read : d ≡ get_or deals (deal_index_at incoming_deals at) d) (q : ℕ) (q_is : q ≡ d.quantity) (q_most : d.quantity ≤ 10 ^ 12) where
  k_in : deal_index_at incoming_deals at < length deals
  k_in = (are.only at incoming_deal_past_end lt).0

  d_is : d ≡ deal_at deals (deal_index_at incoming_deals at)
  d_is = d_read ∙ get_or-default deals (deal_index_at incoming_deals at) d deal_past_end k_in

  named : NamesOrders orders d
  named = subst (NamesOrders orders) (sym d_is) (deal_list.named (deal_index_at incoming_deals at) deal_past_end k_in)

  pub running-read : (zs : List ℕ) → zs ≡ slice_set (slice_set xs d.bid (get_or xs d.bid 0 + q)) d.ask (get_or xs d.ask 0 + q) → AreRunningTotals orders deals incoming_deals (at + 1) zs
  running-read zs made = running-after orders deals incoming_deals at lt xs run d d_is named q q_is (omega arith) zs made

  pub finding-read : (of : incoming_order_at incoming_deals at ≡ n) (deal_record : RecordOfDeal) (order_numbers : OrderNumbers) (known : IsKnownBeforeDeals orders deals n deal_record.entered order_numbers) (own bid ask : Order) → own ≡ order_at orders n → bid ≡ order_at orders d.bid → ask ≡ order_at orders d.ask → deal_record.place ≡ own.place
      → (accounts : Accounts) (bt at' : ℕ) → accounts.bid ≡ by_deal.account_of order_numbers d.bid bt → accounts.ask ≡ by_deal.account_of order_numbers d.ask at' → bt ≡ get_or xs d.bid 0 + q → at' ≡ get_or xs d.ask 0 + q
      → conservation_finding orders deals (place_at orders n) (deal_index_at incoming_deals at) ≡ option_map (finding_by orders list deals deal_list incoming_deals are n n_inside d) (by_deal.deal_evidence d bid ask deal_record accounts)
  finding-read of deal_record order_numbers known own bid ask own_read bid_read ask_read p_is accounts bt at' b_is a_is bt_is at_is =
      let e = deal_at deals (deal_index_at incoming_deals at) in
      let place : deal_record.place ≡ place_at orders n = p_is ∙ ap (λ (o : Order). o.place) own_read in
      let b : bid ≡ order_at orders e.bid = bid_read ∙ ap (λ (x : Deal). order_at orders x.bid) d_is in
      let a : ask ≡ order_at orders e.ask = ask_read ∙ ap (λ (x : Deal). order_at orders x.ask) d_is in
      let kb : accounts.bid ≡ by_deal.account_of order_numbers e.bid bt = b_is ∙ ap (λ (x : Deal). by_deal.account_of order_numbers x.bid bt) d_is in
      let ka : accounts.ask ≡ by_deal.account_of order_numbers e.ask at' = a_is ∙ ap (λ (x : Deal). by_deal.account_of order_numbers x.ask at') d_is in
      let tb = bt_is ∙ bid-now orders deals incoming_deals at lt xs run d d_is named q q_is (omega arith) ∙ ap (λ (x : Deal). running_total deals incoming_deals (at + 1) x.bid) d_is in
      let ta = at_is ∙ ask-now orders deals incoming_deals at lt xs run d d_is named q q_is (omega arith) ∙ ap (λ (x : Deal). running_total deals incoming_deals (at + 1) x.ask) d_is in
      checked orders list deals deal_list incoming_deals are n n_inside deal_record.entered order_numbers known at lt of bt at' tb ta
      ∙ sym (λ i. option_map (finding_by orders list deals deal_list incoming_deals are n n_inside (d_is i)) (by_deal.deal_evidence (d_is i) (b i) (a i) (record { place = place i; entered = deal_record.entered }) (record { bid = kb i; ask = ka i })))

  -- where it shows nothing, no order trades more than the greatest Size
  pub most-read : AreWithinGreatestSize xs → (bid ask : Order) (deal_record : RecordOfDeal) (order_numbers : OrderNumbers) → AreWithinGreatestSize order_numbers.sizes.items → (accounts : Accounts) (bt at' : ℕ) → accounts.bid ≡ by_deal.account_of order_numbers d.bid bt → accounts.ask ≡ by_deal.account_of order_numbers d.ask at' → bt ≡ get_or xs d.bid 0 + q → at' ≡ get_or xs d.ask 0 + q
      → by_deal.deal_evidence d bid ask deal_record accounts ≡ None → (zs : List ℕ) → zs ≡ slice_set (slice_set xs d.bid (get_or xs d.bid 0 + q)) d.ask (get_or xs d.ask 0 + q) → AreWithinGreatestSize zs
  most-read most bid ask deal_record order_numbers sizes accounts bt at' b_is a_is bt_is at_is none zs made = subst AreWithinGreatestSize (sym made) (λ x. elim (cases_eq x d.bid) [
    | inl e ↦ subst (λ (y : ℕ). number_at (slice_set (slice_set xs d.bid (get_or xs d.bid 0 + q)) d.ask (get_or xs d.ask 0 + q)) y ≤ 10 ^ 12) (sym e)
        (let now = at_bid orders deals incoming_deals at lt xs run d d_is named q q_is (omega arith) in
        let traded_is : accounts.bid.traded ≡ bt = ap (λ (c : Account). c.traded) b_is in
        let size_is : accounts.bid.size ≡ number_at order_numbers.sizes.items d.bid = ap (λ (c : Account). c.size) b_is in
        let within = (no-evidence d bid ask deal_record accounts none).0 in
        let top = sizes d.bid in
        omega arith)
    | inr not_bid ↦ elim (cases_eq x d.ask) [
      | inl e ↦ subst (λ (y : ℕ). number_at (slice_set (slice_set xs d.bid (get_or xs d.bid 0 + q)) d.ask (get_or xs d.ask 0 + q)) y ≤ 10 ^ 12) (sym e)
          (let now = at_ask orders deals incoming_deals at lt xs run d d_is named q q_is (omega arith) in
          let traded_is : accounts.ask.traded ≡ at' = ap (λ (c : Account). c.traded) a_is in
          let size_is : accounts.ask.size ≡ number_at order_numbers.sizes.items d.ask = ap (λ (c : Account). c.size) a_is in
          let within = (no-evidence d bid ask deal_record accounts none).1 in
          let top = sizes d.ask in
          omega arith)
      | inr not_ask ↦ let same = at_other orders deals incoming_deals at lt xs run d d_is named q q_is (omega arith) x not_bid not_ask in let old = most x in omega arith
    ]
  ])

  -- the orders that it shows are in the list
  pub inside-read : (bid ask : Order) (deal_record : RecordOfDeal) (order_numbers : OrderNumbers) (accounts : Accounts) (bt at' : ℕ) → accounts.bid ≡ by_deal.account_of order_numbers d.bid bt → accounts.ask ≡ by_deal.account_of order_numbers d.ask at' → IfSome (by_deal.deal_evidence d bid ask deal_record accounts) (IsEvidenceInside orders)
  inside-read bid ask deal_record order_numbers accounts bt at' b_is a_is = evidence-inside orders d bid ask deal_record accounts
      (subst (λ (x : Account). x.shown.index < length orders) (sym b_is) named.bid_inside)
      (subst (λ (x : Account). x.shown.index < length orders) (sym a_is) named.ask_inside)
